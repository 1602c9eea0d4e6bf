-- By the flags' law.
use Rattle.std.proofs.Common.{length}
use Rattle.quic_header_decode.specs.Places.{any_fixed}
use Rattle.quic_header_decode.specs.Rfc.{RfcPacketAnswer}
use Rattle.quic_c_headers.specs.Packets.{PacketAnswerBy}
use Rattle.quic_c_headers.proofs.RfcWalks.{row_one_by}
use Rattle.quic_c_headers.proofs.walks.walk_rfc.Goals as goal

pub returns-clause-one : goal.returns-clause-one
returns-clause-one c = λ fits few.
    row_one_by (PacketAnswerBy 0x3ef c.args.id_len c.args.versions.now)
    (RfcPacketAnswer (any_fixed c.args.id_len c.args.versions.now))
    (λ bytes answer. c.rfc_flags.ensures.packet c.args.id_len c.args.versions.now bytes answer)
    (length c.args.heads.now) c.args.datagram.now _ _ _ (c.walk_packets.ensures.one fits few)
