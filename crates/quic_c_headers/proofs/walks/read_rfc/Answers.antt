-- By the flags' law.
use Rattle.std.proofs.Common.{◌≡◌, rules, to_z, of_z, w64}
use Rattle.quic_header_decode.specs.Places.{any_fixed}
use Rattle.quic_header_decode.specs.Rfc.{RfcPacketAnswer}
use Rattle.quic_c_headers.specs.Packets.{PacketAnswerBy}
use Rattle.quic_c_headers.proofs.RfcWalks.{answer_by, error_exactly, packet_exactly}
use Rattle.quic_c_headers.proofs.walks.read_rfc.Goals as goal

pub returns-clause-one : goal.returns-clause-one
returns-clause-one c = λ fits few.
    let count : to_z w64 (of_z w64 c.quic_wire_header_read_.result) ≡ c.quic_wire_header_read_.result = search rules in
    answer_by (PacketAnswerBy 0x3ef c.args.id_len c.args.versions.now)
    (RfcPacketAnswer (any_fixed c.args.id_len c.args.versions.now))
    (λ bytes answer. c.rfc_flags.ensures.packet c.args.id_len c.args.versions.now bytes answer) c.args.packet.now c.quic_wire_header_read_.new.head
    count (c.quic_wire_header_read_.ensures.packet fits few)

pub returns-clause-packet : goal.returns-clause-packet
returns-clause-packet c = λ fits few end.
    packet_exactly (RfcPacketAnswer (any_fixed c.args.id_len c.args.versions.now)) c.args.packet.now
    (to_z w64 (of_z w64 c.quic_wire_header_read_.result)) c.quic_wire_header_read_.new.head end
    (returns-clause-one c fits few)

pub returns-clause-refused : goal.returns-clause-refused
returns-clause-refused c = λ fits few why.
    error_exactly (RfcPacketAnswer (any_fixed c.args.id_len c.args.versions.now)) c.args.packet.now
    (to_z w64 (of_z w64 c.quic_wire_header_read_.result)) c.quic_wire_header_read_.new.head why
    c.distinct.ensures (returns-clause-one c fits few)
