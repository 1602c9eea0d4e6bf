-- By the law of no flags.
use Rattle.std.proofs.Common.{length}
use Rattle.quic_c_headers.proofs.PlainWalks.{plain_refused, plain_whole}
use Rattle.quic_c_headers.proofs.walks.walk_plain.Goals as goal

pub returns-clause-whole : goal.returns-clause-whole
returns-clause-whole c = λ fits few zero.
    plain_whole c.args.id_len c.args.versions.now (length c.args.heads.now) c.args.datagram.now c.walk_packets.result.count
    c.walk_packets.result.last c.walk_packets.new.heads c.are_bytes.ensures c.no_flags.ensures c.one_answer.ensures.cut_found
    (c.walk_packets.ensures.one fits few) zero

pub returns-clause-refused : goal.returns-clause-refused
returns-clause-refused c = λ fits few why fails.
    plain_refused c.args.id_len c.args.versions.now (length c.args.heads.now) c.args.datagram.now c.walk_packets.result.count
    c.walk_packets.result.last c.walk_packets.new.heads why c.are_bytes.ensures c.no_flags.ensures
    c.one_answer.ensures.cut_found c.distinct.ensures (c.walk_packets.ensures.one fits few) fails
