use Rattle.std.proofs.Common.{◌≡◌, drop, length, ◌-◌}
use Rattle.quic_c_headers.specs.Packets.{PacketAnswerBy}
use Rattle.quic_c_headers.proofs.Walking.{Walking}
use Rattle.quic_c_headers.proofs.walks.walk_packets.Given as goal

abbrev pub invariant-loop-count : goal.invariant-loop-count
invariant-loop-count l =
    Walking (PacketAnswerBy l.fn.flags l.fn.id_len l.versions) l.datagram l.heads l.start l.count
    × (drop l.count l.heads ≡ drop l.count l.initial.heads)

abbrev pub decreases-loop-count : goal.decreases-loop-count
decreases-loop-count l = length l.initial.heads - l.count
