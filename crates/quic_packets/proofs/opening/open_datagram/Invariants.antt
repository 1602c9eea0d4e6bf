use Rattle.quic_packets.specs.Opening.{left_size}
use Rattle.quic_packets.proofs.Nexts.{Reached}
use Rattle.quic_packets.proofs.Openings.{opening_of}
use Rattle.quic_packets.proofs.opening.open_datagram.Given as goal

abbrev pub invariant-loop-bytes : goal.invariant-loop-bytes
invariant-loop-bytes g l =
    Reached (opening_of g.H.HeaderKey g.P.PacketKey g.C.ConnectionIdParser l.keys l.parser l.versions l.grease l.expected)
    l.initial.out.items l.fn.bytes.items l.out.items l.left

abbrev pub decreases-loop-bytes : goal.decreases-loop-bytes
decreases-loop-bytes g l = left_size l.left
