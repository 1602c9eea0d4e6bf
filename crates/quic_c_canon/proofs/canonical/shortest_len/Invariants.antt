use Rattle.std.proofs.Common.{length}
use Rattle.quic_frames.specs.Walk.{left}
use Rattle.quic_c_canon.proofs.LenWalk.{LenWalk}
use Rattle.quic_c_canon.proofs.canonical.shortest_len.Given as goal

abbrev pub invariant-loop-item : goal.invariant-loop-item
invariant-loop-item l = LenWalk l.payload l.total l.start l.iter

abbrev pub decreases-loop-item : goal.decreases-loop-item
decreases-loop-item l = length (left l.iter)
