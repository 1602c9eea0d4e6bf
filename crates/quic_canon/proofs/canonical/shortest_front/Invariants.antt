use Rattle.quic_frames.specs.Walk.{left}
use Rattle.std.proofs.Common.{length}
use Rattle.quic_canon.proofs.FrontWalk.{FrontWalk}
use Rattle.quic_canon.proofs.canonical.shortest_front.Given as goal

abbrev pub invariant-loop-item : goal.invariant-loop-item
invariant-loop-item l = FrontWalk l.payload l.front l.start l.iter

abbrev pub decreases-loop-item : goal.decreases-loop-item
decreases-loop-item l = length (left l.iter)
