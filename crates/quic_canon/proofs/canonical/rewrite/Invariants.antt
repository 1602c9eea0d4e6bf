use Rattle.quic_frames.specs.Walk.{left}
use Rattle.std.proofs.Common.{length}
use Rattle.quic_canon.proofs.RewriteWalk.{RewriteWalk}
use Rattle.quic_canon.proofs.canonical.rewrite.Given as goal

abbrev pub invariant-loop-item : goal.invariant-loop-item
invariant-loop-item l = RewriteWalk l.fn.out l.out l.payload l.from l.start l.iter

abbrev pub decreases-loop-item : goal.decreases-loop-item
decreases-loop-item l = length (left l.iter)
