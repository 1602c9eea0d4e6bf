use Rattle.std.proofs.Common.{length}
use Rattle.quic_frames.specs.Walk.{left}
use Rattle.quic_c_canon.proofs.StoreWalk.{StoreWalk}
use Rattle.quic_c_canon.proofs.canonical.store.Given as goal

abbrev pub invariant-loop-item : goal.invariant-loop-item
invariant-loop-item l = StoreWalk l.payload l.fn.dest l.dest l.at l.iter

abbrev pub decreases-loop-item : goal.decreases-loop-item
decreases-loop-item l = length (left l.iter)
