use Rattle.quic_c_sets.proofs.Writing.{StoredBelow}
use Rattle.quic_c_sets.proofs.acks.store_below.Given as goal

abbrev pub invariant-loop-left : goal.invariant-loop-left
invariant-loop-left l = StoredBelow l.runs l.fn.above l.fn.at l.fn.dest l.left l.above l.at l.dest

abbrev pub decreases-loop-left : goal.decreases-loop-left
decreases-loop-left l = l.left
