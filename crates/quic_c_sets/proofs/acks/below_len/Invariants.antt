use Rattle.quic_c_sets.proofs.Writing.{CountedBelow}
use Rattle.quic_c_sets.proofs.acks.below_len.Given as goal

abbrev pub invariant-loop-left : goal.invariant-loop-left
invariant-loop-left l = CountedBelow l.runs l.fn.above l.len l.left l.above

abbrev pub decreases-loop-left : goal.decreases-loop-left
decreases-loop-left l = l.left
