use Rattle.quic_frame_fields.specs.Acks.{ranges_left}
use Rattle.quic_callers.proofs.Again.{IsUnderWay}
use Rattle.quic_callers.proofs.acks.set_again.Given as goal

abbrev pub invariant-loop-range : goal.invariant-loop-range
invariant-loop-range l =
    (goal.iterator-loop-range).can_next l.range-iterator ×
    (goal.iterator-loop-range).is_finite l.range-iterator ×
    IsUnderWay l.set l.again (ranges_left l.range-iterator)
