use Rattle.quic_acked.proofs.Left.{IsLeft}
use Rattle.quic_frame_fields.specs.Acks.{ranges_acked, ranges_left}
use Rattle.quic_acked.proofs.acked.newly_acknowledged.Given as goal

abbrev pub invariant-loop-range : goal.invariant-loop-range
invariant-loop-range l =
    (goal.iterator-loop-range).can_next l.range-iterator ×
    (goal.iterator-loop-range).is_finite l.range-iterator ×
    IsLeft l.in_flight (ranges_acked l.ack) l.end l.left (ranges_left l.range-iterator)
