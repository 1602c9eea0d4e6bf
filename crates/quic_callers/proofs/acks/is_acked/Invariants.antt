use Rattle.std.proofs.Common.{◌≡◌}
use Rattle.quic_frame_fields.specs.Acks.{ranges_acked, ranges_left}
use Rattle.quic_frame_fields.specs.Sets.{is_in}
use Rattle.quic_callers.proofs.acks.is_acked.Given as goal

-- the number is in the ranges that are left exactly when it is acknowledged
abbrev pub invariant-loop-range : goal.invariant-loop-range
invariant-loop-range l =
    (goal.iterator-loop-range).can_next l.range-iterator ×
    (goal.iterator-loop-range).is_finite l.range-iterator ×
    (is_in (ranges_acked l.ack) l.number ≡ is_in (ranges_left l.range-iterator) l.number)
