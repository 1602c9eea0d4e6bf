use Rattle.std.proofs.Common.{◌≡◌, ◌+◌, sum}
use Rattle.quic_callers.specs.Acked.{numbers_in}
use Rattle.quic_callers.proofs.Sums.{left_in}
use Rattle.quic_frame_fields.specs.Acks.{ranges_acked, ranges_left}
use Rattle.quic_callers.proofs.acks.sum_of_acked.Given as goal

-- what is added and what is left are all numbers
abbrev pub invariant-loop-range : goal.invariant-loop-range
invariant-loop-range l =
    (goal.iterator-loop-range).can_next l.range-iterator ×
    (goal.iterator-loop-range).is_finite l.range-iterator ×
    (sum (numbers_in (ranges_acked l.ack)) ≡ l.sum + sum (numbers_in (ranges_left l.range-iterator)))

-- the same within a range
abbrev pub invariant-loop-number : goal.invariant-loop-number
invariant-loop-number l =
    (goal.iterator-loop-number).can_next l.number-iterator ×
    (goal.iterator-loop-number).is_finite l.number-iterator ×
    (sum (numbers_in (ranges_acked l.ack)) ≡ l.sum + (sum (left_in l.number-iterator) + sum (numbers_in (ranges_left l.range-iterator))))
