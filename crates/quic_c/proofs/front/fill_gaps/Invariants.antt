use Rattle.std.proofs.Common.{ℕ, ◌-◌, List, length}
use Rattle.quic_frame_fields.specs.Field.{AreBelow}
use Rattle.quic_c.proofs.GapFilling.{GapFilling}
use Rattle.quic_c.proofs.front.fill_gaps.Given as goal

-- The entries before the count tell the ranges that were passed.
abbrev pub invariant-loop-count : goal.invariant-loop-count
invariant-loop-count l =
    (least : ℕ) (ranges : List (ℕ × ℕ)) → AreBelow least ranges l.fn.blocks → GapFilling least ranges l.fn.gaps l.left l.gaps l.count

abbrev pub decreases-loop-count : goal.decreases-loop-count
decreases-loop-count l = length l.gaps - l.count

-- The same where longer numbers are read too.
abbrev pub invariant-loop-count-2 : goal.invariant-loop-count-2
invariant-loop-count-2 l =
    (least : ℕ) (ranges : List (ℕ × ℕ)) → AreBelow least ranges l.fn.blocks → GapFilling least ranges l.fn.gaps l.left l.gaps l.count

abbrev pub decreases-loop-count-2 : goal.decreases-loop-count-2
decreases-loop-count-2 l = length l.gaps - l.count
