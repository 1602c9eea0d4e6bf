use Rattle.std.proofs.Common.{◌≡◌, ◌+◌, ◌-◌, ◌++◌, length, drop}
use Rattle.quic_ranges.specs.Intersections.{outside, subtracted}
use Rattle.quic_ranges.proofs.range_set.vec_range_set.difference_of.Given as goal

-- what is left so far, and what is to come
abbrev pub invariant-loop-run : goal.invariant-loop-run
invariant-loop-run l =
    l.left ++ subtracted (drop l.run-index l.runs) (drop l.next l.others) ≡ subtracted l.runs l.others

-- the same within a run
abbrev pub invariant-loop-next : goal.invariant-loop-next
invariant-loop-next l =
    l.left ++ (outside l.start l.run.end (drop l.next l.others) ++ subtracted (drop (l.run-index + 1) l.runs) (drop l.next l.others))
    ≡ subtracted l.runs l.others

abbrev pub decreases-loop-next : goal.decreases-loop-next
decreases-loop-next l = length l.others - l.next
