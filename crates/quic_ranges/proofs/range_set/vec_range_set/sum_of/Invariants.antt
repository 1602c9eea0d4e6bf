use Rattle.std.proofs.Common.{◌+◌, ◌-◌, ◌≤◌, length, take}
use Rattle.quic_ranges.specs.Runs.{IsRunsOf, in_sum}
use Rattle.quic_ranges.proofs.range_set.vec_range_set.sum_of.Given as goal

-- the runs so far, and those of the others before them
abbrev pub invariant-loop-run : goal.invariant-loop-run
invariant-loop-run l = record {
  within : l.next ≤ length l.others;
  joined : IsRunsOf (in_sum (take l.run-index l.runs) (take l.next l.others)) l.sum;
}

abbrev pub invariant-loop-next : goal.invariant-loop-next
invariant-loop-next l = record {
  within : l.next ≤ length l.others;
  joined : IsRunsOf (in_sum (take l.run-index l.runs) (take l.next l.others)) l.sum;
}

abbrev pub decreases-loop-next : goal.decreases-loop-next
decreases-loop-next l = length l.others - l.next

-- all runs, and the others up to here
abbrev pub invariant-loop-other : goal.invariant-loop-other
invariant-loop-other l = IsRunsOf (in_sum l.runs (take (l.next + l.other-index) l.others)) l.sum
