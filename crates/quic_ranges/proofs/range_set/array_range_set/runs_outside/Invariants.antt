use Rattle.std.proofs.Common.{◌≡◌, ◌≤◌, ◌++◌, drop}
use Rattle.quic_ranges.specs.Intersections.{subtracted}
use Rattle.quic_ranges.proofs.range_set.array_range_set.runs_outside.Given as goal

-- what was pushed, and what is to come
abbrev pub invariant-loop-run : goal.invariant-loop-run
invariant-loop-run l = record {
  whole : l.left.items ++ subtracted (drop l.run-index l.runs) l.others ≡ subtracted l.runs l.others;
  capacity : 2 ≤ l.left.capacity;
}
