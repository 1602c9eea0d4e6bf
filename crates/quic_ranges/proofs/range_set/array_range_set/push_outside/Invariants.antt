use Rattle.std.proofs.Common.{◌≡◌, ◌≤◌, ◌++◌, drop}
use Rattle.quic_ranges.specs.Intersections.{outside}
use Rattle.quic_ranges.proofs.range_set.array_range_set.push_outside.Given as goal

-- what was pushed, and what is to come
abbrev pub invariant-loop-other : goal.invariant-loop-other
invariant-loop-other l = record {
  whole : l.left.items ++ outside l.start l.end (drop l.other-index l.others) ≡ l.fn.left.items
      ++ outside l.fn.run.start l.fn.run.end l.fn.others;
  capacity : 2 ≤ l.left.capacity;
}
