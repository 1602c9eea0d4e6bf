use Rattle.std.proofs.Common.{◌≡◌, max, take, length}
use Rattle.quic_ranges.proofs.range_set.array_range_set.ArrayRangeSet.try_clone.Given as goal

-- what was copied so far, in room for all
abbrev pub invariant-loop-run : goal.invariant-loop-run
invariant-loop-run l = record {
  copied : l.runs.items ≡ take l.run-index l.run-items;
  room : l.runs.capacity ≡ max 2 (length l.run-items);
}
