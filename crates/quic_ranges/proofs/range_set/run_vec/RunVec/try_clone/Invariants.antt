use Rattle.std.proofs.Common.{◌≡◌, ◌≤◌, take, length}
use Rattle.std.specs.Vec.{vec_capacity}
use Rattle.quic_ranges.proofs.range_set.run_vec.RunVec.try_clone.Given as goal

-- what was copied so far, in room for all
abbrev pub invariant-loop-run : goal.invariant-loop-run
invariant-loop-run l = record {
  copied : l.items.items ≡ take l.run-index l.runs;
  room : length l.runs ≤ vec_capacity l.items;
}
