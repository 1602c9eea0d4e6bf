use Rattle.std.proofs.Common.{◌≡◌, ◌++◌}
use Rattle.quic_ranges.specs.Runs.{IsRunsOf, in_subtraction}
use Rattle.quic_ranges.proofs.range_set.vec_range_set.RangeSet.subtract.Given as goal

-- the runs so far were applied to the set
abbrev pub invariant-loop-run : goal.invariant-loop-run
invariant-loop-run l = record {
  parts : l.other ≡ l.yielded ++ l.run-iterator;
  runs : IsRunsOf (in_subtraction l.fn.self l.yielded) l.self-inside.runs;
}
