use Rattle.std.proofs.Common.{arith}
use Rattle.quic_ranges.proofs.RunsLemmas.{IsMaximalRuns-remove_first}
use Rattle.std.proofs.lemmas.Grind.{common_steps}
use Rattle.quic_ranges.proofs.range_set.array_range_set.ArrayRangeSet.pop_min.Goals as goal

pub invariant_of-self : goal.invariant_of-self
invariant_of-self c = (
  rw c.remove.ensures.items (IsMaximalRuns-remove_first c.self.inside.runs.items c.self.invariant.0),
  rw c.remove.ensures.capacity c.self.invariant.1,
)

pub returns-then-is_empty-clause-none : goal.returns-then-is_empty-clause-none
returns-then-is_empty-clause-none c = grind (arith, common_steps)
