use Rattle.std.proofs.Common.{arith}
use Rattle.std.proofs.lemmas.Grind.{common_steps}
use Rattle.quic_ranges.proofs.range_set.array_range_set.ArrayRangeSet.try_clone.Goals as goal

pub invariant_of-result : goal.invariant_of-result
invariant_of-result c = grind (arith, common_steps)

pub loop-run-preserved : goal.loop-run-preserved
loop-run-preserved c = grind (arith, common_steps)

pub returns-clause-equal : goal.returns-clause-equal
returns-clause-equal c = grind (arith, common_steps)

pub push_reserved-requires : goal.push_reserved-requires
push_reserved-requires c = grind (arith, common_steps)
