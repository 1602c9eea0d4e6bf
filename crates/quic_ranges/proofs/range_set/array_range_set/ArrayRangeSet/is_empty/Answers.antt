use Rattle.std.proofs.Common.{arith}
use Rattle.std.proofs.lemmas.Grind.{common_steps}
use Rattle.quic_ranges.proofs.range_set.array_range_set.ArrayRangeSet.is_empty.Goals as goal

pub returns : goal.returns
returns c = grind (arith, common_steps)
