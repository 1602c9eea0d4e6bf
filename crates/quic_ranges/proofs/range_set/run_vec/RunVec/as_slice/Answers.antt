use Rattle.std.proofs.Common.{arith}
use Rattle.std.proofs.lemmas.Grind.{common_steps}
use Rattle.quic_ranges.proofs.range_set.run_vec.RunVec.as_slice.Goals as goal

pub returns : goal.returns
returns c = grind (arith, common_steps)
