use Rattle.std.proofs.Common.{arith}
use Rattle.std.proofs.lemmas.Grind.{common_steps}
use Rattle.quic_ranges.proofs.range_set.run_vec.RunVec.extend_last.Goals as goal

pub invariant_of-self : goal.invariant_of-self
invariant_of-self c = grind (arith, common_steps)

pub extend_last-requires : goal.extend_last-requires
extend_last-requires c = grind (arith, common_steps)

pub returns : goal.returns
returns c = grind (arith, common_steps)
