use Rattle.std.proofs.Common.{arith}
use Rattle.std.proofs.lemmas.Grind.{common_steps}
use Rattle.quic_c_write.proofs.write.are_varints.Goals as goal

pub returns-else-d-max : goal.returns-else-d-max
returns-else-d-max c = grind (arith, common_steps)

pub returns-then-d-max : goal.returns-then-d-max
returns-then-d-max c = grind (arith, common_steps)
