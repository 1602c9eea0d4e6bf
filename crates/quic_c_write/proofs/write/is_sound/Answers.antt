use Rattle.std.proofs.Common.{arith}
use Rattle.std.proofs.lemmas.Grind.{common_steps}
use Rattle.quic_c_write.proofs.write.is_sound.Goals as goal

pub returns-else-len-gt0 : goal.returns-else-len-gt0
returns-else-len-gt0 c = grind (arith, common_steps)

pub returns-then-kind-ne24 : goal.returns-then-kind-ne24
returns-then-kind-ne24 c = grind (arith, common_steps)

pub returns-then-len-gt0 : goal.returns-then-len-gt0
returns-then-len-gt0 c = grind (arith, common_steps)

pub returns-then-not-are_varints : goal.returns-then-not-are_varints
returns-then-not-are_varints c = grind (arith, common_steps)
