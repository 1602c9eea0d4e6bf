use Rattle.std.proofs.Common.{arith}
use Rattle.std.proofs.lemmas.Grind.{common_steps}
use Rattle.quic_params.proofs.resumption.resumes.Goals as goal

pub returns-then-not-cached : goal.returns-then-not-cached
returns-then-not-cached c = grind (arith, common_steps)

pub returns-else-not-cached : goal.returns-else-not-cached
returns-else-not-cached c = grind (arith, common_steps)

pub returns-else-is_no_less : goal.returns-else-is_no_less
returns-else-is_no_less c = grind (arith, common_steps)
