use Rattle.std.proofs.Common.{arith}
use Rattle.std.proofs.lemmas.Grind.{common_steps}
use Rattle.quic_base.proofs.ids.EcnCodepoint.from_bits.Goals as goal

pub returns-in-2 : goal.returns-in-2
returns-in-2 c = grind (arith, common_steps)
