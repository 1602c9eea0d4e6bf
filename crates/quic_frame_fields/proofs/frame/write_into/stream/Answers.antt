use Rattle.std.proofs.Common.{arith}
use Rattle.std.proofs.lemmas.Grind.{common_steps}
use Rattle.quic_frame_fields.proofs.frame.write_into.stream.Goals as goal

pub returns-in-0-None : goal.returns-in-0-None
returns-in-0-None c = grind (arith, common_steps)

pub returns-in-0-Some : goal.returns-in-0-Some
returns-in-0-Some c = grind (arith, common_steps)

pub returns-in_default-None : goal.returns-in_default-None
returns-in_default-None c = grind (arith, common_steps)
