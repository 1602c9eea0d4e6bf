use Rattle.std.proofs.Common.{arith}
use Rattle.std.proofs.lemmas.Grind.{common_steps}
use Rattle.quic_frame_fields.proofs.frame.write.ones.Goals as goal

pub returns-else-bytes-n-lt64-clause-ones : goal.returns-else-bytes-n-lt64-clause-ones
returns-else-bytes-n-lt64-clause-ones c = grind (arith, common_steps)
