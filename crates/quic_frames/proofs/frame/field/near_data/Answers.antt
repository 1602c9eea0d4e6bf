use Rattle.std.proofs.Common.{arith}
use Rattle.std.proofs.lemmas.Grind.{common_steps}
use Rattle.quic_frames.proofs.frame.field.near_data.Goals as goal

pub returns-else-is_counted : goal.returns-else-is_counted
returns-else-is_counted c = grind (arith, common_steps)
