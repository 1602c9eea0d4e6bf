use Rattle.std.proofs.Common.{arith}
use Rattle.std.proofs.lemmas.Grind.{common_steps}
use Rattle.quic_errors.proofs.frame_type.FrameTypeDisplay.fmt.Goals as goal

pub returns-in-48-clause-writes : goal.returns-in-48-clause-writes
returns-in-48-clause-writes c = grind (arith, common_steps)

pub returns-in-8-to-15-clause-writes : goal.returns-in-8-to-15-clause-writes
returns-in-8-to-15-clause-writes c = grind (arith, common_steps)

pub returns-in-Some-clause-writes : goal.returns-in-Some-clause-writes
returns-in-Some-clause-writes c = grind (arith, common_steps)
