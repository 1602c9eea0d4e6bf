use Rattle.std.proofs.Common.{arith}
use Rattle.std.proofs.lemmas.Grind.{common_steps}
use Rattle.quic_errors.proofs.transport_error.CodeDisplay.fmt.Goals as goal

pub returns-in-256-to-511-clause-writes : goal.returns-in-256-to-511-clause-writes
returns-in-256-to-511-clause-writes c = grind (arith, common_steps)

pub returns-in-Some-clause-writes : goal.returns-in-Some-clause-writes
returns-in-Some-clause-writes c = grind (arith, common_steps)
