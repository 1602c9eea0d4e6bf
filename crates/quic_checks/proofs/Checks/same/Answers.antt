use Rattle.std.proofs.Common.{rules}
use Rattle.quic_checks.proofs.Checks.same.Goals as goal

pub returns : goal.returns
returns g c = search rules
