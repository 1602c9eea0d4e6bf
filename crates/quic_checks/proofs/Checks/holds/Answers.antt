use Rattle.std.proofs.Common.{rules}
use Rattle.quic_checks.proofs.Checks.holds.Goals as goal

pub returns : goal.returns
returns c = search rules
