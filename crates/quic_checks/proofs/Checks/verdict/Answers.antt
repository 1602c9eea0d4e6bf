use Rattle.std.proofs.Common.{rules}
use Rattle.quic_checks.proofs.Checks.verdict.Goals as goal

pub returns : goal.returns
returns c = search rules
