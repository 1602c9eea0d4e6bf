use Rattle.std.proofs.Common.{rules}
use Rattle.quic_base.proofs.ids.ResetToken.as_slice.Goals as goal

pub returns-clause-value : goal.returns-clause-value
returns-clause-value c = search rules

pub returns-clause-width : goal.returns-clause-width
returns-clause-width c = search rules
