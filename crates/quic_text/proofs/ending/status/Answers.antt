use Rattle.std.proofs.Common.{rules}
use Rattle.quic_text.proofs.ending.status.Goals as goal

pub returns-in-Ok-true : goal.returns-in-Ok-true
returns-in-Ok-true c = search rules
