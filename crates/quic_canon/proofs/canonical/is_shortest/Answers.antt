use Rattle.std.proofs.Common.{rules}
use Rattle.quic_canon.proofs.canonical.is_shortest.Goals as goal

pub returns-else-len-eq1 : goal.returns-else-len-eq1
returns-else-len-eq1 c = search rules
