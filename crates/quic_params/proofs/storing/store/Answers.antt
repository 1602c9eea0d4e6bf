use Rattle.std.proofs.Common.{rules}
use Rattle.quic_params.proofs.storing.store.Goals as goal

pub returns-then-dest-len-clause-full : goal.returns-then-dest-len-clause-full
returns-then-dest-len-clause-full c = search rules
