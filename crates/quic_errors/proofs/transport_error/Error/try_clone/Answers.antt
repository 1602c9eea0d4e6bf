use Rattle.std.proofs.Common.{rules}
use Rattle.quic_errors.proofs.transport_error.Error.try_clone.Goals as goal

pub returns-clause-same : goal.returns-clause-same
returns-clause-same c = search rules
