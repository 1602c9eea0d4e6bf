use Rattle.std.proofs.Common.{rules}
use Rattle.quic_errors.proofs.transport_error.Error.with_text.Goals as goal

pub returns-in-Ok : goal.returns-in-Ok
returns-in-Ok c = search rules
