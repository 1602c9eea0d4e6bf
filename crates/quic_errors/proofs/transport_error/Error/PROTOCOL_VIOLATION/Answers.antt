use Rattle.std.proofs.Common.{rules}
use Rattle.quic_errors.proofs.transport_error.Error.PROTOCOL_VIOLATION.Goals as goal

pub returns : goal.returns
returns c = search rules
