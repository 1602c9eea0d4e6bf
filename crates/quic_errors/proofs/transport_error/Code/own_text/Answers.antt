use Rattle.std.proofs.Common.{rules}
use Rattle.quic_errors.proofs.transport_error.Code.own_text.Goals as goal

pub returns : goal.returns
returns c = search rules
