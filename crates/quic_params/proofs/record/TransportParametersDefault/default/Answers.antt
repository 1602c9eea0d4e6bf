use Rattle.std.proofs.Common.{rules}
use Rattle.quic_params.proofs.record.TransportParametersDefault.default.Goals as goal

pub returns : goal.returns
returns c = search rules
