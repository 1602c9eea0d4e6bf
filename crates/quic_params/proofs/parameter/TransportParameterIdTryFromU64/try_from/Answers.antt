use Rattle.std.proofs.Common.{rules}
use Rattle.quic_params.proofs.parameter.TransportParameterIdTryFromU64.try_from.Goals as goal

pub returns-in-15 : goal.returns-in-15
returns-in-15 c = search rules
