use Rattle.std.proofs.Common.{rules}
use Rattle.quic_params.proofs.validation.is_v4_encodable.Goals as goal

pub returns-else-not-is_unspecified : goal.returns-else-not-is_unspecified
returns-else-not-is_unspecified c = search rules
