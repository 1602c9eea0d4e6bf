use Rattle.std.proofs.Common.{rules}
use Rattle.quic_base.proofs.ids.connection_id.ConnectionId.as_slice.Goals as goal

pub returns-clause-value : goal.returns-clause-value
returns-clause-value c = search rules
