use Rattle.std.proofs.Common.{rules}
use Rattle.quic_base.proofs.ids.connection_id.ConnectionIdPartialEq.eq.Goals as goal

pub returns : goal.returns
returns c = search rules
