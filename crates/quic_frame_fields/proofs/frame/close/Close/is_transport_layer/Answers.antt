use Rattle.std.proofs.Common.{rules}
use Rattle.quic_frame_fields.proofs.frame.close.Close.is_transport_layer.Goals as goal

pub returns-in_default : goal.returns-in_default
returns-in_default c = search rules
