use Rattle.std.proofs.Common.{rules}
use Rattle.quic_frames.proofs.frame.Frame.is_ack_eliciting.Goals as goal

pub returns : goal.returns
returns c = search rules
