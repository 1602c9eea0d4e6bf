use Rattle.std.proofs.Common.{rules}
use Rattle.quic_frames.proofs.frame.Frame.ty.Goals as goal

pub returns-in-Ping : goal.returns-in-Ping
returns-in-Ping c = search rules
