use Rattle.std.proofs.Common.{rules}
use Rattle.quic_errors.proofs.frame_type.FrameType.own_name.Goals as goal

pub returns : goal.returns
returns c = search rules
