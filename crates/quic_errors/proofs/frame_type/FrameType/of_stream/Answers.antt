use Rattle.std.proofs.Common.{rules}
use Rattle.quic_errors.proofs.frame_type.FrameType.of_stream.Goals as goal

pub returns-in-false-true : goal.returns-in-false-true
returns-in-false-true c = search rules
