use Rattle.std.proofs.Common.{sym}
use Rattle.quic_frame_fields.proofs.Bodies.{frame_parts}
use Rattle.quic_frames.proofs.laws.body_behind_its_type.Goals as goal

pub returns : goal.returns
returns c last frame = sym (frame_parts last frame)
