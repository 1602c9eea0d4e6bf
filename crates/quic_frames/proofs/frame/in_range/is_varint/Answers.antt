use Rattle.std.proofs.Common.{rules}
use Rattle.quic_frames.proofs.frame.in_range.is_varint.Goals as goal

pub returns : goal.returns
returns c = search rules
