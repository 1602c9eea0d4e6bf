use Rattle.std.proofs.Common.{rules}
use Rattle.quic_frames.proofs.frame.iter.Iter.last_type.Goals as goal

pub returns : goal.returns
returns c = search rules
