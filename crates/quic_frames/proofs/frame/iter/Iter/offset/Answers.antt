use Rattle.std.proofs.Common.{rules}
use Rattle.quic_frames.proofs.frame.iter.Iter.offset.Goals as goal

pub returns-clause-value : goal.returns-clause-value
returns-clause-value c = search rules
