use Rattle.std.proofs.Common.{rules}
use Rattle.quic_frames.proofs.frame.iter.Iter.resume.Goals as goal

pub returns-clause-state : goal.returns-clause-state
returns-clause-state c = search rules
