use Rattle.std.proofs.Common.{arith}
use Rattle.std.proofs.lemmas.Grind.{common_steps}
use Rattle.quic_frames.proofs.frame.iter.zeros.Goals as goal

pub returns-else-bytes-count-eq0-clause-bytes : goal.returns-else-bytes-count-eq0-clause-bytes
returns-else-bytes-count-eq0-clause-bytes c = grind (arith, common_steps)
