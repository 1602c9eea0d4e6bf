use Rattle.std.proofs.Common.{arith}
use Rattle.std.proofs.lemmas.Grind.{common_steps}
use Rattle.quic_frames.proofs.frame.reading.read_stream.Goals as goal

pub from_u64_unchecked-requires : goal.from_u64_unchecked-requires
from_u64_unchecked-requires c = grind (arith, common_steps)
