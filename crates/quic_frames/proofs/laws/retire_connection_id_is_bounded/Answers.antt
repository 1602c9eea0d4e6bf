use Rattle.std.proofs.Common.{arith}
use Rattle.quic_frames.proofs.SizeBounds.{retire_bound}
use Rattle.quic_frames.proofs.laws.retire_connection_id_is_bounded.Goals as goal

pub returns-clause-bounds : goal.returns-clause-bounds
returns-clause-bounds c = grind (arith, retire_bound)
