use Rattle.std.proofs.Common.{arith}
use Rattle.quic_frames.proofs.Encoding.{new_id_length}
use Rattle.quic_frames.proofs.frame.encode.new_id_len.Goals as goal

pub returns : goal.returns
returns c = grind (arith, new_id_length)
