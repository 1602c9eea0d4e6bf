use Rattle.std.proofs.Common.{arith}
use Rattle.quic_frames.proofs.Encoding.{stream_length}
use Rattle.quic_frames.proofs.frame.encode.stream_len.Goals as goal

pub returns : goal.returns
returns c = grind (arith, stream_length)
