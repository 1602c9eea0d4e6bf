use Rattle.std.proofs.Common.{arith}
use Rattle.quic_frames.proofs.Encoding.{datagram_counted, datagram_open}
use Rattle.quic_frames.proofs.frame.encode_into.put_datagram.Goals as goal

pub returns-else-last : goal.returns-else-last
returns-else-last c = grind (arith, datagram_counted, datagram_open)

pub returns-then-last : goal.returns-then-last
returns-then-last c = grind (arith, datagram_counted, datagram_open)
