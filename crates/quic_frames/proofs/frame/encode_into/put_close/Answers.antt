use Rattle.std.proofs.Common.{arith}
use Rattle.quic_frames.proofs.Encoding.{connection_close_parts, application_close_parts}
use Rattle.quic_frames.proofs.frame.encode_into.put_close.Goals as goal

pub returns-in-Application : goal.returns-in-Application
returns-in-Application c = grind (arith, connection_close_parts, application_close_parts)

pub returns-in-Connection : goal.returns-in-Connection
returns-in-Connection c = grind (arith, connection_close_parts, application_close_parts)
