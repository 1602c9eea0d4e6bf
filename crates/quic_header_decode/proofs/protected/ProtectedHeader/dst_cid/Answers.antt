use Rattle.std.proofs.Common.{rules}
use Rattle.quic_header_decode.proofs.protected.ProtectedHeader.dst_cid.Goals as goal

pub returns-in-Retry : goal.returns-in-Retry
returns-in-Retry c = search rules
