use Rattle.std.proofs.Common.{rules}
use Rattle.quic_header_decode.proofs.cut.PartialDecode.space.Goals as goal

pub returns-in-ZeroRtt : goal.returns-in-ZeroRtt
returns-in-ZeroRtt c = search rules
