use Rattle.std.proofs.Common.{rules}
use Rattle.quic_header_decode.proofs.cut.PartialDecode.data.Goals as goal

pub returns : goal.returns
returns c = search rules
