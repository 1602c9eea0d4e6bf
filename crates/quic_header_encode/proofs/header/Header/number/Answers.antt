use Rattle.std.proofs.Common.{rules}
use Rattle.quic_header_encode.proofs.header.Header.number.Goals as goal

pub returns-in-Long : goal.returns-in-Long
returns-in-Long c = search rules
