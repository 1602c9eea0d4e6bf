use Rattle.std.proofs.Common.{rules}
use Rattle.quic_header_encode.proofs.header.Header.space.Goals as goal

pub returns-in-ZeroRtt : goal.returns-in-ZeroRtt
returns-in-ZeroRtt c = search rules
