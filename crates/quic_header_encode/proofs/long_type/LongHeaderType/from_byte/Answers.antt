use Rattle.std.proofs.Common.{rules}
use Rattle.quic_header_encode.proofs.long_type.LongHeaderType.from_byte.Goals as goal

pub returns-in-0 : goal.returns-in-0
returns-in-0 c = search rules
