use Rattle.std.proofs.Common.{rules}
use Rattle.quic_header_encode.proofs.long_type.LongHeaderType.byte.Goals as goal

pub returns-in-Retry : goal.returns-in-Retry
returns-in-Retry c = search rules
