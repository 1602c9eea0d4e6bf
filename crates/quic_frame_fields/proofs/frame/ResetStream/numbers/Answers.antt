use Rattle.std.proofs.Common.{rules}
use Rattle.quic_frame_fields.proofs.frame.ResetStream.numbers.Goals as goal

pub returns-clause-numbers : goal.returns-clause-numbers
returns-clause-numbers c = search rules
