use Rattle.std.proofs.Common.{rules}
use Rattle.quic_frame_fields.proofs.frame.write_into.numbers.Goals as goal

pub returns : goal.returns
returns c = search rules
