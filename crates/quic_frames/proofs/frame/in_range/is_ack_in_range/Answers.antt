use Rattle.std.proofs.Common.{arith}
use Rattle.std.proofs.lemmas.Grind.{common_steps}
use Rattle.quic_frames.proofs.frame.in_range.is_ack_in_range.Goals as goal

pub returns-else-is_varint-2 : goal.returns-else-is_varint-2
returns-else-is_varint-2 c = grind (arith, common_steps)

pub returns-then-is_varint-2 : goal.returns-then-is_varint-2
returns-then-is_varint-2 c = grind (arith, common_steps)
