use Rattle.std.proofs.Common.{arith}
use Rattle.std.proofs.lemmas.Grind.{common_steps}
use Rattle.quic_frame_fields.proofs.frame.write.numbers_and_bytes_len.Goals as goal

pub returns : goal.returns
returns c = grind (arith, common_steps)
