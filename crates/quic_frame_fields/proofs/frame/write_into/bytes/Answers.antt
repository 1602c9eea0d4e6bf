use Rattle.std.proofs.Common.{arith}
use Rattle.std.proofs.lemmas.Grind.{common_steps}
use Rattle.quic_frame_fields.proofs.frame.write_into.bytes.Goals as goal

pub returns : goal.returns
returns c = grind (arith, common_steps)
