use Rattle.std.proofs.Common.{arith}
use Rattle.std.proofs.lemmas.Grind.{common_steps}
use Rattle.quic_c_write.proofs.write.described.Goals as goal

pub frame_of-requires-clause-sound : goal.frame_of-requires-clause-sound
frame_of-requires-clause-sound c = grind (arith, common_steps)
