use Rattle.std.proofs.Common.{arith}
use Rattle.std.proofs.lemmas.Grind.{common_steps}
use Rattle.quic_header_decode.proofs.cut.PartialDecode.finish_protected.Goals as goal

pub overflow_add-end : goal.overflow_add-end
overflow_add-end g c = grind (arith, common_steps)
