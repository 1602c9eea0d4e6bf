use Rattle.std.proofs.Common.{arith}
use Rattle.std.proofs.lemmas.Grind.{common_steps}
use Rattle.quic_packets.proofs.seal.finish_last.Goals as goal

pub returns-clause-plain_bytes : goal.returns-clause-plain_bytes
returns-clause-plain_bytes c = grind (arith, common_steps)

pub returns-clause-sealed : goal.returns-clause-sealed
returns-clause-sealed c = grind (arith, common_steps)
