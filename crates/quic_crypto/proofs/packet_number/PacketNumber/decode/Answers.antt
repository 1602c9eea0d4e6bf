use Rattle.std.proofs.Common.{arith}
use Rattle.std.proofs.lemmas.Grind.{common_steps}
use Rattle.quic_crypto.proofs.packet_number.PacketNumber.decode.Goals as goal

pub returns-in_ok-high-in-3-clause-ok : goal.returns-in_ok-high-in-3-clause-ok
returns-in_ok-high-in-3-clause-ok g c = grind (arith, common_steps)

pub returns-in_ok-get_array-in-1-clause-ok : goal.returns-in_ok-get_array-in-1-clause-ok
returns-in_ok-get_array-in-1-clause-ok g c = grind (arith, common_steps)

pub returns-in_ok-get_array-in-2-clause-ok : goal.returns-in_ok-get_array-in-2-clause-ok
returns-in_ok-get_array-in-2-clause-ok g c = grind (arith, common_steps)

pub returns-in_ok-get_array-in_default-clause-ok : goal.returns-in_ok-get_array-in_default-clause-ok
returns-in_ok-get_array-in_default-clause-ok g c = grind (arith, common_steps)
