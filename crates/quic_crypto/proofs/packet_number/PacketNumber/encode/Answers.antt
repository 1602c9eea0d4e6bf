use Rattle.std.proofs.Common.{arith, rules}
use Rattle.std.proofs.lemmas.Grind.{common_steps}
use Rattle.quic_base.specs.Number.{bytes_of}
use Rattle.quic_crypto.proofs.packet_number.PacketNumber.encode.Goals as goal

pub returns-clause-ok : goal.returns-clause-ok
unfolding bytes_of
returns-clause-ok g c = grind (arith, common_steps)

pub returns-clause-full : goal.returns-clause-full
returns-clause-full g c = search rules
