use Rattle.std.proofs.Common.{refl, arith, subst, sym}
use Rattle.quic_permitted.specs.Permitted.{MayCarry}
use Rattle.quic_permitted.specs.declared.permitted.PacketType.{PacketType}
use Rattle.quic_permitted.specs.declared.permitted.PacketType.TheVariants.{Initial, ZeroRtt, Handshake, OneRtt}
use Rattle.quic_permitted.specs.declared.permitted.Packets.TheVariants.{All}
use Rattle.quic_permitted.proofs.permitted.PacketType.may_carry.Goals as goal

in_all : (packet : PacketType) → MayCarry packet All
in_all Initial = (0, omega arith, refl)
in_all ZeroRtt = (2, omega arith, refl)
in_all Handshake = (1, omega arith, refl)
in_all OneRtt = (3, omega arith, refl)

pub returns-in-All : goal.returns-in-All
returns-in-All c =
    (λ _. subst (MayCarry c.args.self) (sym c.in-All.is) (in_all c.args.self), λ _. refl)
