use Rattle.quic_wire.proofs.Opened.{opens_again}
use Rattle.quic_wire.proofs.calls.open_sealed.Goals as goal

pub returns-clause-opens : goal.returns-clause-opens
returns-clause-opens g c =
    opens_again _ c.args.datagram.items c.open_packet.result c.packets_again.ensures c.open_packet.ensures.sealed
