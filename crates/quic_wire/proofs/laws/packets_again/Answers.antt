use Rattle.quic_wire.proofs.laws.packets_again.Goals as goal

pub returns : goal.returns
returns c = c.sealed_opens.ensures.opens
