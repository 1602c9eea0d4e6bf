use Rattle.quic_wire.proofs.laws.packets_received.Goals as goal

pub returns-clause-next : goal.returns-clause-next
returns-clause-next c = c.sealed_is_received.ensures.next

pub returns-clause-opens : goal.returns-clause-opens
returns-clause-opens c = c.sealed_is_received.ensures.opens

pub returns-clause-foreign : goal.returns-clause-foreign
returns-clause-foreign c = c.sealed_is_received.ensures.foreign
