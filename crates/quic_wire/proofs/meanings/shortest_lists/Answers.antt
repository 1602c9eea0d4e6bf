use Rattle.quic_wire.proofs.meanings.shortest_lists.Goals as goal

pub returns-clause-least : goal.returns-clause-least
returns-clause-least c = c.shortest.ensures.least

pub returns-clause-alone : goal.returns-clause-alone
returns-clause-alone c = c.shortest.ensures.alone
