use Rattle.quic_wire.proofs.meanings.same_meaning.Goals as goal

pub returns-clause-same : goal.returns-clause-same
returns-clause-same c = c.one_least.ensures.same

pub returns-clause-longer : goal.returns-clause-longer
returns-clause-longer c = c.one_least.ensures.longer

pub returns-clause-again : goal.returns-clause-again
returns-clause-again c = c.one_least.ensures.again
