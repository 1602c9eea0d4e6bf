use Rattle.quic_wire.proofs.laws.parameters_again.Goals as goal

pub returns-clause-own : goal.returns-clause-own
returns-clause-own c = c.read_back.ensures.own

pub returns-clause-any : goal.returns-clause-any
returns-clause-any c = c.read_back.ensures.any
