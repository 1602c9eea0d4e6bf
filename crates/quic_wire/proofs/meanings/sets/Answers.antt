use Rattle.quic_wire.proofs.meanings.sets.Goals as goal

pub returns-clause-one : goal.returns-clause-one
returns-clause-one c = c.runs.ensures.unique

pub returns-clause-acknowledged : goal.returns-clause-acknowledged
returns-clause-acknowledged c = c.set_acknowledged.ensures.members

pub returns-clause-read : goal.returns-clause-read
returns-clause-read c = c.set_acknowledged.ensures.read
