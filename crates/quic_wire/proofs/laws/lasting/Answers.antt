use Rattle.quic_wire.proofs.laws.lasting.Goals as goal

pub returns-clause-frames : goal.returns-clause-frames
returns-clause-frames c = c.lasting.ensures.frames

pub returns-clause-error : goal.returns-clause-error
returns-clause-error c = c.lasting.ensures.error

pub returns-clause-front : goal.returns-clause-front
returns-clause-front c = c.lasting.ensures.front
