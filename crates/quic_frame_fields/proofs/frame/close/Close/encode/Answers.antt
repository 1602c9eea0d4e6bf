use Rattle.quic_frame_fields.proofs.frame.close.Close.encode.Goals as goal

pub returns-in-Connection-clause-writes : goal.returns-in-Connection-clause-writes
returns-in-Connection-clause-writes g c last = rw c.in-Connection.is (c.encode.ensures.writes last)

pub returns-in-Application-clause-writes : goal.returns-in-Application-clause-writes
returns-in-Application-clause-writes g c last = rw c.in-Application.is (c.encode-in-Application.ensures.writes last)
