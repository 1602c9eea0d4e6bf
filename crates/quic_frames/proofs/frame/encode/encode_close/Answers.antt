use Rattle.quic_frames.proofs.frame.encode.encode_close.Goals as goal

pub returns-in-Connection : goal.returns-in-Connection
returns-in-Connection g c last = rw c.in-Connection.is (c.encode_with.ensures last)

pub returns-in-Application : goal.returns-in-Application
returns-in-Application g c last = rw c.in-Application.is (c.encode_with-in-Application.ensures last)
