use Rattle.quic_frames.proofs.BodyParts.{connection_close_body, application_close_body}
use Rattle.quic_frames.proofs.frame.body.close_body.Goals as goal

pub returns-in-Connection : goal.returns-in-Connection
returns-in-Connection c last =
    rw (c.in-Connection.is, connection_close_body) (rw c.numbers.ensures.numbers at c.numbers_and_bytes.ensures)

pub returns-in-Application : goal.returns-in-Application
returns-in-Application c last =
    rw (c.in-Application.is, application_close_body)
    (rw c.numbers-in-Application.ensures.numbers at c.numbers_and_bytes-in-Application.ensures)
