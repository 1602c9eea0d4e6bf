use Rattle.quic_frame_fields.proofs.Encoding.{datagram_open}
use Rattle.quic_frame_fields.proofs.frame.Datagram.encode.Goals as goal

pub returns-else-with_length-clause-ok : goal.returns-else-with_length-clause-ok
returns-else-with_length-clause-ok c =
    rw (c.if-with_length.false, datagram_open c.args.self.now.bytes.now) c.append-else-with_length.ensures.ok

pub returns-else-with_length-clause-room : goal.returns-else-with_length-clause-room
returns-else-with_length-clause-room c =
    rw (c.if-with_length.false, datagram_open c.args.self.now.bytes.now) c.append-else-with_length.ensures.room
