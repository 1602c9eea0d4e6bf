use Rattle.quic_frames.proofs.BodyParts.{max_streams_body, streams_blocked_body}
use Rattle.quic_frames.proofs.frame.Frame.encode_body_into.Goals as goal

pub returns-in-Ack : goal.returns-in-Ack
returns-in-Ack c = rw c.in-Ack.is (c.ack_body.ensures c.args.last)

pub returns-in-NewConnectionId : goal.returns-in-NewConnectionId
returns-in-NewConnectionId c = rw c.in-NewConnectionId.is (c.new_id_body.ensures c.args.last)

pub returns-in-Close : goal.returns-in-Close
returns-in-Close c = rw c.in-Close.is (c.close_body.ensures c.args.last)

pub returns-in-MaxStreams : goal.returns-in-MaxStreams
returns-in-MaxStreams c = rw (c.in-MaxStreams.is, max_streams_body) c.numbers-in-MaxStreams.ensures

pub returns-in-StreamsBlocked : goal.returns-in-StreamsBlocked
returns-in-StreamsBlocked c = rw (c.in-StreamsBlocked.is, streams_blocked_body) c.numbers-in-StreamsBlocked.ensures
