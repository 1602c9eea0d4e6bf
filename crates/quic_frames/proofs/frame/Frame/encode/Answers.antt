use Rattle.quic_frame_fields.specs.Shortest.{shortest_frame}
use Rattle.quic_frames.proofs.Encoding.{max_streams_parts, streams_blocked_parts, challenge_parts, response_parts}
use Rattle.quic_frames.proofs.frame.Frame.encode.Goals as goal

pub returns-in-Ack : goal.returns-in-Ack
returns-in-Ack g c = rw c.in-Ack.is (c.encode_ack.ensures c.args.last)

pub returns-in-ResetStream : goal.returns-in-ResetStream
returns-in-ResetStream g c = rw c.in-ResetStream.is (c.encode.ensures c.args.last)

pub returns-in-StopSending : goal.returns-in-StopSending
returns-in-StopSending g c = rw c.in-StopSending.is (c.encode-in-StopSending.ensures c.args.last)

pub returns-in-Crypto : goal.returns-in-Crypto
returns-in-Crypto g c = rw c.in-Crypto.is (c.encode-in-Crypto.ensures c.args.last)

pub returns-in-NewToken : goal.returns-in-NewToken
returns-in-NewToken g c = rw c.in-NewToken.is (c.encode-in-NewToken.ensures c.args.last)

pub returns-in-NewConnectionId : goal.returns-in-NewConnectionId
returns-in-NewConnectionId g c = rw c.in-NewConnectionId.is (c.encode-in-NewConnectionId.ensures c.args.last)

pub returns-in-Close : goal.returns-in-Close
returns-in-Close g c = rw c.in-Close.is (c.encode_close.ensures c.args.last)

pub returns-in-Padding : goal.returns-in-Padding
unfolding shortest_frame
returns-in-Padding g c = rw c.in-Padding.is c.numbers.ensures

pub returns-in-Ping : goal.returns-in-Ping
unfolding shortest_frame
returns-in-Ping g c = rw c.in-Ping.is c.numbers-in-Ping.ensures

pub returns-in-Stream : goal.returns-in-Stream
returns-in-Stream g c = rw c.in-Stream.is c.encode_stream.ensures

pub returns-in-Datagram : goal.returns-in-Datagram
returns-in-Datagram g c = rw c.in-Datagram.is c.encode_datagram.ensures

pub returns-in-MaxData : goal.returns-in-MaxData
unfolding shortest_frame
returns-in-MaxData g c = rw c.in-MaxData.is (rw c.into_inner.ensures.value at c.numbers-in-MaxData.ensures)

pub returns-in-MaxStreamData : goal.returns-in-MaxStreamData
unfolding shortest_frame
returns-in-MaxStreamData g c = rw c.in-MaxStreamData.is (rw c.from.ensures.0 at c.numbers-in-MaxStreamData.ensures)

pub returns-in-DataBlocked : goal.returns-in-DataBlocked
unfolding shortest_frame
returns-in-DataBlocked g c = rw c.in-DataBlocked.is c.numbers-in-DataBlocked.ensures

pub returns-in-StreamDataBlocked : goal.returns-in-StreamDataBlocked
unfolding shortest_frame
returns-in-StreamDataBlocked g c =
    rw c.in-StreamDataBlocked.is (rw c.from-in-StreamDataBlocked.ensures.0 at c.numbers-in-StreamDataBlocked.ensures)

pub returns-in-RetireConnectionId : goal.returns-in-RetireConnectionId
unfolding shortest_frame
returns-in-RetireConnectionId g c = rw c.in-RetireConnectionId.is c.numbers-in-RetireConnectionId.ensures

pub returns-in-PathChallenge : goal.returns-in-PathChallenge
returns-in-PathChallenge g c = rw (c.in-PathChallenge.is, challenge_parts) c.encode_path.ensures

pub returns-in-PathResponse : goal.returns-in-PathResponse
returns-in-PathResponse g c = rw (c.in-PathResponse.is, response_parts) c.encode_path-in-PathResponse.ensures

pub returns-in-ImmediateAck : goal.returns-in-ImmediateAck
unfolding shortest_frame
returns-in-ImmediateAck g c = rw c.in-ImmediateAck.is c.numbers-in-ImmediateAck.ensures

pub returns-in-HandshakeDone : goal.returns-in-HandshakeDone
unfolding shortest_frame
returns-in-HandshakeDone g c = rw c.in-HandshakeDone.is c.numbers-in-HandshakeDone.ensures

pub returns-in-MaxStreams : goal.returns-in-MaxStreams
returns-in-MaxStreams g c =
    rw (c.in-MaxStreams.is, max_streams_parts) (rw c.bit_of.ensures at c.numbers-in-MaxStreams.ensures)

pub returns-in-StreamsBlocked : goal.returns-in-StreamsBlocked
returns-in-StreamsBlocked g c =
    rw (c.in-StreamsBlocked.is, streams_blocked_parts) (rw c.bit_of-in-StreamsBlocked.ensures at c.numbers-in-StreamsBlocked.ensures)

pub returns-in_default : goal.returns-in_default
returns-in_default g c = c.encode_numbers.ensures c.args.last
