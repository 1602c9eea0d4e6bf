use Rattle.std.proofs.Common.{sym}
use Rattle.quic_frame_fields.specs.Shortest.{shortest_frame}
use Rattle.quic_frames.proofs.Encoding.{max_streams_parts, streams_blocked_parts, challenge_length, response_length}
use Rattle.quic_frames.proofs.frame.Frame.encoded_len.Goals as goal

pub returns-in-Ack : goal.returns-in-Ack
returns-in-Ack c = rw c.in-Ack.is (c.ack_len.ensures c.args.last)

pub returns-in-NewToken : goal.returns-in-NewToken
returns-in-NewToken c = rw c.in-NewToken.is (c.size.ensures c.args.last)

pub returns-in-NewConnectionId : goal.returns-in-NewConnectionId
returns-in-NewConnectionId c = rw c.in-NewConnectionId.is (c.new_id_len.ensures c.args.last)

pub returns-in-PathChallenge : goal.returns-in-PathChallenge
returns-in-PathChallenge c = rw c.in-PathChallenge.is (sym (challenge_length c.args.last _))

pub returns-in-PathResponse : goal.returns-in-PathResponse
returns-in-PathResponse c = rw c.in-PathResponse.is (sym (response_length c.args.last _))

pub returns-in-Padding : goal.returns-in-Padding
unfolding shortest_frame
returns-in-Padding c = rw c.in-Padding.is c.numbers_len.ensures.value

pub returns-in-Ping : goal.returns-in-Ping
unfolding shortest_frame
returns-in-Ping c = rw c.in-Ping.is c.numbers_len-in-Ping.ensures.value

pub returns-in-ResetStream : goal.returns-in-ResetStream
unfolding shortest_frame
returns-in-ResetStream c =
    rw c.in-ResetStream.is (rw c.numbers.ensures.numbers at c.numbers_len-in-ResetStream.ensures.value)

pub returns-in-StopSending : goal.returns-in-StopSending
unfolding shortest_frame
returns-in-StopSending c =
    rw c.in-StopSending.is (rw c.numbers-in-StopSending.ensures.numbers at c.numbers_len-in-StopSending.ensures.value)

pub returns-in-Stream : goal.returns-in-Stream
returns-in-Stream c = rw c.in-Stream.is c.stream_len.ensures

pub returns-in-Close : goal.returns-in-Close
returns-in-Close c = rw c.in-Close.is (c.close_len.ensures c.args.last)

pub returns-in-Datagram : goal.returns-in-Datagram
returns-in-Datagram c = rw c.in-Datagram.is c.datagram_len.ensures

pub returns-in-MaxData : goal.returns-in-MaxData
unfolding shortest_frame
returns-in-MaxData c = rw c.in-MaxData.is (rw c.into_inner.ensures.value at c.numbers_len-in-MaxData.ensures.value)

pub returns-in-MaxStreamData : goal.returns-in-MaxStreamData
unfolding shortest_frame
returns-in-MaxStreamData c =
    rw c.in-MaxStreamData.is (rw c.from.ensures.0 at c.numbers_len-in-MaxStreamData.ensures.value)

pub returns-in-DataBlocked : goal.returns-in-DataBlocked
unfolding shortest_frame
returns-in-DataBlocked c = rw c.in-DataBlocked.is c.numbers_len-in-DataBlocked.ensures.value

pub returns-in-StreamDataBlocked : goal.returns-in-StreamDataBlocked
unfolding shortest_frame
returns-in-StreamDataBlocked c =
    rw c.in-StreamDataBlocked.is (rw c.from-in-StreamDataBlocked.ensures.0 at c.numbers_len-in-StreamDataBlocked.ensures.value)

pub returns-in-RetireConnectionId : goal.returns-in-RetireConnectionId
unfolding shortest_frame
returns-in-RetireConnectionId c = rw c.in-RetireConnectionId.is c.numbers_len-in-RetireConnectionId.ensures.value

pub returns-in-ImmediateAck : goal.returns-in-ImmediateAck
unfolding shortest_frame
returns-in-ImmediateAck c = rw c.in-ImmediateAck.is c.numbers_len-in-ImmediateAck.ensures.value

pub returns-in-HandshakeDone : goal.returns-in-HandshakeDone
unfolding shortest_frame
returns-in-HandshakeDone c = rw c.in-HandshakeDone.is c.numbers_len-in-HandshakeDone.ensures.value

pub returns-in-MaxStreams : goal.returns-in-MaxStreams
returns-in-MaxStreams c =
    rw (c.in-MaxStreams.is, max_streams_parts) (rw c.bit_of.ensures at c.numbers_len-in-MaxStreams.ensures.value)

pub returns-in-StreamsBlocked : goal.returns-in-StreamsBlocked
returns-in-StreamsBlocked c =
    rw (c.in-StreamsBlocked.is, streams_blocked_parts) (rw c.bit_of-in-StreamsBlocked.ensures at
    c.numbers_len-in-StreamsBlocked.ensures.value)
