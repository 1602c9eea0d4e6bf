use Rattle.std.proofs.Common.{arith}
use Rattle.quic_frame_fields.specs.Shortest.{shortest_frame}
use Rattle.quic_frames.proofs.Encoding.{max_streams_parts, streams_blocked_parts, challenge_parts, response_parts, crypto_parts, token_parts}
use Rattle.std.proofs.lemmas.Grind.{common_steps}
use Rattle.quic_frames.proofs.frame.Frame.encode_into.Goals as goal

pub returns-in-NewConnectionId : goal.returns-in-NewConnectionId
returns-in-NewConnectionId c = rw c.in-NewConnectionId.is (c.put_new_id.ensures c.args.last)

pub returns-in-Close : goal.returns-in-Close
returns-in-Close c = rw c.in-Close.is (c.put_close.ensures c.args.last)

pub returns-in-Ack : goal.returns-in-Ack
returns-in-Ack c = rw c.in-Ack.is (c.ack.ensures c.args.last)

pub returns-in-Padding : goal.returns-in-Padding
unfolding shortest_frame
returns-in-Padding c = rw c.in-Padding.is c.numbers.ensures

pub returns-in-Ping : goal.returns-in-Ping
unfolding shortest_frame
returns-in-Ping c = rw c.in-Ping.is c.numbers-in-Ping.ensures

pub returns-in-ResetStream : goal.returns-in-ResetStream
unfolding shortest_frame
returns-in-ResetStream c =
    rw c.in-ResetStream.is (rw c.numbers-in-ResetStream.ensures.numbers at c.numbers-in-ResetStream-2.ensures)

pub returns-in-StopSending : goal.returns-in-StopSending
unfolding shortest_frame
returns-in-StopSending c =
    rw c.in-StopSending.is (rw c.numbers-in-StopSending.ensures.numbers at c.numbers-in-StopSending-2.ensures)

pub returns-in-Crypto : goal.returns-in-Crypto
returns-in-Crypto c = rw (c.in-Crypto.is, crypto_parts) c.numbers_and_bytes.ensures

pub returns-in-NewToken : goal.returns-in-NewToken
returns-in-NewToken c = rw (c.in-NewToken.is, token_parts) c.numbers_and_bytes-in-NewToken.ensures

pub returns-in-Stream : goal.returns-in-Stream
returns-in-Stream c = rw c.in-Stream.is c.put_stream.ensures

pub returns-in-Datagram : goal.returns-in-Datagram
returns-in-Datagram c = rw c.in-Datagram.is c.put_datagram.ensures

pub returns-in-MaxData : goal.returns-in-MaxData
unfolding shortest_frame
returns-in-MaxData c = rw c.in-MaxData.is (rw c.into_inner.ensures.value at c.numbers-in-MaxData.ensures)

pub returns-in-MaxStreamData : goal.returns-in-MaxStreamData
unfolding shortest_frame
returns-in-MaxStreamData c = rw c.in-MaxStreamData.is (rw c.from.ensures.0 at c.numbers-in-MaxStreamData.ensures)

pub returns-in-DataBlocked : goal.returns-in-DataBlocked
unfolding shortest_frame
returns-in-DataBlocked c = rw c.in-DataBlocked.is c.numbers-in-DataBlocked.ensures

pub returns-in-StreamDataBlocked : goal.returns-in-StreamDataBlocked
unfolding shortest_frame
returns-in-StreamDataBlocked c =
    rw c.in-StreamDataBlocked.is (rw c.from-in-StreamDataBlocked.ensures.0 at c.numbers-in-StreamDataBlocked.ensures)

pub returns-in-RetireConnectionId : goal.returns-in-RetireConnectionId
unfolding shortest_frame
returns-in-RetireConnectionId c = rw c.in-RetireConnectionId.is c.numbers-in-RetireConnectionId.ensures

pub returns-in-PathChallenge : goal.returns-in-PathChallenge
returns-in-PathChallenge c = rw (c.in-PathChallenge.is, challenge_parts) c.put_path.ensures

pub returns-in-PathResponse : goal.returns-in-PathResponse
returns-in-PathResponse c = rw (c.in-PathResponse.is, response_parts) c.put_path-in-PathResponse.ensures

pub returns-in-ImmediateAck : goal.returns-in-ImmediateAck
unfolding shortest_frame
returns-in-ImmediateAck c = rw c.in-ImmediateAck.is c.numbers-in-ImmediateAck.ensures

pub returns-in-HandshakeDone : goal.returns-in-HandshakeDone
unfolding shortest_frame
returns-in-HandshakeDone c = rw c.in-HandshakeDone.is c.numbers-in-HandshakeDone.ensures

pub returns-in-MaxStreams : goal.returns-in-MaxStreams
returns-in-MaxStreams c =
    rw (c.in-MaxStreams.is, max_streams_parts) (rw c.bit_of.ensures at c.numbers-in-MaxStreams.ensures)

pub returns-in-StreamsBlocked : goal.returns-in-StreamsBlocked
returns-in-StreamsBlocked c =
    rw (c.in-StreamsBlocked.is, streams_blocked_parts) (rw c.bit_of-in-StreamsBlocked.ensures at c.numbers-in-StreamsBlocked.ensures)

pub numbers-requires-in-StreamsBlocked-clause-numeric : goal.numbers-requires-in-StreamsBlocked-clause-numeric
numbers-requires-in-StreamsBlocked-clause-numeric c = grind (arith, common_steps)

pub returns-in_default : goal.returns-in_default
returns-in_default c = c.put_numbers.ensures c.args.last
