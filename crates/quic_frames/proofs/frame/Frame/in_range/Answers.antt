use Rattle.std.proofs.Common.{arith}
use Rattle.std.proofs.lemmas.Grind.{common_steps}
use Rattle.quic_frames.proofs.frame.Frame.in_range.Goals as goal

pub returns-else-is_varint : goal.returns-else-is_varint
returns-else-is_varint c = grind (arith, common_steps)

pub returns-else-is_varint-2 : goal.returns-else-is_varint-2
returns-else-is_varint-2 c = grind (arith, common_steps)

pub returns-in-Ack : goal.returns-in-Ack
returns-in-Ack c = grind (arith, common_steps)

pub returns-in-Close-Application : goal.returns-in-Close-Application
returns-in-Close-Application c = grind (arith, common_steps)

pub returns-in-MaxStreamData : goal.returns-in-MaxStreamData
returns-in-MaxStreamData c = grind (arith, common_steps)

pub returns-in-MaxStreams : goal.returns-in-MaxStreams
returns-in-MaxStreams c = grind (arith, common_steps)

pub returns-in-NewConnectionId : goal.returns-in-NewConnectionId
returns-in-NewConnectionId c = grind (arith, common_steps)

pub returns-in-NewToken : goal.returns-in-NewToken
returns-in-NewToken c = grind (arith, common_steps)

pub returns-in-RetireConnectionId : goal.returns-in-RetireConnectionId
returns-in-RetireConnectionId c = grind (arith, common_steps)

pub returns-in-Stream : goal.returns-in-Stream
returns-in-Stream c = grind (arith, common_steps)

pub returns-in-StreamsBlocked : goal.returns-in-StreamsBlocked
returns-in-StreamsBlocked c = grind (arith, common_steps)

pub returns-then-is_varint : goal.returns-then-is_varint
returns-then-is_varint c = grind (arith, common_steps)

pub returns-then-is_varint-2 : goal.returns-then-is_varint-2
returns-then-is_varint-2 c = grind (arith, common_steps)
