-- Where a frame may be: in which packets (RFC 9000, section 12.4, table 3), from which side, and on which streams.
use Rattle.std.specs.Prelude.{◌≡◌, ⊤, ◌⊎◌, ℕ, List, [], ◌∷◌, Contains, Option, Some, None, Result, Ok, Err, true, false, if◌then◌else◌}
use Rattle.quic_base.specs.declared.ids.Side.{Side}
use Rattle.quic_base.specs.declared.ids.Side.TheVariants.{Client, Server}
use Rattle.quic_base.specs.declared.ids.Dir.TheVariants.{Bi}
use Rattle.quic_base.specs.Ids.{dir_of, initiator_of}
use Rattle.quic_frame_fields.specs.Field.{Value, Number}
use Rattle.quic_frame_fields.specs.Payload.{Meaning}
use Rattle.quic_frame_fields.specs.Table.{Name, Row, Padding, Ping, Ack, ResetStream, StopSending, Crypto, NewToken, Stream, MaxData, MaxStreamData, MaxStreams, DataBlocked, StreamDataBlocked, StreamsBlocked, NewConnectionId, RetireConnectionId, PathChallenge, PathResponse, ConnectionClose, ApplicationClose, HandshakeDone, ImmediateAck, Datagram, AckFrequency, row_of}
use Rattle.quic_frames.specs.Meaning.{type_of}
use Rattle.quic_frames.specs.Rules.{is_unknown_by}
use Rattle.quic_frames.specs.declared.frame.rules.Rules.{Rules}
use Rattle.quic_permitted.specs.declared.permitted.Forbidden.{Forbidden}
use Rattle.quic_permitted.specs.declared.permitted.Forbidden.TheVariants as forbidden
use Rattle.quic_permitted.specs.declared.permitted.PacketType.{PacketType}
use Rattle.quic_permitted.specs.declared.permitted.PacketType.TheVariants.{Initial, ZeroRtt, Handshake, OneRtt}
use Rattle.quic_permitted.specs.declared.permitted.Packets.{Packets}
use Rattle.quic_permitted.specs.declared.permitted.Packets.TheVariants as packets
use Rattle.quic_permitted.specs.declared.permitted.Part.{Part}
use Rattle.quic_permitted.specs.declared.permitted.Part.TheVariants as part
use Rattle.quic_permitted.specs.declared.permitted.Permission.{Permission}

-- ---- the table

-- the packets that may carry a frame, as the column "Pkts" has them
abbrev pub IH01 : Packets
IH01 = packets.All

abbrev pub IH_1 : Packets
IH_1 = packets.NotZeroRtt

abbrev pub __01 : Packets
__01 = packets.ApplicationData

abbrev pub ___1 : Packets
___1 = packets.OneRtt

-- a frame that both sides send, and that names no stream
abbrev pub in_packets : Packets → Permission
in_packets packets = record { packets = packets; only_servers = false; part = part.None }

abbrev pub by_servers : Packets → Permission
by_servers packets = record { packets = packets; only_servers = true; part = part.None }

abbrev pub on_a_stream : Packets → Part → Permission
on_a_stream packets part = record { packets = packets; only_servers = false; part = part }

-- One row for each frame. Those of RFC 9000 are as table 3 has them, which permits RETIRE_CONNECTION_ID in 0-RTT
-- packets; section 12.5 says that a server may reject that. DATAGRAM is RFC 9221's (section 5). Those of the
-- ACK frequency extension, whose draft wasn't at hand, may be in 0-RTT and 1-RTT packets, as in quinn-proto.
abbrev pub permission_of : Name → Permission
permission_of Padding = in_packets IH01
permission_of Ping = in_packets IH01
permission_of Ack = in_packets IH_1
permission_of ResetStream = on_a_stream __01 part.SendsData
permission_of StopSending = on_a_stream __01 part.ReceivesData
permission_of Crypto = in_packets IH_1
permission_of NewToken = by_servers ___1
permission_of Stream = on_a_stream __01 part.SendsData
permission_of MaxData = in_packets __01
permission_of MaxStreamData = on_a_stream __01 part.ReceivesData
permission_of MaxStreams = in_packets __01
permission_of DataBlocked = in_packets __01
permission_of StreamDataBlocked = on_a_stream __01 part.SendsData
permission_of StreamsBlocked = in_packets __01
permission_of NewConnectionId = in_packets __01
permission_of RetireConnectionId = in_packets __01
permission_of PathChallenge = in_packets __01
permission_of PathResponse = in_packets ___1
permission_of ConnectionClose = in_packets IH01
permission_of ApplicationClose = in_packets __01
permission_of HandshakeDone = by_servers ___1
permission_of ImmediateAck = in_packets __01
permission_of Datagram = in_packets __01
permission_of AckFrequency = in_packets __01

-- ---- what the rows mean

-- the types of packets in the table's column
abbrev pub types_in : Packets → List PacketType
types_in packets.All = Initial ∷ Handshake ∷ ZeroRtt ∷ OneRtt ∷ []
types_in packets.NotZeroRtt = Initial ∷ Handshake ∷ OneRtt ∷ []
types_in packets.ApplicationData = ZeroRtt ∷ OneRtt ∷ []
types_in packets.OneRtt = OneRtt ∷ []

abbrev pub MayCarry : PacketType → Packets → Type 0
MayCarry packet packets = Contains (types_in packets) packet

abbrev pub MaySend : Side → Permission → Type 0
MaySend sender permission = (permission.only_servers ≡ false) ⊎ (sender ≡ Server)

-- 0-RTT packets are a client's (section 17.2.3).
abbrev pub IsFrom : Side → PacketType → Type 0
IsFrom sender packet = (packet ≡ ZeroRtt → ⊥) ⊎ (sender ≡ Client)

-- On a bidirectional stream both sides send and receive data; on a unidirectional one the side that opened it sends,
-- and the other side receives (section 2.1).
abbrev pub MayBeSentOn : ℕ → Side → Part → Type 0
MayBeSentOn stream _ part.None = ⊤
MayBeSentOn stream sender part.SendsData = (dir_of stream ≡ Bi) ⊎ (initiator_of stream ≡ sender)
MayBeSentOn stream sender part.ReceivesData = (dir_of stream ≡ Bi) ⊎ (initiator_of stream ≡ sender → ⊥)

-- ---- what is answered, by rules, of which only that counts by which types may be unknown

abbrev pub permission_in : Option Row → Option Permission
permission_in None = None
permission_in (Some r) = Some (permission_of r.name)

-- what is permitted for a type; None if it is unknown
abbrev pub permission_by : Rules → ℕ → Option Permission
permission_by rules t = if is_unknown_by rules (Some t) then None else permission_in (row_of t)

abbrev pub TypeAnswerBy : Option Permission → PacketType → Side → Result ⊤ Forbidden → Type 0
TypeAnswerBy None packet _ result = result ≡ Err forbidden.Type
TypeAnswerBy (Some p) packet _ (Err forbidden.Type) = ⊥
TypeAnswerBy (Some p) packet _ (Err forbidden.Packet) = MayCarry packet p.packets → ⊥
TypeAnswerBy (Some p) packet sender (Err forbidden.Sender) =
    MayCarry packet p.packets × (MaySend sender p × IsFrom sender packet → ⊥)
TypeAnswerBy (Some p) packet _ (Err forbidden.Stream) = ⊥
TypeAnswerBy (Some p) packet sender (Ok _) = MayCarry packet p.packets × MaySend sender p × IsFrom sender packet

-- what is answered of a type before the fields are read
abbrev pub TypeAnswer : Rules → ℕ → PacketType → Side → Result ⊤ Forbidden → Type 0
TypeAnswer rules t packet sender result = TypeAnswerBy (permission_by rules t) packet sender result

-- what is answered of a frame of this type that names this stream, if it names one
abbrev pub StreamAnswerBy : Option Permission → ℕ → PacketType → Side → Result ⊤ Forbidden → Type 0
StreamAnswerBy (Some p) stream packet sender (Ok done) =
    TypeAnswerBy (Some p) packet sender (Ok done) × MayBeSentOn stream sender p.part
StreamAnswerBy (Some p) stream packet sender (Err forbidden.Stream) =
    TypeAnswerBy (Some p) packet sender (Ok tt) × (MayBeSentOn stream sender p.part → ⊥)
StreamAnswerBy p stream packet sender result = TypeAnswerBy p packet sender result

abbrev pub StreamAnswer : Rules → ℕ → ℕ → PacketType → Side → Result ⊤ Forbidden → Type 0
StreamAnswer rules t stream packet sender result = StreamAnswerBy (permission_by rules t) stream packet sender result

-- the stream that a frame names; 0 for other frames
abbrev pub stream_by : Name → List Value → ℕ
stream_by ResetStream (Number id ∷ values) = id
stream_by StopSending (Number id ∷ values) = id
stream_by Stream (fin ∷ Number id ∷ values) = id
stream_by MaxStreamData (Number id ∷ values) = id
stream_by StreamDataBlocked (Number id ∷ values) = id
stream_by name values = 0

-- what is answered of a frame
abbrev pub FrameAnswer : Rules → Meaning → PacketType → Side → Result ⊤ Forbidden → Type 0
FrameAnswer rules frame packet sender result =
    StreamAnswer rules (type_of frame) (stream_by frame.name frame.values) packet sender result

-- the code to close with (sections 12.4, 19.4 to 19.13 and 20.1)
abbrev pub code_of : Forbidden → ℕ
code_of forbidden.Type = 0x07
code_of forbidden.Packet = 0x0a
code_of forbidden.Sender = 0x0a
code_of forbidden.Stream = 0x05
