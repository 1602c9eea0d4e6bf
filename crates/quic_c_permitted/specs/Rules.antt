-- What RFC 9000, section 12.4, table 3 says of each kind of frame, as bits.
use Rattle.std.specs.Prelude.{ℕ, Bool, not, Option, Some, None, ◌+◌, ◌==◌, nat_lt, ◌&&◌, ◌||◌, if◌then◌else◌}
use Rattle.quic_frame_fields.specs.Table.{Name, Row, Padding, Ack, Stream, NewConnectionId, PathChallenge, PathResponse, ConnectionClose, ApplicationClose, row_of}
use Rattle.quic_permitted.specs.Permitted.{permission_of}
use Rattle.quic_permitted.specs.declared.permitted.Packets.{Packets}
use Rattle.quic_permitted.specs.declared.permitted.Packets.TheVariants as packets

-- A bit for each packet that may carry a frame: 0x01 Initial, 0x04 Handshake, 0x02 0-RTT, 0x10 1-RTT.
abbrev pub pkts : Packets → ℕ
pkts packets.All = 0x17
pkts packets.NotZeroRtt = 0x15
pkts packets.ApplicationData = 0x12
pkts packets.OneRtt = 0x10

-- the column "Spec": packets with such frames alone elicit no acknowledgement; don't count as bytes in flight; probe a
-- path; the frame is flow controlled
abbrev pub N : ℕ
N = 0x100

abbrev pub C : ℕ
C = 0x200

abbrev pub P : ℕ
P = 0x400

abbrev pub F : ℕ
F = 0x800

abbrev pub spec_bits : Name → ℕ
spec_bits Padding = N + P
spec_bits Ack = N + C
spec_bits Stream = F
spec_bits NewConnectionId = P
spec_bits PathChallenge = P
spec_bits PathResponse = P
spec_bits ConnectionClose = N
spec_bits ApplicationClose = N
spec_bits name = 0

-- Frames of one kind may have several types, of which the first is the kind's number: ACK, STREAM and DATAGRAM do.
abbrev pub is_kind : ℕ → Bool
is_kind t = not (t == 0x03 || nat_lt 0x08 t && nat_lt t 0x10 || t == 0x31)

abbrev pub spec_of : Option Row → ℕ
spec_of None = 0
spec_of (Some r) = spec_bits r.name

abbrev pub row_bits : Option Row → ℕ
row_bits None = 0
row_bits (Some r) = pkts (permission_of r.name).packets + spec_of (Some r)

-- the row of a kind; 0 of what is no kind
abbrev pub rules_of : ℕ → ℕ
rules_of kind = if is_kind kind then row_bits (row_of kind) else 0
