-- Where the fields of a value are in its bytes, one after another.
use Rattle.std.specs.Prelude.{◌≡◌, ℕ, ◌+◌, ◌<◌, ◌≤◌, ◌⊎◌, List, [], ◌∷◌, ◌++◌, length, Some, None}
use Rattle.std.specs.Net.Addr.{ipv4_octets, ipv6_octets}
use Rattle.std.specs.declared.net.ipv4_addr.Ipv4Addr.{Ipv4Addr}
use Rattle.std.specs.declared.net.ipv6_addr.Ipv6Addr.{Ipv6Addr}
use Rattle.quic_base.specs.Codec.{NoFront}
use Rattle.quic_base.specs.ConnectionId.{IsLongId}
use Rattle.quic_base.specs.Number.{IsNumber, IsOctets}
use Rattle.quic_base.specs.Varint.{Encodes}
use Rattle.quic_fields.specs.declared.field.Span.{Span}
use Rattle.quic_fields.specs.Walk.{stored}
use Rattle.quic_params.specs.declared.error.Error.{Error}
use Rattle.quic_params.specs.declared.error.Error.TheVariants.{IllegalValue, Malformed}
use Rattle.quic_param_fields.specs.declared.row.Kind.{Kind}
use Rattle.quic_param_fields.specs.declared.row.Kind.TheVariants.{Varint, Port, Ip4, Ip6, Bytes16, LongId, Id, Rest}
use Rattle.quic_param_fields.specs.declared.field.Reason.{Reason}
use Rattle.quic_param_fields.specs.declared.field.Reason.TheVariants as R
use Rattle.quic_param_fields.specs.declared.field.Stop.{Stop}
use Rattle.quic_param_fields.specs.declared.field.Walked.{Walked}

-- the error of a list with a value that is invalid for this reason
abbrev pub error_of : Reason → Error
error_of R.OutOfRange = IllegalValue
error_of R.NoAddress = IllegalValue
error_of R.EmptyId = IllegalValue
error_of _ = Malformed

-- ---- fields

-- In front of rest the bytes are such a field with this number: its value, or how many bytes it has.
abbrev pub IsField : Kind → ℕ → List ℕ → List ℕ → Type 0
IsField Varint n bytes rest = Encodes n bytes
IsField Port n bytes rest = IsNumber 2 n bytes
IsField Ip4 n bytes rest = (ip : Ipv4Addr) × IsOctets 4 (ipv4_octets ip) bytes × (n ≡ 4)
IsField Ip6 n bytes rest = (ip : Ipv6Addr) × IsOctets 16 (ipv6_octets ip) bytes × (n ≡ 16)
IsField Bytes16 n bytes rest = (length bytes ≡ 16) × (n ≡ 16)
IsField LongId n bytes rest = (id : List ℕ) × IsLongId id bytes × (n ≡ length id)
IsField Id n bytes rest = (length bytes ≤ 20) × (n ≡ length bytes) × (rest ≡ [])
IsField Rest n bytes rest = (n ≡ length bytes) × (rest ≡ [])

-- a field that can't be read, with so many of its bytes and numbers before those at fault
abbrev pub stop : ℕ → ℕ → Reason → Stop
stop inside numbers reason = record { inside = inside; numbers = numbers; reason = reason }

-- The bytes don't begin with such a field: why, and what comes before that.
abbrev pub Stops : Kind → List ℕ → Stop → Type 0
Stops Varint bytes s = ((n : ℕ) → NoFront (Encodes n) bytes) × (s ≡ stop 0 0 R.UnexpectedEnd)
Stops Port bytes s = ((n : ℕ) → NoFront (IsNumber 2 n) bytes) × (s ≡ stop 0 0 R.UnexpectedEnd)
Stops Ip4 bytes s = ((ip : Ipv4Addr) → NoFront (IsOctets 4 (ipv4_octets ip)) bytes) × (s ≡ stop 0 0 R.UnexpectedEnd)
Stops Ip6 bytes s = ((ip : Ipv6Addr) → NoFront (IsOctets 16 (ipv6_octets ip)) bytes) × (s ≡ stop 0 0 R.UnexpectedEnd)
Stops Bytes16 bytes s = (length bytes < 16) × (s ≡ stop 0 0 R.UnexpectedEnd)
Stops LongId [] s = s ≡ stop 0 0 R.UnexpectedEnd
Stops LongId (n ∷ bytes) s = ((20 < n) × (s ≡ stop 0 0 R.LongId))
    ⊎ ((n ≤ 20) × (length bytes < n) × (s ≡ stop 1 1 R.UnexpectedEnd))
Stops Id bytes s = (20 < length bytes) × (s ≡ stop 0 0 R.LongId)
Stops Rest bytes s = ⊥

-- ---- rows

-- the field with this index and number, which begins at an offset and has so many bytes
abbrev pub span : ℕ → ℕ → ℕ → ℕ → Span
span index start n len = record { field = index; start = start; end = start + len; number = n }

-- The bytes, which start at an offset, are the fields of a row, and then rest; these are their spans: each field begins
-- where the one before it ends. The first has the given index.
abbrev pub AreFieldsAt : ℕ → ℕ → List Kind → List Span → List ℕ → List ℕ → Type 0
AreFieldsAt index start [] spans bytes rest = (spans ≡ []) × (bytes ≡ rest)
AreFieldsAt index start (kind ∷ kinds) spans bytes rest =
    (n : ℕ) × (front left : List ℕ) × (others : List Span) × (bytes ≡ front ++ left) × IsField kind n front left
    × (spans ≡ span index start n (length front) ∷ others)
    × AreFieldsAt (index + 1) (start + length front) kinds others left rest

-- this field is at fault, and begins at this offset
abbrev pub fault_at : ℕ → ℕ → Stop → Walked
fault_at index start s =
    record { count = index; end = start; fault = Some s.reason; inside = s.inside; numbers = s.numbers }

-- The first fields of a row are there, and these are their spans; the next one is not.
abbrev pub StopsWithinAt : ℕ → ℕ → List Kind → List Span → List ℕ → Walked → Type 0
StopsWithinAt index start [] spans bytes w = ⊥
StopsWithinAt index start (kind ∷ kinds) spans bytes w =
    ((spans ≡ []) × (s : Stop) × Stops kind bytes s × (w ≡ fault_at index start s))
    ⊎ ((n : ℕ) × (front left : List ℕ) × (others : List Span) × (bytes ≡ front ++ left) × IsField kind n front left
    × (spans ≡ span index start n (length front) ∷ others)
    × StopsWithinAt (index + 1) (start + length front) kinds others left w)

-- all fields were read: how many they are, and where the last one ends
abbrev pub whole : ℕ → ℕ → Walked
whole count end = record { count = count; end = end; fault = None; inside = 0; numbers = 0 }

-- ---- what reading a row returns: its spans are in the room, as far as it reaches

pub record HasFields (index start : ℕ) (kinds : List Kind) (bytes : List ℕ) (old new : List Span) (w : Walked)
    : Type 0 where
  pub spans : List Span
  pub rest : List ℕ
  pub fields : AreFieldsAt index start kinds spans bytes rest
  pub room : new ≡ stored index spans old
  pub all : w ≡ whole (index + length spans) w.end
  pub stop : w.end + length rest ≡ start + length bytes

pub record StopsIn (index start : ℕ) (kinds : List Kind) (bytes : List ℕ) (old new : List Span) (w : Walked)
    : Type 0 where
  pub spans : List Span
  pub stops : StopsWithinAt index start kinds spans bytes w
  pub room : new ≡ stored index spans old
