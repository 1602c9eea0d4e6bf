-- One row for each kind of header, the fields of a header, and the bytes that they determine (RFC 9000, sections 17.2
-- and 17.3).
use Rattle.std.specs.Prelude.{ℕ, ◌+◌, ◌-◌, ◌*◌, Bool, true, false, Option, Some, None, List, [], ◌∷◌, ◌++◌, length, bit_or, is_some, if◌then◌else◌, ◌≡◌, ◌/◌, ◌%◌, nat_eq}
use Rattle.std.specs.Option.{option_map_or}
use Rattle.quic_base.specs.ConnectionId.{long_id}
use Rattle.quic_base.specs.Number.{bytes_of}
use Rattle.quic_base.specs.Varint.{shortest_varint}
use Rattle.quic_crypto.specs.declared.packet_number.PacketNumber.{PacketNumber}
use Rattle.quic_crypto.specs.declared.packet_number.PacketNumber.TheVariants.{U8}
use Rattle.quic_crypto.specs.PacketNumbers.{number_bytes, number_size}
use Rattle.quic_header_encode.specs.declared.header.Header.{Header}
use Rattle.quic_header_encode.specs.declared.header.Header.TheVariants as header
use Rattle.quic_header_encode.specs.declared.long_type.HeaderKind.{HeaderKind}
use Rattle.quic_header_encode.specs.declared.long_type.HeaderKind.TheVariants as kinds
use Rattle.quic_header_encode.specs.declared.long_type.LongType.TheVariants.{Handshake, ZeroRtt}
use Rattle.quic_header_encode.specs.declared.long_type.LongHeaderType.{LongHeaderType}
use Rattle.quic_header_encode.specs.declared.long_type.LongHeaderType.TheVariants as kind
use Rattle.quic_header_encode.specs.Types.{type_number, long_space}
use Rattle.quic_base.specs.declared.ids.SpaceId.{SpaceId}
use Rattle.quic_base.specs.declared.ids.SpaceId.TheVariants as space

-- What a header has: the type that its first byte says; if it is long, a version and both ids, each after its length,
-- else only the receiver's id; then a token with its length, the packet's length, and its number.
pub record Row : Type 0 where
  pub type : Option LongHeaderType
  pub is_long : Bool
  pub has_token : Bool
  pub has_len : Bool
  pub has_number : Bool

abbrev pub has : Option LongHeaderType → Bool → Bool → Bool → Bool → Row
has type is_long token len number =
    record { type = type; is_long = is_long; has_token = token; has_len = len; has_number = number }

-- type, whether long, token, length, number
abbrev pub type_row : LongHeaderType → Row
type_row kind.Initial = has (Some kind.Initial) true true true true
type_row (kind.Standard ty) = has (Some (kind.Standard ty)) true false true true
type_row kind.Retry = has (Some kind.Retry) true false false false

abbrev pub row : HeaderKind → Row
row kinds.Initial = type_row kind.Initial
row kinds.ZeroRtt = type_row (kind.Standard ZeroRtt)
row kinds.Handshake = type_row (kind.Standard Handshake)
row kinds.Retry = type_row kind.Retry
row kinds.VersionNegotiate = has None true false false false
row kinds.Short = has None false false false true

-- The fields of a header. `bits` are those of its first byte other than the type and the number's length.
pub record Fields : Type 0 where
  pub row : Row
  pub bits : ℕ
  pub version : ℕ
  pub dst : List ℕ
  pub src : List ℕ
  pub token : List ℕ
  pub number : PacketNumber

abbrev pub says : Row → ℕ → ℕ → List ℕ → List ℕ → List ℕ → PacketNumber → Fields
says row bits version dst src token number =
    record { row = row; bits = bits; version = version; dst = dst; src = src; token = token; number = number }

-- the value of a bit of a first byte, by whether it is set
abbrev pub bit_value : Bool → ℕ → ℕ
bit_value is_set n = if is_set then n else 0

abbrev pub fields_of : Header → Fields
fields_of (header.Initial h) = says (type_row kind.Initial) 0xc0 h.version h.dst_cid h.src_cid h.token h.number
fields_of (header.Long ty dst src number version) = says (type_row (kind.Standard ty)) 0xc0 version dst src [] number
fields_of (header.Retry dst src version) = says (type_row kind.Retry) 0xc0 version dst src [] (U8 0)
fields_of (header.VersionNegotiate random src dst) =
    says (row kinds.VersionNegotiate) (bit_or 0x80 random) 0 dst src [] (U8 0)
fields_of (header.Short spin key_phase dst number) =
    says (row kinds.Short) (0x40 + bit_value spin 0x20 + bit_value key_phase 0x04) 0 dst [] [] number

-- the first byte: bits 0x30 hold the type's number in the version, and the lowest two bits hold the packet number's
-- length minus one
abbrev pub first_in : Fields → ℕ
first_in f =
    let typed = option_map_or (λ ty. f.bits + 16 * type_number f.version ty) f.row.type f.bits in
    if f.row.has_number then typed + (number_size f.number - 1) else typed

-- A long header without a type is a version negotiation, whose version is 0.
abbrev pub version_in : Fields → ℕ
version_in f = if is_some f.row.type then f.version else 0

-- a long header's first byte, its version in four bytes, the receiver's id and the sender's, each after its length
abbrev pub long_front : ℕ → ℕ → List ℕ → List ℕ → List ℕ
long_front first version dst src = (first ∷ bytes_of 4 version) ++ (long_id dst ++ long_id src)

-- The bytes of a header, with these bytes as its length if it has one.
abbrev pub header_text : List ℕ → Fields → List ℕ
header_text len f =
    let ids = if f.row.is_long then long_front (first_in f) (version_in f) f.dst f.src else first_in f ∷ f.dst in
    let front = if f.row.has_token then ids ++ (shortest_varint (length f.token) ++ f.token) else ids in
    let number = if f.row.has_len then len ++ number_bytes f.number else number_bytes f.number in
    if f.row.has_number then front ++ number else front

-- ---- what a header says once its protection is removed

-- the space of a header's number; Initial also for headers without one
abbrev pub space_in : Header → SpaceId
space_in (header.Long ty dst src number version) = long_space ty
space_in (header.Short spin key_phase dst number) = space.Data
space_in _ = space.Initial

-- the receiver's id
abbrev pub dst_in : Header → List ℕ
dst_in h = (fields_of h).dst

-- the packet's number as it is written, if the header has one
abbrev pub number_in : Header → Option PacketNumber
number_in h = let f = fields_of h in if f.row.has_number then Some f.number else None

-- the key phase that a short header says
abbrev pub phase_in : Header → Bool
phase_in (header.Short spin key_phase dst number) = key_phase
phase_in _ = false

-- a first byte's reserved bits are zero: 0x18 in short headers, 0x0c in others (RFC 9000, sections 17.2 and 17.3.1)
abbrev pub reserved_zero : Header → ℕ → Bool
reserved_zero h first = nat_eq (first / (if (fields_of h).row.is_long then 4 else 8) % 4) 0

abbrev pub IsShortHeader : Header → Type 0
IsShortHeader h = (fields_of h).row.is_long ≡ false

-- the header of a 0-RTT packet
abbrev pub IsEarly : Header → Type 0
IsEarly h = (fields_of h).row.type ≡ Some (kind.Standard ZeroRtt)
