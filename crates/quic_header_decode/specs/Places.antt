-- Headers as offsets in bytes: the header whose fields are at these offsets, or an error.
use Rattle.std.specs.Prelude.{◌≡◌, ◌≢◌, ℕ, ◌+◌, ◌-◌, ◌<◌, ◌≤◌, List, ◌∷◌, ◌++◌, drop, length, true, Option, Some, None, Result, Ok, Err, Contains, slice_range, codes, nat_lt, if◌then◌else◌}
use Rattle.quic_base.specs.ConnectionId.{long_id}
use Rattle.quic_base.specs.Number.{has_bit, IsNumber}
use Rattle.quic_header_encode.specs.declared.long_type.HeaderKind.{HeaderKind}
use Rattle.quic_header_encode.specs.declared.long_type.HeaderKind.TheVariants as kind
use Rattle.quic_header_encode.specs.declared.long_type.LongHeaderType.{LongHeaderType}
use Rattle.quic_header_encode.specs.declared.long_type.LongHeaderType.TheVariants as type
use Rattle.quic_header_encode.specs.declared.long_type.LongType.TheVariants.{Handshake, ZeroRtt}
use Rattle.std.specs.Option.{option_map_or}
use Rattle.quic_header_encode.specs.Kinds.{row}
use Rattle.quic_header_decode.specs.declared.fields.Place.{Place}
use Rattle.quic_header_decode.specs.declared.places.HeaderPlaces.{HeaderPlaces}
use Rattle.quic_header_decode.specs.declared.places.ReadError.{ReadError}
use Rattle.quic_header_decode.specs.declared.places.ReadError.TheVariants as error
use Rattle.quic_header_decode.specs.declared.protected.ProtectedHeader.{ProtectedHeader}
use Rattle.quic_header_decode.specs.declared.protected.ProtectedHeader.TheVariants as protected
use Rattle.quic_header_decode.specs.Grammar.{is_long, HeaderAt, Refused}
use Rattle.quic_header_decode.specs.Parsers.{fixed_parsed}
use Rattle.quic_header_decode.specs.Reading.{DecodeOptions, initial_at, read_by}
use Rattle.quic_header_decode.specs.Refusal.{Refusal, Unsupported, Invalid}

-- the type of a kind that has one
abbrev pub type_placed : HeaderKind → LongHeaderType
type_placed kind = option_map_or (λ ty. ty) (row kind).type type.Retry

-- where the receiver's id begins
abbrev pub dst_place : HeaderKind → ℕ
dst_place kind = if (row kind).is_long then 6 else 1

abbrev pub dst_part : List ℕ → HeaderPlaces → List ℕ
dst_part bytes x = slice_range bytes (dst_place x.kind) (dst_place x.kind + x.dst_len)

-- the sender's, after the receiver's and its own length
abbrev pub src_part : List ℕ → HeaderPlaces → List ℕ
src_part bytes x = slice_range bytes (6 + x.dst_len + 1) (6 + x.dst_len + 1 + x.src_len)

-- the header of a kind, with the fields that it has of these
abbrev pub header_placed : HeaderKind → ℕ → List ℕ → List ℕ → Place → ℕ → ℕ → ProtectedHeader
header_placed kind.Initial first dst src token len version = initial_at dst src token.start token.end len version
header_placed kind.ZeroRtt first dst src token len version = protected.Long ZeroRtt dst src len version
header_placed kind.Handshake first dst src token len version = protected.Long Handshake dst src len version
header_placed kind.Retry first dst src token len version = protected.Retry dst src version
header_placed kind.Short first dst src token len version = protected.Short (has_bit 0x20 first) dst
header_placed kind.VersionNegotiate first dst src token len version = protected.VersionNegotiate (first - 0x80) dst src

-- the header at these offsets of the bytes
abbrev pub header_in : List ℕ → HeaderPlaces → ProtectedHeader
header_in bytes x = header_placed x.kind x.first (dst_part bytes x) (src_part bytes x) x.token x.len x.version

-- the error, with the ids that these bytes hold
abbrev pub refusal_in : List ℕ → ReadError → Refusal
refusal_in bytes (error.UnsupportedVersion version dst_len src_len) =
    Unsupported (slice_range bytes (6 + dst_len + 1) (6 + dst_len + 1 + src_len))
    (slice_range bytes 6 (6 + dst_len)) version
refusal_in bytes error.UnexpectedEnd = Invalid (codes "unexpected end of packet")
refusal_in bytes error.SmallPacket = Invalid (codes "packet too small")
refusal_in bytes error.MalformedCid = Invalid (codes "malformed cid")
refusal_in bytes error.TokenOutOfBounds = Invalid (codes "token out of bounds")

-- what a reading says: the header and what follows it, or an error
abbrev pub seen_in : List ℕ → Result HeaderPlaces ReadError → Result (ProtectedHeader × List ℕ) Refusal
seen_in bytes (Ok x) = Ok (header_in bytes x, drop x.header_end bytes)
seen_in bytes (Err e) = Err (refusal_in bytes e)

-- where the ids of a long header end
abbrev pub ids_end : HeaderPlaces → ℕ
ids_end x = 6 + x.dst_len + 1 + x.src_len

abbrev pub IsNowhere : Place → Type 0
IsNowhere place = (place.start ≡ 0) × (place.end ≡ 0)

-- Where the fields of a header are. Fields that a kind doesn't have are 0.
abbrev pub ArePlaces : HeaderKind → HeaderPlaces → Type 0
ArePlaces kind.Initial x = (ids_end x < x.token.start) × (x.token.start ≤ x.token.end) × (x.token.end < x.header_end)
ArePlaces kind.Retry x = (ids_end x ≡ x.header_end) × IsNowhere x.token × (x.len ≡ 0)
ArePlaces kind.Short x = (1 + x.dst_len ≡ x.header_end) × (x.src_len ≡ 0) × IsNowhere x.token × (x.len ≡ 0)
    × (x.version ≡ 0)
ArePlaces kind.VersionNegotiate x = (ids_end x ≡ x.header_end) × IsNowhere x.token × (x.len ≡ 0) × (x.version ≡ 0)
ArePlaces _ x = (ids_end x < x.header_end) × IsNowhere x.token

-- The fields are within the header, and the header within that many bytes.
pub record ArePlacesWithin (kind : HeaderKind) (x : HeaderPlaces) (datagram_len : ℕ) : Type 0 where
  pub fields : ArePlaces kind x
  pub dst_few : x.dst_len ≤ 20
  pub src_few : x.src_len ≤ 20
  pub token_order : x.token.start ≤ x.token.end
  pub token_within : x.token.end ≤ x.header_end
  pub first : 0 < x.header_end
  pub head : x.header_end ≤ datagram_len

-- the ids of an unknown version are within that many bytes
abbrev pub IsSeen : Result HeaderPlaces ReadError → ℕ → Type 0
IsSeen (Ok x) datagram_len = ArePlacesWithin x.kind x datagram_len
IsSeen (Err (error.UnsupportedVersion version dst_len src_len)) datagram_len = (dst_len ≤ 255) × (src_len ≤ 255)
    × (6 + dst_len + 1 + src_len ≤ datagram_len)
IsSeen _ datagram_len = Unit {0}

-- where a packet ends in that many bytes
abbrev pub ends_at : HeaderPlaces → ℕ → Option ℕ
ends_at x size =
    if (row x.kind).has_len then (if nat_lt size (x.header_end + x.len) then None else Some (x.header_end + x.len))
    else Some size

-- ---- which bytes these are

-- The bytes begin with a long header of any version, up to its ids (RFC 8999, section 5.1), and rest follows them.
abbrev pub AnyVersion : List ℕ → ℕ → List ℕ → List ℕ → List ℕ → Type 0
AnyVersion bytes version dst src rest =
    (first : ℕ) × (number : List ℕ) × (bytes ≡ first ∷ (number ++ (long_id dst ++ (long_id src ++ rest))))
    × (is_long first ≡ true) × IsNumber 4 version number

-- They do, and the version isn't known.
abbrev pub IsUnknownVersion : DecodeOptions → List ℕ → ℕ → List ℕ → List ℕ → Type 0
IsUnknownVersion options bytes version dst src =
    (rest : List ℕ) × AnyVersion bytes version dst src rest × (version ≢ 0) × (Contains options.versions version → ⊥)

-- options that ignore the fixed bit, with that many bytes for the ids of short headers
abbrev pub any_fixed : ℕ → List ℕ → DecodeOptions
any_fixed id_len versions = read_by (fixed_parsed id_len) versions true

-- The bytes begin with this header and go on with these bytes, or are rejected with this error. A long header of an
-- unknown version is reported with its ids even if these are longer than known versions allow.
abbrev pub ReadAnswer : DecodeOptions → List ℕ → Result (ProtectedHeader × List ℕ) Refusal → Type 0
ReadAnswer options bytes (Ok found) = HeaderAt options (length bytes) bytes found.0 found.1
ReadAnswer options bytes (Err (Unsupported src dst version)) = IsUnknownVersion options bytes version dst src
ReadAnswer options bytes (Err e) =
    Refused options bytes e × ((version : ℕ) (dst src : List ℕ) → IsUnknownVersion options bytes version dst src → ⊥)
