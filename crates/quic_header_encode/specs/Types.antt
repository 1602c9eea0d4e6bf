-- The types of long headers (RFC 9000, section 17.2; RFC 9369, section 3.2).
use Rattle.std.specs.Prelude.{ℕ, ◌+◌, ◌*◌, ◌/◌, ◌%◌, List, [], ◌∷◌, nat_eq, if◌then◌else◌, slice_index_or}
use Rattle.quic_base.specs.declared.ids.SpaceId.{SpaceId}
use Rattle.quic_base.specs.declared.ids.SpaceId.TheVariants as space
use Rattle.quic_header_encode.specs.declared.long_type.LongType.{LongType}
use Rattle.quic_header_encode.specs.declared.long_type.LongHeaderType.{LongHeaderType}
use Rattle.quic_header_encode.specs.declared.long_type.LongHeaderType.TheVariants as kind
use Rattle.quic_header_encode.specs.declared.long_type.LongType.TheVariants.{Handshake, ZeroRtt}

-- version 2 of QUIC (RFC 9369, section 3.1)
abbrev pub version_2 : ℕ
version_2 = 0x6b3343cf

-- the types of long headers in a version, by the numbers 0 to 3 in first bytes
abbrev pub types_of : ℕ → List LongHeaderType
types_of version =
    if nat_eq version version_2 then kind.Retry ∷ kind.Initial ∷ kind.Standard ZeroRtt ∷ kind.Standard Handshake ∷ []
    else kind.Initial ∷ kind.Standard ZeroRtt ∷ kind.Standard Handshake ∷ kind.Retry ∷ []

-- the type that a first byte says: bits 0x30 are its number
abbrev pub long_type : ℕ → ℕ → LongHeaderType
long_type version first = slice_index_or (types_of version) (first / 16 % 4) kind.Retry

-- the number of a type in version 1 (RFC 9000, section 17.2)
abbrev pub type_code : LongHeaderType → ℕ
type_code kind.Initial = 0
type_code (kind.Standard ZeroRtt) = 1
type_code (kind.Standard Handshake) = 2
type_code kind.Retry = 3

-- the index of a type in a table
abbrev pub place_of : LongHeaderType → List LongHeaderType → ℕ
place_of ty [] = 0
place_of ty (k ∷ ks) = if nat_eq (type_code k) (type_code ty) then 0 else 1 + place_of ty ks

-- the number of a type in a version
abbrev pub type_number : ℕ → LongHeaderType → ℕ
type_number version ty = place_of ty (types_of version)

-- the first byte of a type in a version: bits 0x80 and 0x40 are set, bits 0x30 hold its number, the others are clear
abbrev pub first_byte : ℕ → LongHeaderType → ℕ
first_byte version ty = 0xc0 + 16 * type_number version ty

-- the space of the numbers of packets with a long header of this form
abbrev pub long_space : LongType → SpaceId
long_space Handshake = space.Handshake
long_space ZeroRtt = space.Data
