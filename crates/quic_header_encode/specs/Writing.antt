-- The bytes of headers, and a packet that is finished after its payload was appended to its header (RFC 9000, section
-- 17; RFC 9001, sections 5.3 and 5.4). Headers are appended, or written over bytes. Then the fixed bit may be clear
-- (RFC 9287), and the length is as many zeros as the caller chooses.
use Rattle.std.specs.Prelude.{◌≡◌, IsTrue, IsOk, OnOk, OnErr, Result, Vec, vec_len, vec_capacity, ◌≤◌, take, drop, ℕ, ◌+◌, ◌-◌, ◌<◌, ◌^◌, Bool, true, false, Option, Some, None, List, [], ◌∷◌, ◌++◌, length, ◌*◌, ◌⊎◌, replicate, is_some, if◌then◌else◌}
use Rattle.std.specs.declared.alloc.Global.{Global}
use Rattle.quic_base.specs.declared.coding.NoRoom.{NoRoom}
use Rattle.std.specs.Option.{option_map, option_map_or}
use Rattle.quic_base.specs.Number.{bytes_of}
use Rattle.quic_crypto.specs.Keys.{payload_in}
use Rattle.quic_crypto.specs.PacketNumbers.{IsInRange, number_size, number_bytes}
use Rattle.quic_header_encode.specs.declared.header.Header.{Header}
use Rattle.quic_header_encode.specs.Kinds.{fields_of, header_text, number_in, row, says, Fields}
use Rattle.quic_base.specs.Varint.{encoding_in, shortest_varint, size, IsWidth}
use Rattle.quic_header_encode.specs.declared.store.HeaderRef.{HeaderRef}
use Rattle.quic_header_encode.specs.declared.store.Padded.{Padded}
use Rattle.quic_header_encode.specs.declared.long_type.HeaderKind.{HeaderKind}
use Rattle.quic_header_encode.specs.declared.long_type.HeaderKind.TheVariants as kinds
use Rattle.quic_header_encode.specs.declared.long_type.LongHeaderType.{LongHeaderType}
use Rattle.quic_header_encode.specs.declared.long_type.LongHeaderType.TheVariants as kind
use Rattle.quic_header_encode.specs.declared.long_type.LongType.TheVariants.{Handshake, ZeroRtt}
use Rattle.quic_header_encode.specs.Types.{type_number}

-- two bytes of length, which are filled in later
abbrev pub no_length : List ℕ
no_length = 0 ∷ 0 ∷ []

-- the bytes of a header, with these bytes as its length if it has one
abbrev pub header_with : List ℕ → Header → List ℕ
header_with len h = header_text len (fields_of h)

-- the bytes of a header, whose length is not filled in yet, and how many these are
abbrev pub header_bytes : Header → List ℕ
header_bytes h = header_with no_length h

abbrev pub header_size : Header → ℕ
header_size h = length (header_bytes h)

-- The header can be written: its token's length has an encoding, and its number fits in as many bytes as it says.
abbrev pub IsWritable : Header → Type 0
IsWritable h = (length (fields_of h).token < 2 ^ 62) × IsInRange (fields_of h).number

-- Initial, Handshake and 0-RTT packets say their length
abbrev pub has_length : Header → Bool
has_length h = (fields_of h).row.has_len

-- the length of a header's number, if it has one, and whether it has a length
abbrev pub place_in : Header → Option (ℕ × Bool)
place_in h = option_map (λ number. (number_size number, has_length h)) (number_in h)

-- how many bytes a header's number has
abbrev pub size_in : Header → ℕ
size_in h = option_map_or number_size (number_in h) 0

-- where the number of a header begins: at its end, less the number
abbrev pub number_place : Header → ℕ
number_place h = header_size h - size_in h

-- all packets have a number except Retry and version negotiation
abbrev pub has_number : Header → Bool
has_number h = (fields_of h).row.has_number

-- a packet whose header's length, if it has one, counts the bytes from the number on
abbrev pub with_length : ℕ → Bool → ℕ → List ℕ → List ℕ
with_length pn_len false header_len bytes = bytes
with_length pn_len true header_len bytes =
    let at = header_len - pn_len in
    take (at - 2) bytes ++ (bytes_of 2 (2 ^ 14 + (length bytes - at)) ++ drop at bytes)

-- a packet whose payload is sealed, if there is a key for it
abbrev pub sealed_packet : ℕ → Option (ℕ × (List ℕ → List ℕ → List ℕ)) → List ℕ → List ℕ
sealed_packet header_len None bytes = bytes
sealed_packet header_len (Some key) bytes =
    take header_len bytes ++ key.1 (take header_len bytes) (payload_in header_len key.0 bytes)

-- A packet before its header is protected. pn is the length of its number, and whether it has a length; if so, the
-- length is filled in. The payload is sealed if there is a key for it.
abbrev pub finished : ℕ × Bool → ℕ → Option (ℕ × (List ℕ → List ℕ → List ℕ)) → List ℕ → List ℕ
finished pn header_len key bytes = sealed_packet header_len key (with_length pn.0 pn.1 header_len bytes)

-- A packet of that size has room for its number after the first byte; for the two bytes of its length if it has one,
-- which is then below 2^14; for its header; and for the sample, which begins four bytes after the start of the number.
pub record HasRoom (pn_len : ℕ) (write_len : Bool) (header_len sample_len size : ℕ) : Type 0 where
  pub head : pn_len < header_len
  pub length_place : IsTrue write_len → pn_len + 2 ≤ header_len
  pub length_fits : IsTrue write_len → size + pn_len < header_len + 2 ^ 14
  pub within : header_len ≤ size
  pub sample : header_len + 4 + sample_len ≤ size + pn_len

-- ---- headers over bytes

-- the bits for a long header's type in a version, and those for how many bytes of a number are written
abbrev pub type_bits : HeaderKind → ℕ → ℕ
type_bits kind version = option_map_or (λ ty. 16 * type_number version ty) (row kind).type 0

abbrev pub fields_by : {I : Type 0} → (I → List ℕ) → HeaderRef I → Fields
fields_by id fields =
    says (row fields.kind) fields.first fields.version (id fields.dst_cid) (id fields.src_cid) fields.token.now
    fields.number.now

-- bytes with another first one
abbrev pub begun_by : ℕ → List ℕ → List ℕ
begun_by first bytes = first ∷ drop 1 bytes

-- the bytes that are written, with that many zeros as its length, and how many these are
abbrev pub stored_bytes : {I : Type 0} → (I → List ℕ) → HeaderRef I → List ℕ
stored_bytes id fields = header_text (replicate fields.length_len 0) (fields_by id fields)

abbrev pub stored_len : {I : Type 0} → (I → List ℕ) → HeaderRef I → ℕ
stored_len id fields = length (stored_bytes id fields)

-- a first byte without its type and its number's length is at most 0xc0; that of a version negotiation is complete
abbrev pub HasLow : HeaderKind → ℕ → Type 0
HasLow kinds.VersionNegotiate first = Unit {0}
HasLow _ first = first ≤ 0xc0

-- Such a header can be written.
pub record IsStorable {I : Type 0} (id : I → List ℕ) (fields : HeaderRef I) : Type 0 where
  pub low : HasLow fields.kind fields.first
  pub dst_few : length (id fields.dst_cid) ≤ 20
  pub src_few : length (id fields.src_cid) ≤ 20
  pub token : length fields.token.now < 2 ^ 62
  pub number : IsInRange fields.number.now
  pub length_len : IsWidth fields.length_len

-- a token that is written by stores of 16 bytes
abbrev pub IsShortToken : List ℕ → Type 0
IsShortToken token = (length token ≡ 0) ⊎ ((16 ≤ length token) × (length token ≤ 32))

-- all headers except short ones, and those that have a type
abbrev pub IsLong : HeaderKind → Type 0
IsLong kind = IsTrue (row kind).is_long

abbrev pub IsTyped : HeaderKind → Type 0
IsTyped kind = IsTrue (is_some (row kind).type)

-- the kind of a type
abbrev pub kind_of : LongHeaderType → HeaderKind
kind_of kind.Initial = kinds.Initial
kind_of (kind.Standard ZeroRtt) = kinds.ZeroRtt
kind_of (kind.Standard Handshake) = kinds.Handshake
kind_of kind.Retry = kinds.Retry

-- a token after its length; zeros for the length, and a number; each if the header has it
abbrev pub token_by : HeaderKind → List ℕ → List ℕ
token_by kind token = if (row kind).has_token then shortest_varint (length token) ++ token else []

abbrev pub end_bytes : {I : Type 0} → HeaderRef I → List ℕ
end_bytes fields =
    if (row fields.kind).has_len then replicate fields.length_len 0 ++ number_bytes fields.number.now else []

abbrev pub room_by : HeaderKind → ℕ → ℕ → ℕ
room_by kind short long = if (row kind).is_long then long else short

-- That many bytes have room for the header, and for what is written after its ids. A short header has no sender's id.
pub record HasStoreRoom {I : Type 0} (id : I → List ℕ) (room : I → ℕ) (fields : HeaderRef I) (size : ℕ) : Type 0 where
  pub whole : stored_len id fields ≤ size
  pub dst : room_by fields.kind 1 6 + room fields.dst_cid ≤ size
  pub src : room_by fields.kind 0 (7 + length (id fields.dst_cid) + room fields.src_cid) ≤ size

-- the ids are written with nothing after them
pub record IsExact {I : Type 0} (id : I → List ℕ) (room : I → ℕ) (fields : HeaderRef I) : Type 0 where
  pub dst : length (id fields.dst_cid) ≡ room fields.dst_cid
  pub src : length (id fields.src_cid) ≡ room fields.src_cid

-- Such a header is written as this one's bytes.
pub record StoresHeader {I : Type 0} (id : I → List ℕ) (fields : HeaderRef I) (h : Header) : Type 0 where
  pub bytes : stored_bytes id fields ≡ header_bytes h
  pub storable : IsStorable id fields

-- a padded id, and how many bytes it overwrites
abbrev pub padded_id : Padded → List ℕ
padded_id id = id.0.now

abbrev pub padded_room : Padded → ℕ
padded_room id = 20

-- a packet with its length set, in that many bytes before its number: it counts the bytes from the number on
abbrev pub with_len : ℕ → ℕ → List ℕ → List ℕ
with_len width at bytes = take (at - width) bytes ++ (encoding_in width (length bytes - at) ++ drop at bytes)

-- A packet of that many bytes has a length of this width before an offset, and the count of the bytes from there on
-- fits in it.
pub record TakesLen (width place whole : ℕ) : Type 0 where
  pub known : IsWidth width
  pub behind : width ≤ place
  pub within : place ≤ whole
  pub numeric : whole < place + 2 ^ 62
  pub fits : size (whole - place) ≤ width

-- ---- No public clause cites what follows.

-- The header is appended, always if there is room for it; or the items don't change, and there is still too little
-- room.
pub record AppendsHeader (header : Header) (old new : Vec ℕ Global) (result : Result (Unit {0}) NoRoom) : Type 0 where
  pub ok : OnOk result (new.items ≡ old.items ++ header_bytes header)
  pub len : OnOk result (vec_len new ≡ vec_len old + header_size header)
  pub capacity : vec_capacity old ≤ vec_capacity new
  pub err : OnErr result (new.items ≡ old.items)
  pub full : OnErr result (vec_capacity new < vec_len old + header_size header)
  pub still : OnErr result (vec_capacity new ≡ vec_capacity old)
  pub spare : vec_len old + header_size header ≤ vec_capacity old → IsOk result
