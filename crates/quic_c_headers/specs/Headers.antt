-- The headers that fields describe (RFC 9000, section 17), and what the calls that write them return.
use Rattle.quic_base.specs.Number.{has_bit}
use Rattle.std.specs.Prelude.{◌≡◌, ◌≢◌, IsTrue, is_some, ℕ, ◌+◌, ◌-◌, ◌%◌, ◌<◌, ◌≤◌, ◌^◌, ◌⊎◌, Bool, false, List, [], ◌++◌, length, take, drop, replicate, bit_or, bit_xor, pos, ℤ, Option, None, Some, ◌==◌, if◌then◌else◌}
use Rattle.std.specs.Option.{option_map_or}
use Rattle.quic_crypto.specs.declared.packet_number.PacketNumber.{PacketNumber}
use Rattle.quic_crypto.specs.declared.packet_number.PacketNumber.TheVariants.{U8, U16, U24, U32}
use Rattle.quic_crypto.specs.PacketNumbers.{low_part, number_size, window_of}
use Rattle.quic_header_encode.specs.declared.long_type.HeaderKind.{HeaderKind}
use Rattle.quic_header_encode.specs.declared.long_type.HeaderKind.TheVariants as kind
use Rattle.quic_header_encode.specs.declared.header.Header.{Header}
use Rattle.quic_header_encode.specs.declared.header.Header.TheVariants as header
use Rattle.quic_header_encode.specs.Kinds.{Row, bit_value, dst_in, fields_of, header_text, number_in, row, says}
use Rattle.quic_header_encode.specs.Types.{type_code}
use Rattle.quic_base.specs.Varint.{IsWidth}
use Rattle.quic_header_encode.specs.Writing.{IsWritable}
use Rattle.quic_c_headers.specs.declared.words.HeaderFields.{HeaderFields}
use Rattle.quic_results.specs.declared.results.Failure.{Failure}
use Rattle.quic_results.specs.declared.results.Failure.TheVariants as failure
use Rattle.quic_results.specs.Results.{failed}

-- the part of a number that is written in that many bytes
abbrev pub part_of : ℕ → ℕ → PacketNumber
part_of len number =
    if len == 2 then U16 (number % 2 ^ 16)
    else if len == 3 then U24 (number % 2 ^ 24)
    else if len == 4 then U32 (number % 2 ^ 32)
    else U8 (number % 2 ^ 8)

-- the number of a kind: 0 Initial, 1 0-RTT, 2 Handshake, 3 Retry, 4 1-RTT, 5 version negotiation
abbrev pub word_of : Row → ℕ
word_of row = option_map_or type_code row.type (if row.is_long then 5 else 4)

-- With 0 a first byte is that of RFC 9000. 0x40 clears the fixed bit of each kind (RFC 9287). In a short header 0x20 is
-- the spin bit and 0x04 the Key Phase bit. In a version negotiation the flags invert the seven low bits.
abbrev pub DescribesFlags : ℕ → Bool → Header → Type 0
DescribesFlags flags clear (header.Short spin key_phase dst number) =
    (clear ≡ has_bit 0x40 flags) × (spin ≡ has_bit 0x20 flags) × (key_phase ≡ has_bit 0x04 flags)
DescribesFlags flags clear (header.VersionNegotiate random src dst) =
    (clear ≡ false) × (random ≡ bit_xor 0x40 (flags % 0x80))
DescribesFlags flags clear _ = clear ≡ has_bit 0x40 flags

-- A number below 2^62, in that many bytes (RFC 9000, section 17.1), if the header has one.
abbrev pub DescribesNumber : ℕ → ℕ → Option PacketNumber → Type 0
DescribesNumber number len None = Unit {0}
DescribesNumber number len (Some written) =
    (number < 2 ^ 62) × (len ≡ number_size written) × (low_part written ≡ number % window_of written)

-- The fields, two ids and a token describe the header, with the fixed bit clear or set. Fields that its kind doesn't
-- have are ignored.
pub record DescribesHeader (words : HeaderFields) (dst src token : List ℕ) (clear : Bool) (head : Header) : Type 0 where
  pub kind : words.kind ≡ word_of (fields_of head).row
  pub flags : DescribesFlags words.flags clear head
  -- a version other than 0, since version 0 means a version negotiation (RFC 9000, section 17.2.1)
  pub version : IsTrue (is_some (fields_of head).row.type)
      → (words.version ≡ (fields_of head).version) × (0 < words.version)
  pub number : DescribesNumber words.number words.number_len (number_in head)
  pub len : IsTrue (fields_of head).row.has_len → IsWidth words.length_len
  pub dst_is : dst ≡ dst_in head
  pub src_is : IsTrue (fields_of head).row.is_long → (src ≡ (fields_of head).src) × (length src ≤ 20)
  pub token_is : IsTrue (fields_of head).row.has_token → token ≡ (fields_of head).token

-- They describe a header that can be written: the receiver's id has at most 20 bytes.
pub record CanWriteHeader (words : HeaderFields) (dst src token : List ℕ) (clear : Bool) (head : Header) : Type 0 where
  pub described : DescribesHeader words dst src token clear head
  pub dst_few : length dst ≤ 20
  pub writable : IsWritable head

-- the bytes that are written: the header's, with that many zeros as its length, and with its fixed bit cleared if
-- `clear` says so
abbrev pub described_bytes : ℕ → Bool → Header → List ℕ
described_bytes len clear header =
    let f = fields_of header in
    header_text (replicate len 0) (says f.row (f.bits - bit_value clear 0x40) f.version f.dst f.src f.token f.number)

-- ---- what the calls that write headers return

-- The bytes of the header that the fields, the ids and the token describe are at the front, the bytes after them didn't
-- change, and count is their number.
pub record WrotePacketHeader (words : HeaderFields) (dst src token old new : List ℕ) (count : ℕ) : Type 0 where
  pub clear : Bool
  pub head : Header
  pub can : CanWriteHeader words dst src token clear head
  pub front : new ≡ described_bytes words.length_len clear head ++ drop count old
  pub count_is : count ≡ length (described_bytes words.length_len clear head)

-- There is less room than such a header needs.
pub record PacketHeaderNeedsMore (words : HeaderFields) (dst src token : List ℕ) (room : ℕ) : Type 0 where
  pub clear : Bool
  pub head : Header
  pub can : CanWriteHeader words dst src token clear head
  pub full : room < length (described_bytes words.length_len clear head)

-- These fields, ids and token describe no header.
abbrev pub DescribesNoHeader : HeaderFields → List ℕ → List ℕ → List ℕ → Type 0
DescribesNoHeader words dst src token =
    (clear : Bool) (header : Header) → CanWriteHeader words dst src token clear header → ⊥

-- The version and the packet number are possible in a header of their kind, if it has them.
pub record HasPossibleNumbers (words : HeaderFields) : Type 0 where
  pub named : words.kind < 4 → 0 < words.version
  pub numbered : (words.kind ≤ 2) ⊎ (words.kind ≡ 4) → words.number < 2 ^ 62

-- What is reported if no header can be written: that there is no such kind; else the version or the packet number, if
-- that is impossible; else a length.
abbrev pub IsReason : HeaderFields → Failure → Type 0
IsReason words why =
    (5 < words.kind) × (why ≡ failure.Kind)
    ⊎ (words.kind ≤ 5) × (HasPossibleNumbers words → ⊥) × (why ≡ failure.Number)
    ⊎ (words.kind ≤ 5) × HasPossibleNumbers words × (why ≡ failure.Length)

-- A header is written, and its length returned; or nothing changes, because there is too little room, or no header can
-- be written.
abbrev pub WritesHeader : HeaderFields → List ℕ → List ℕ → List ℕ → List ℕ → ℤ → List ℕ → Type 0
WritesHeader words dst src token old result new =
    ((count : ℕ) × (result ≡ pos count) × WrotePacketHeader words dst src token old new count)
    ⊎ (new ≡ old) × ((result ≡ failed failure.NoRoom) × PacketHeaderNeedsMore words dst src token (length old)
    ⊎ ((why : Failure) × (result ≡ failed why) × IsReason words why × DescribesNoHeader words dst src token))

-- ---- No public clause cites what follows: what a kind of header has.

-- A header of the kind can have this number and these sizes of the number and the length.
pub record IsNumbered (words : HeaderFields) : Type 0 where
  pub number : (words.kind ≤ 2) ⊎ (words.kind ≡ 4)
      → (1 ≤ words.number_len) × (words.number_len ≤ 4) × (words.number < 2 ^ 62)
  pub len : words.kind ≤ 2 → IsWidth words.length_len

-- A header of the kind can have these ids and this token.
pub record AreParts (kind : ℕ) (dst src token : List ℕ) : Type 0 where
  pub dst_few : length dst ≤ 20
  pub src_few : kind ≢ 4 → length src ≤ 20
  pub token_short : kind ≡ 0 → length token < 2 ^ 62

-- A header of the kind can have these fields, ids and token.
pub record IsShaped (words : HeaderFields) (dst src token : List ℕ) : Type 0 where
  pub known : words.kind ≤ 5
  pub numbered : IsNumbered words
  pub named : words.kind < 4 → 0 < words.version
  pub parts : AreParts words.kind dst src token

-- the bits of the first byte other than the type and the number's size, by the flags
abbrev pub first_word : HeaderKind → ℕ → ℕ
first_word kind.Short flags =
    0x40 - bit_value (has_bit 0x40 flags) 0x40 + bit_value (has_bit 0x20 flags) 0x20
    + bit_value (has_bit 0x04 flags) 0x04
first_word kind.VersionNegotiate flags = bit_or 0x80 (bit_xor 0x40 (flags % 0x80))
first_word _ flags = 0xc0 - bit_value (has_bit 0x40 flags) 0x40

-- a long header without a number: a Retry's, or a version negotiation's, whose version is 0
abbrev pub IsBare : HeaderKind → Type 0
IsBare kind.Retry = Unit {0}
IsBare kind.VersionNegotiate = Unit {0}
IsBare _ = ⊥

abbrev pub bare_version : HeaderKind → ℕ → ℕ
bare_version kind.VersionNegotiate version = 0
bare_version _ version = version

-- the bytes of a header of the kind, with that many zeros as its length
abbrev pub worded_bytes : HeaderKind → HeaderFields → List ℕ → List ℕ → List ℕ → List ℕ
worded_bytes kind words dst src token =
    header_text (replicate words.length_len 0)
    (says (row kind) (first_word kind words.flags) words.version dst src token (part_of words.number_len words.number))

abbrev pub short_size : HeaderFields → List ℕ → ℕ
short_size words dst = 1 + length dst + words.number_len

-- A short header's number has 1 to 4 bytes, its id at most 20, and there is room for it.
pub record HasShortRoom (words : HeaderFields) (dst : List ℕ) (room : ℕ) : Type 0 where
  pub some : 1 ≤ words.number_len
  pub few : words.number_len ≤ 4
  pub dst_few : length dst ≤ 20
  pub fits : short_size words dst ≤ room

-- It is at the front, up to its end, and the bytes after that didn't change.
pub record StoresShort (words : HeaderFields) (dst old new : List ℕ) (end : ℕ) : Type 0 where
  pub size : end ≡ short_size words dst
  pub front : take end new ≡ worded_bytes kind.Short words dst [] []
  pub back : drop end new ≡ drop end old
  pub len : length new ≡ length old
