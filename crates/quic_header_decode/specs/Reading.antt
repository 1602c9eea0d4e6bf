-- How a header is read, step by step.
use Rattle.quic_header_encode.specs.Types.{long_type}
use Rattle.std.specs.Prelude.{◌≡◌, ℕ, ◌+◌, ◌-◌, ◌/◌, ◌%◌, ◌<◌, ◌≤◌, Bool, List, [], ◌∷◌, length, take, drop, Option, Some, None, Result, Ok, Err, nat_lt, nat_eq, not, ◌&&◌, ◌||◌, if◌then◌else◌, codes, unwrap_or}
use Rattle.std.specs.List.{list_any}
use Rattle.std.specs.Option.{ok_or}
use Rattle.quic_header_decode.specs.declared.protected.ProtectedHeader.{ProtectedHeader}
use Rattle.quic_header_decode.specs.declared.protected.ProtectedHeader.TheVariants as protected
use Rattle.quic_header_encode.specs.declared.long_type.LongHeaderType.{LongHeaderType}
use Rattle.quic_header_encode.specs.declared.long_type.LongHeaderType.TheVariants as kind
use Rattle.quic_header_decode.specs.Refusal.{Refusal, Unsupported, Invalid}
use Rattle.quic_header_decode.specs.Parsers.{fixed_parsed}
use Rattle.quic_base.specs.Number.{has_bit, num}
use Rattle.quic_base.specs.Reading.{◌>>=◌, number_at}
use Rattle.bytes.specs.Filled.{Filled}

-- how headers are read: the parser of short headers' ids, the known versions, and whether the fixed bit may be clear
pub record DecodeOptions : Type 0 where
  pub parsed : List ℕ → Result (List ℕ × ℕ) Refusal
  pub versions : List ℕ
  pub grease : Bool

abbrev pub read_by : (List ℕ → Result (List ℕ × ℕ) Refusal) → List ℕ → Bool → DecodeOptions
read_by parsed versions grease = record { parsed = parsed; versions = versions; grease = grease }

-- the parser takes no more bytes than there are
abbrev pub TakesWithin : DecodeOptions → Type 0
TakesWithin options = (text id : List ℕ) (count : ℕ) → options.parsed text ≡ Ok (id, count) → count ≤ length text

-- ---- fields: each is a value and the bytes after it

-- what a reading call returns is what there is to read, and the rest is left
abbrev pub Reads : {X : Type 0} → Option X → List ℕ → Option (X × List ℕ) → Type 0
Reads (Some x) new read = read ≡ Some (x, new)
Reads None new read = read ≡ None

abbrev pub byte_at : List ℕ → Option (ℕ × List ℕ)
byte_at [] = None
byte_at (b ∷ rest) = Some (b, rest)

-- four bytes, the highest first
abbrev pub word_at : List ℕ → Option (ℕ × List ℕ)
word_at bytes = if nat_lt (length bytes) 4 then None else Some (num (take 4 bytes), drop 4 bytes)

-- a byte of length, at most 20, and that many bytes
abbrev pub long_id_at : List ℕ → Option (List ℕ × List ℕ)
long_id_at [] = None
long_id_at (n ∷ rest) = if nat_lt 20 n || nat_lt (length rest) n then None else Some (take n rest, drop n rest)

-- a byte of length and that many bytes, as ids of any version have them (RFC 8999, section 5.1)
abbrev pub wide_id_at : List ℕ → Option (List ℕ × List ℕ)
wide_id_at [] = None
wide_id_at (n ∷ rest) = if nat_lt (length rest) n then None else Some (take n rest, drop n rest)

-- ---- headers

abbrev pub at_end : Refusal
at_end = Invalid (codes "unexpected end of packet")

abbrev pub bad_id : Refusal
bad_id = Invalid (codes "malformed cid")

-- an Initial packet's header, whose token is at an offset
abbrev pub initial_at : List ℕ → List ℕ → ℕ → ℕ → ℕ → ℕ → ProtectedHeader
initial_at dst src start end len version = protected.Initial (record {
  dst_cid = dst;
  src_cid = src;
  token_pos = record { start = start; end = end };
  len = len;
  version = version;
})

unfoldable pub typed_at : LongHeaderType → ℕ → List ℕ → List ℕ → ℕ → List ℕ → Result (ProtectedHeader × List ℕ) Refusal
typed_at kind.Retry datagram_len dst src version bytes = Ok (protected.Retry dst src version, bytes)
typed_at (kind.Standard ty) datagram_len dst src version bytes = do
  len ← ok_or (number_at bytes) at_end
  Ok (protected.Long ty dst src len.0 version, len.1)
typed_at kind.Initial datagram_len dst src version bytes = do
  token ← ok_or (number_at bytes) at_end
  if nat_lt (length token.1) token.0 then Err (Invalid (codes "token out of bounds"))
      else (ok_or (number_at (drop token.0 token.1)) at_end >>= λ len.
      let start = datagram_len - length token.1 in
      Ok (initial_at dst src start (start + token.0) len.0 version, len.1))

unfoldable pub long_at : List ℕ → ℕ → ℕ → List ℕ → Result (ProtectedHeader × List ℕ) Refusal
long_at versions datagram_len first bytes = do
  version ← ok_or (word_at bytes) at_end
  dst ← ok_or (long_id_at version.1) bad_id
  src ← ok_or (long_id_at dst.1) bad_id
  if nat_eq version.0 0 then Ok (protected.VersionNegotiate (first - 0x80) dst.0 src.0, src.1)
      else (if not (list_any (λ known. nat_eq known version.0) versions) then Err (Unsupported src.0 dst.0 version.0)
      else typed_at (long_type version.0 first) datagram_len dst.0 src.0 version.0 src.1)

-- a long header whose ids may be longer, if its version isn't known
unfoldable pub wide_at : List ℕ → ℕ → ℕ → List ℕ → Result (ProtectedHeader × List ℕ) Refusal
wide_at versions datagram_len first bytes = do
  version ← ok_or (word_at bytes) at_end
  dst ← ok_or (wide_id_at version.1) bad_id
  src ← ok_or (wide_id_at dst.1) bad_id
  if not (nat_eq version.0 0) && not (list_any (λ known. nat_eq known version.0) versions)
      then Err (Unsupported src.0 dst.0 version.0)
      else (if nat_lt 20 (length dst.0) || nat_lt 20 (length src.0) then Err bad_id
      else (if nat_eq version.0 0 then Ok (protected.VersionNegotiate (first - 0x80) dst.0 src.0, src.1)
      else typed_at (long_type version.0 first) datagram_len dst.0 src.0 version.0 src.1))

unfoldable pub header_at : DecodeOptions → ℕ → List ℕ → Result (ProtectedHeader × List ℕ) Refusal
header_at options datagram_len bytes = do
  first ← ok_or (byte_at bytes) at_end
  if not options.grease && nat_eq (first.0 / 64 % 2) 0 then Err (Invalid (codes "fixed bit unset"))
      else (if nat_lt first.0 0x80
      then (options.parsed first.1 >>= λ id. Ok (protected.Short (has_bit 0x20 first.0) id.0, drop id.1 first.1))
      else long_at options.versions datagram_len first.0 first.1)

-- a header whose fixed bit isn't checked, with ids of that many bytes in short headers, and of any length in long ones
unfoldable pub wide_header_at : ℕ → List ℕ → ℕ → List ℕ → Result (ProtectedHeader × List ℕ) Refusal
wide_header_at id_len versions datagram_len bytes = do
  first ← ok_or (byte_at bytes) at_end
  if nat_lt first.0 0x80
      then (fixed_parsed id_len first.1 >>= λ id. Ok (protected.Short (has_bit 0x20 first.0) id.0, drop id.1 first.1))
      else wide_at versions datagram_len first.0 first.1

-- the length that a header says
abbrev pub len_in : ProtectedHeader → Option ℕ
len_in (protected.Initial h) = Some h.len
len_in (protected.Long ty dst src len version) = Some len
len_in _ = None

-- a header, where it ends, and where its packet ends
unfoldable pub cut_at : DecodeOptions → List ℕ → Result (ProtectedHeader × ℕ × ℕ) Refusal
cut_at options bytes = do
  read ← header_at options (length bytes) bytes
  let len = unwrap_or (len_in read.0) (length read.1) in
      let place = length bytes - length read.1 in
      if nat_lt (length read.1) len then Err (Invalid (codes "packet too short to contain payload length"))
      else Ok (read.0, place, place + len)

-- the bytes that are left, if any are
abbrev pub left_of : Option Filled → List ℕ
left_of None = []
left_of (Some left) = left.items

-- what follows a packet, if anything does
abbrev pub IsRest : Option Filled → List ℕ → Type 0
IsRest None bytes = bytes ≡ []
IsRest (Some rest) bytes = (rest.items ≡ bytes) × (0 < length bytes)

-- where an Initial packet's token begins and ends
abbrev pub token_ends : ProtectedHeader → ℕ × ℕ
token_ends (protected.Initial h) = (h.token_pos.start, h.token_pos.end)
token_ends _ = (0, 0)

-- a header that ends at this offset has its first byte, and its token is within it
pub record IsPlaced (h : ProtectedHeader) (at : ℕ) : Type 0 where
  pub after_first : 0 < at
  pub token_order : (token_ends h).0 ≤ (token_ends h).1
  pub token_within : (token_ends h).1 ≤ at
