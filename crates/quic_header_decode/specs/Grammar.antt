-- Which bytes are the header of a packet, and why others aren't (RFC 9000, section 17).
use Rattle.std.specs.Prelude.{◌≡◌, ◌≢◌, ℕ, ◌+◌, ◌<◌, ◌≤◌, ◌⊎◌, Bool, true, false, List, [], ◌∷◌, ◌++◌, length, take, Result, Some, Ok, Err, Contains, nat_le, ◌==◌, ◌||◌, if◌then◌else◌, MatchOption, codes}
use Rattle.quic_base.specs.Number.{has_bit, IsNumber, num}
use Rattle.quic_base.specs.Varint.{Encodes}
use Rattle.quic_base.specs.ConnectionId.{long_id}
use Rattle.quic_header_encode.specs.Kinds.{type_row}
use Rattle.quic_header_encode.specs.Types.{long_type}
use Rattle.quic_header_encode.specs.declared.long_type.LongHeaderType.{LongHeaderType}
use Rattle.quic_header_encode.specs.declared.long_type.LongHeaderType.TheVariants as kind
use Rattle.quic_header_decode.specs.declared.protected.ProtectedHeader.{ProtectedHeader}
use Rattle.quic_header_decode.specs.declared.protected.ProtectedHeader.TheVariants as protected
use Rattle.quic_header_decode.specs.Refusal.{Refusal, Unsupported, Invalid}
use Rattle.quic_header_decode.specs.Reading.{DecodeOptions, len_in}

-- the header form, the highest bit, is set in long headers (section 17.2) and clear in short ones (section 17.3)
abbrev pub is_long : ℕ → Bool
is_long first = nat_le 0x80 first

-- the fixed bit is set (sections 17.2 and 17.3), or may be clear (RFC 9287)
abbrev pub is_fixed : DecodeOptions → ℕ → Bool
is_fixed options first = options.grease || has_bit 0x40 first

-- ---- rows of fields

pub data HeaderField : Type 0 where
  -- four bytes (section 17.2)
  Version : HeaderField
  -- a byte n, at most 20, and n bytes (section 17.2)
  DestinationId SourceId : HeaderField
  -- no bytes: this version is one of those that are known (section 6.1)
  Supported : ℕ → HeaderField
  -- a number of any width (sections 17.2 and 17.2.2)
  TokenLength Length : HeaderField
  -- as many bytes as the number before (section 17.2.2)
  Token : HeaderField
  -- as many bytes as the parser of ids consumes, since their length isn't written (section 17.3.1)
  ShortId : HeaderField

-- what a type has after the ids (sections 17.2.2 to 17.2.5)
abbrev pub typed_row : LongHeaderType → List HeaderField
typed_row ty =
    let len = if (type_row ty).has_len then Length ∷ [] else [] in
    if (type_row ty).has_token then TokenLength ∷ Token ∷ len else len

-- The version is the number in the four bytes after the first one (RFC 8999, section 5.1). A version negotiation has
-- version 0 and no type (section 17.2.1).
abbrev pub header_row_of : ℕ → ℕ → List HeaderField
header_row_of first version =
    if is_long first then Version ∷ DestinationId ∷ SourceId
    ∷ (if version == 0 then [] else Supported version ∷ typed_row (long_type version first)) else ShortId ∷ []

-- ---- which bytes are a field or a row, and why others aren't

pub data HeaderValue : Type 0 where
  Number : ℕ → HeaderValue
  Bytes : List ℕ → HeaderValue

abbrev pub token_length_of : List HeaderValue → ℕ
token_length_of (version ∷ destination ∷ source ∷ Number count ∷ []) = count
token_length_of values = 0

abbrev pub IsId : List HeaderValue → List ℕ → Type 0
IsId values bytes = (id : List ℕ) × (values ≡ Bytes id ∷ []) × (length id ≤ 20) × (bytes ≡ long_id id)

abbrev pub IsVarint : List HeaderValue → List ℕ → Type 0
IsVarint values bytes = (n : ℕ) × (values ≡ Number n ∷ []) × Encodes n bytes

-- After fields with the values in before, and in front of rest, the bytes are a field of this kind, with these values.
-- The value of a token is the number of bytes after it, which gives its offset.
abbrev pub IsHeaderField : DecodeOptions → HeaderField → List HeaderValue → List HeaderValue → List ℕ → List ℕ → Type 0
IsHeaderField options Version before values bytes rest = (n : ℕ) × (values ≡ Number n ∷ []) × IsNumber 4 n bytes
IsHeaderField options DestinationId before values bytes rest = IsId values bytes
IsHeaderField options SourceId before values bytes rest = IsId values bytes
IsHeaderField options (Supported version) before values bytes rest =
    (values ≡ []) × (bytes ≡ []) × Contains options.versions version
IsHeaderField options TokenLength before values bytes rest = IsVarint values bytes
IsHeaderField options Token before values bytes rest =
    (values ≡ Number (length rest) ∷ []) × (length bytes ≡ token_length_of before)
IsHeaderField options Length before values bytes rest = IsVarint values bytes
IsHeaderField options ShortId before values bytes rest =
    (id : List ℕ) × (values ≡ Bytes id ∷ []) × (options.parsed (bytes ++ rest) ≡ Ok (id, length bytes))

-- The error if the bytes don't begin with such a field. A version is looked up after both ids were read.
abbrev pub refusal_at : HeaderField → List HeaderValue → Refusal
refusal_at DestinationId before = Invalid (codes "malformed cid")
refusal_at SourceId before = Invalid (codes "malformed cid")
refusal_at (Supported version) (number ∷ Bytes dst ∷ Bytes src ∷ []) = Unsupported src dst version
refusal_at Token before = Invalid (codes "token out of bounds")
refusal_at field before = Invalid (codes "unexpected end of packet")

-- For a short header's id it is the parser's error.
abbrev pub IsRefusal : DecodeOptions → HeaderField → List HeaderValue → List ℕ → Refusal → Type 0
IsRefusal options ShortId before bytes e = options.parsed bytes ≡ Err e
IsRefusal options field before bytes e = e ≡ refusal_at field before

-- The bytes are such a field, and then rest.
abbrev pub BeginsWithField : DecodeOptions → HeaderField → List HeaderValue → List HeaderValue → List ℕ → List ℕ
    → Type 0
BeginsWithField options field before values bytes rest =
    (front : List ℕ) × (bytes ≡ front ++ rest) × IsHeaderField options field before values front rest

-- The bytes are the fields of a row, and then rest; the values grow from before to after.
abbrev pub AreHeaderFields : DecodeOptions → List HeaderField → List HeaderValue → List HeaderValue → List ℕ → List ℕ
    → Type 0
AreHeaderFields options [] before after bytes rest = (after ≡ before) × (bytes ≡ rest)
AreHeaderFields options (field ∷ fields) before after bytes rest =
    (values : List HeaderValue) × (left : List ℕ) × BeginsWithField options field before values bytes left
    × AreHeaderFields options fields (before ++ values) after left rest

-- The bytes don't begin with such a field, and why.
pub record StopsAtField (options : DecodeOptions) (field : HeaderField) (before : List HeaderValue) (bytes : List ℕ)
    (e : Refusal) : Type 0 where
  pub none : (values : List HeaderValue) (rest : List ℕ) → BeginsWithField options field before values bytes rest → ⊥
  pub why : IsRefusal options field before bytes e

-- The first fields of a row are there, and the next one is not.
abbrev pub StopsWithinRow : DecodeOptions → List HeaderField → List HeaderValue → List ℕ → Refusal → Type 0
StopsWithinRow options [] before bytes e = ⊥
StopsWithinRow options (field ∷ fields) before bytes e =
    StopsAtField options field before bytes e
    ⊎ ((values : List HeaderValue) × (left : List ℕ) × BeginsWithField options field before values bytes left
    × StopsWithinRow options fields (before ++ values) left e)

-- ---- headers

-- The header for a first byte and the values of its row. The spin bit is 0x20 (section 17.3.1). Offsets
-- follow from how many bytes of a datagram of this length are left.
abbrev pub IsHeader : ℕ → ℕ → List HeaderValue → ProtectedHeader → Type 0
IsHeader datagram_len first values (protected.Short spin dst) =
    (is_long first ≡ false) × (spin ≡ has_bit 0x20 first) × (values ≡ Bytes dst ∷ [])
IsHeader datagram_len first values (protected.VersionNegotiate random dst src) =
    (first ≡ 0x80 + random) × (values ≡ Number 0 ∷ Bytes dst ∷ Bytes src ∷ [])
IsHeader datagram_len first values (protected.Retry dst src version) =
    (version ≢ 0) × (long_type version first ≡ kind.Retry) × (values ≡ Number version ∷ Bytes dst ∷ Bytes src ∷ [])
IsHeader datagram_len first values (protected.Long ty dst src len version) =
    (long_type version first ≡ kind.Standard ty) × (values ≡ Number version ∷ Bytes dst ∷ Bytes src ∷ Number len ∷ [])
IsHeader datagram_len first values (protected.Initial h) =
    (count left : ℕ) × (h.token_pos.start + count ≡ h.token_pos.end) × (h.token_pos.end + left ≡ datagram_len)
    × (values ≡ Number h.version ∷ Bytes h.dst_cid ∷ Bytes h.src_cid ∷ Number count ∷ Number left ∷ Number h.len ∷ [])

-- The bytes begin with this header, and rest follows it.
abbrev pub HeaderAt : DecodeOptions → ℕ → List ℕ → ProtectedHeader → List ℕ → Type 0
HeaderAt options datagram_len bytes h rest =
    (first : ℕ) × (text : List ℕ) × (values : List HeaderValue) × (bytes ≡ first ∷ text)
    × (is_fixed options first ≡ true)
    × AreHeaderFields options (header_row_of first (num (take 4 text))) [] values text rest
    × IsHeader datagram_len first values h

-- The bytes begin with no header, and this is the error: of the first byte, or of the first field that isn't there.
abbrev pub Refused : DecodeOptions → List ℕ → Refusal → Type 0
Refused options [] e = e ≡ Invalid (codes "unexpected end of packet")
Refused options (first ∷ text) e =
    ((is_fixed options first ≡ false) × (e ≡ Invalid (codes "fixed bit unset")))
    ⊎ ((is_fixed options first ≡ true) × StopsWithinRow options (header_row_of first (num (take 4 text))) [] text e)

-- the bytes begin with this header, which these bytes follow, or are rejected with this error
abbrev pub HeaderAnswer : DecodeOptions → ℕ → List ℕ → Result (ProtectedHeader × List ℕ) Refusal → Type 0
HeaderAnswer options datagram_len bytes (Ok found) = HeaderAt options datagram_len bytes found.0 found.1
HeaderAnswer options datagram_len bytes (Err e) = Refused options bytes e

-- a version whose headers are read further than their ids
abbrev pub IsKnownVersion : DecodeOptions → ℕ → Type 0
IsKnownVersion options version = (version ≢ 0) × Contains options.versions version

-- ---- packets

-- a packet of q bytes begins the datagram, and its header without the number ends at p
abbrev pub Cut : DecodeOptions → List ℕ → ProtectedHeader → ℕ → ℕ → Type 0
Cut options bytes h p q =
    (rest : List ℕ) × HeaderAt options (length bytes) bytes h rest × (p + length rest ≡ length bytes)
    × MatchOption (len_in h) (q ≡ length bytes) (λ len. q ≡ p + len) × (q ≤ length bytes)

-- No packet can be cut from the bytes, and this is the error: the header's, or that of a length beyond the end.
pub data Uncut (options : DecodeOptions) (bytes : List ℕ) : Refusal → Type 0 where
  no_header : (e : Refusal) → Refused options bytes e → Uncut options bytes e
  past_end : (h : ProtectedHeader) (rest : List ℕ) (len : ℕ) → HeaderAt options (length bytes) bytes h rest
      → len_in h ≡ Some len → length rest < len
      → Uncut options bytes (Invalid (codes "packet too short to contain payload length"))

-- the bytes begin with this header, with its end and its packet's end, or are rejected with this error
abbrev pub CutAnswer : DecodeOptions → List ℕ → Result (ProtectedHeader × ℕ × ℕ) Refusal → Type 0
CutAnswer options bytes (Ok cut) = Cut options bytes cut.0 cut.1 cut.2
CutAnswer options bytes (Err e) = Uncut options bytes e
