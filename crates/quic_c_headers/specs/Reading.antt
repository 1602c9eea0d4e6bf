-- Headers as C sees them, and what the call that reads them returns; version negotiation packets (RFC 9000, section
-- 17.2.1), whose ids have up to 255 bytes (RFC 8999, section 6).
use Rattle.std.specs.Prelude.{◌≡◌, ◌≢◌, ℕ, ℤ, ◌+◌, ◌-◌, ◌<◌, ◌≤◌, ◌⊎◌, Bool, true, false, List, [], length, Result, Ok, Err, IfOk, slice_index, take, drop, unwrap_or, ◌%◌, ◌++◌, bit_xor, Contains, nat_le, nat_lt, ◌==◌, ◌&&◌, if◌then◌else◌}
use Rattle.quic_header_encode.specs.Kinds.{row}
use Rattle.quic_header_decode.specs.declared.fields.Place.{Place}
use Rattle.quic_header_decode.specs.declared.places.HeaderPlaces.{HeaderPlaces}
use Rattle.quic_header_decode.specs.declared.places.ReadError.{ReadError}
use Rattle.quic_header_decode.specs.declared.places.ReadError.TheVariants as error
use Rattle.quic_header_decode.specs.Places.{any_fixed, ends_at, seen_in, IsSeen, ReadAnswer, AnyVersion}
use Rattle.quic_c_headers.specs.Headers.{word_of}
use Rattle.quic_c_headers.specs.declared.words.CHeader.{CHeader}
use Rattle.quic_base.specs.Number.{has_bit, num}
use Rattle.quic_header_encode.specs.declared.header.Header.TheVariants as header
use Rattle.quic_header_encode.specs.Writing.{header_bytes}
use Rattle.std.specs.Option.{option_map_or}
use Rattle.quic_results.specs.declared.results.Failure.{Failure}
use Rattle.quic_results.specs.declared.results.Failure.TheVariants as failure
use Rattle.quic_results.specs.Results.{returned}
use Rattle.quic_versions.specs.Versions.{version_bytes}

-- ---- what the flags mean: 0x10, the fixed bit may be clear (RFC 9287); 0x20, it is ignored in packets of versions
-- other than those given, and in version negotiations (section 17.2.1); 0x40, a Retry must be complete

-- a short header, or a long one of one of the versions
abbrev pub IsOfVersion : List ℕ → List ℕ → Type 0
IsOfVersion versions packet =
    let version = num (take 4 (drop 1 packet)) in
    (slice_index packet 0 < 0x80) ⊎ (5 ≤ length packet) × (version ≢ 0) × Contains versions version

-- The fixed bit is clear although it must be set (RFC 9000, section 17.2).
pub record LacksFixedBit (flags : ℕ) (versions packet : List ℕ) : Type 0 where
  pub some : packet ≢ []
  pub clear : has_bit 0x40 (slice_index packet 0) ≡ false
  pub asked : has_bit 0x10 flags ≡ false
  pub counts : has_bit 0x20 flags ≡ true → IsOfVersion versions packet

-- A Retry has no token, or too few bytes for its tag of 16 bytes (section 17.2.5), although it must have both.
abbrev pub is_partial : ℕ → HeaderPlaces → ℕ → Bool
is_partial flags x whole =
    (word_of (row x.kind) == 3) && (has_bit 0x40 flags && nat_lt whole (x.header_end + 17))

-- The token of an Initial packet is in its header. That of a Retry is between the header and the tag, if there is one.
abbrev pub token_in : HeaderPlaces → ℕ → Place
token_in x whole =
    if (word_of (row x.kind) == 3) && nat_le (x.header_end + 16) whole
    then record { start = x.header_end; end = whole - 16 } else x.token

-- ---- what is reported

-- what is reported for what was read in that many bytes: where the packet ends, or why it isn't complete
abbrev pub outcome_of : ℕ → Result HeaderPlaces ReadError → ℕ → Result ℕ Failure
outcome_of flags (Ok x) whole =
    if is_partial flags x whole then Err failure.PacketRetry
    else option_map_or (λ end. Ok end) (ends_at x whole) (Err failure.PacketCut)
outcome_of flags (Err (error.UnsupportedVersion version dst_len src_len)) whole = Err failure.PacketVersion
outcome_of flags (Err error.UnexpectedEnd) whole = Err failure.PacketEnd
outcome_of flags (Err error.SmallPacket) whole = Err failure.PacketSmall
outcome_of flags (Err error.MalformedCid) whole = Err failure.PacketId
outcome_of flags (Err error.TokenOutOfBounds) whole = Err failure.PacketToken

-- the fields for a packet whose header is read up to its ids
abbrev pub ids_words : List ℕ → ℕ → ℕ → ℕ → ℕ → ℕ → CHeader
ids_words packet kind version dst_len src_len header_end = record {
  kind = kind;
  first = slice_index packet 0;
  dst_len = dst_len;
  src_len = src_len;
  version = version;
  header_end = header_end;
  end = length packet;
  token = 0;
  token_len = 0;
  len = 0;
}

-- the fields for the header at these offsets
abbrev pub placed_words : List ℕ → HeaderPlaces → CHeader
placed_words packet x = record {
  kind = word_of (row x.kind);
  first = x.first;
  dst_len = x.dst_len;
  src_len = x.src_len;
  version = x.version;
  header_end = x.header_end;
  end = unwrap_or (ends_at x (length packet)) (length packet);
  token = (token_in x (length packet)).start;
  token_len = (token_in x (length packet)).end - (token_in x (length packet)).start;
  len = x.len;
}

-- the fields for what was read; they don't change if no header was read
abbrev pub header_words : ℕ → List ℕ → Result HeaderPlaces ReadError → CHeader → CHeader
header_words flags packet (Ok x) old = if is_partial flags x (length packet) then old else placed_words packet x
header_words flags packet (Err (error.UnsupportedVersion version dst_len src_len)) old =
    ids_words packet 6 version dst_len src_len (6 + dst_len + 1 + src_len)
header_words flags packet _ old = old

-- The front of the bytes was read, and is reported by the outcome and the fields.
pub record Reported (flags id_len : ℕ) (versions packet : List ℕ) (old : CHeader) (outcome : Result ℕ Failure)
    (new : CHeader) : Type 0 where
  pub read : Result HeaderPlaces ReadError
  pub right : ReadAnswer (any_fixed id_len versions) packet (seen_in packet read)
  pub stored : IsSeen read (length packet)
  pub first : IfOk read (λ x. x.first ≡ slice_index packet 0)
  pub outcome_is : outcome ≡ outcome_of flags read (length packet)
  pub words : new ≡ header_words flags packet read old

-- the number that is returned for it, and the fields
abbrev pub IsReported : ℕ → ℕ → List ℕ → List ℕ → CHeader → ℤ → CHeader → Type 0
IsReported flags id_len versions packet old result new =
    (outcome : Result ℕ Failure) × (result ≡ returned outcome) × Reported flags id_len versions packet old outcome new

-- ---- only the receiver's id

-- Where the receiver's id is in a packet of any version, and how many bytes it has: in a long header after the version
-- and its length (RFC 8999, section 5.1); in a short one after the first byte, with as many bytes as the receiver's ids
-- have (section 5.2).
pub record IsReceiverAt (id_len : ℕ) (packet : List ℕ) (place len : ℕ) : Type 0 where
  pub some : 0 < length packet
  pub long : 0x80 ≤ slice_index packet 0 → (place ≡ 6) × (len ≡ slice_index packet 5) × (6 ≤ length packet)
  pub short : slice_index packet 0 < 0x80 → (place ≡ 1) × (len ≡ id_len)
  pub within : place + len ≤ length packet

-- ---- version negotiation

-- The bytes begin with the header of one: a long header of version 0, and rest follows its ids.
abbrev pub IsNegotiation : List ℕ → List ℕ → List ℕ → List ℕ → Type 0
IsNegotiation bytes dst src rest = AnyVersion bytes 0 dst src rest

-- what is reported for a packet with these ids
abbrev pub negotiation_words : List ℕ → List ℕ → List ℕ → CHeader
negotiation_words packet dst src =
    ids_words packet 5 0 (length dst) (length src) (7 + length dst + length src)

-- a packet: its header and the versions; of the first byte's seven low bits only the fixed bit is set, except that the
-- flags invert them
abbrev pub negotiation_bytes : ℕ → List ℕ → List ℕ → List ℕ → List ℕ
negotiation_bytes flags dst src versions =
    header_bytes (header.VersionNegotiate (bit_xor 0x40 (flags % 0x80)) src dst) ++ version_bytes versions
