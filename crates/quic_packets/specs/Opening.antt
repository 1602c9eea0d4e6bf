-- Opening packets: the first one of a datagram, the next one, and all of them.
use Rattle.std.specs.Prelude.{◌≡◌, ◌≢◌, ℕ, ◌+◌, ◌<◌, ◌≤◌, ◌⊎◌, Bool, true, List, [], ◌∷◌, ◌++◌, length, map, Option, Some, None, ◌^◌, Result, Ok, Err, IfOk, IfErr, IfSome, MatchOption, MatchResult}
use Rattle.bytes.specs.Filled.{Filled}
use Rattle.quic_base.specs.declared.ids.SpaceId.{SpaceId}
use Rattle.quic_crypto.specs.Keys.{HasSample}
use Rattle.quic_crypto.specs.PacketNumbers.{low_part, window_of, Expands}
use Rattle.quic_header_decode.specs.declared.decode_error.PacketDecodeError.{PacketDecodeError}
use Rattle.quic_header_decode.specs.Headers.{sample_refusal}
use Rattle.quic_header_decode.specs.Grammar.{IsKnownVersion}
use Rattle.quic_header_decode.specs.Headers.{IsOpenedBy, IsWithoutNumber}
use Rattle.quic_header_decode.specs.Datagram.{CutPacket, CutsFirst, IsUncut}
use Rattle.quic_header_decode.specs.Headers.{space_of}
use Rattle.quic_header_decode.specs.Reading.{DecodeOptions, IsRest}
use Rattle.quic_header_decode.specs.Refusal.{refusal_of, NoMemory}
use Rattle.quic_header_encode.specs.declared.header.Header.{Header}
use Rattle.quic_header_encode.specs.declared.header.Header.TheVariants as header
use Rattle.quic_header_encode.specs.Kinds.{number_in, space_in}
use Rattle.quic_packets.specs.declared.keys.Expected.{Expected}
use Rattle.quic_packets.specs.declared.opening.OpenError.{OpenError}
use Rattle.quic_packets.specs.declared.opening.OpenError.TheVariants as error
use Rattle.quic_packets.specs.declared.opening.Opened.{Opened}
use Rattle.quic_packets.specs.Pairs.{KeyPair}
use Rattle.quic_packets.specs.Sealing.{IsAppended, PacketContents, Sealed, sealed_header}

-- ---- what the caller passes, and what is returned

-- what packets are opened with
pub record Opening : Type 0 where
  pub keys : SpaceId → KeyPair
  -- the parser of ids, the versions that are known, and whether the fixed bit may be clear
  pub options : DecodeOptions
  -- the parser allocates
  pub takes_memory : Bool
  -- the number that is expected next in each space
  pub expected : SpaceId → ℕ

-- expected numbers are below 2^62
pub record AreExpected (expected : Expected) : Type 0 where
  pub initial : expected.initial < 2 ^ 62
  pub handshake : expected.handshake < 2 ^ 62
  pub app : expected.app < 2 ^ 62

-- a packet that was opened
pub record OpenedPacket : Type 0 where
  pub header : Header
  pub header_bytes : List ℕ
  -- the whole number, if the packet has one
  pub number : Option ℕ
  pub payload : List ℕ

abbrev pub packet_of : Opened → OpenedPacket
packet_of x = record { header = x.header; header_bytes = x.header_data; number = x.number; payload = x.payload.items }

-- ---- a packet that was cut

-- the whole number for the truncated one in a header
abbrev pub ExpandsIn : Header → ℕ → ℕ → Type 0
ExpandsIn h expected n = MatchOption (number_in h) ⊥ (λ number. Expands (low_part number) (window_of number) expected n)

-- a packet whose header protection was removed
pub record UnlockedPacket : Type 0 where
  pub header : Header
  pub header_bytes : List ℕ
  pub sealed_payload : List ℕ
  pub number : ℕ

-- a key removes the header protection, and the whole number is derived from the expected one
pub record Unlocks (key : KeyPair) (expected : ℕ) (cut : CutPacket) (packet : UnlockedPacket) : Type 0 where
  pub sample : HasSample key.sample_len cut.header_end cut.bytes
  pub whole : packet.header_bytes ++ packet.sealed_payload ≡ key.unprotected cut.header_end cut.bytes
  pub is_header : IsOpenedBy true cut.head cut.header_end packet.header
      (packet.header_bytes ++ packet.sealed_payload) (length packet.header_bytes)
  pub number : ExpandsIn packet.header expected packet.number

-- the payload that a key opens, if it was sealed by that key
abbrev pub payload_opened : KeyPair → UnlockedPacket → Option (List ℕ)
payload_opened key packet = key.opened packet.number packet.header_bytes packet.sealed_payload

-- a key opens the packet
pub record OpensWithKey (key : KeyPair) (expected : ℕ) (cut : CutPacket) (opened : OpenedPacket) : Type 0 where
  pub unlocked : UnlockedPacket
  pub unlocks : Unlocks key expected cut unlocked
  pub header : opened.header ≡ unlocked.header
  pub header_bytes : opened.header_bytes ≡ unlocked.header_bytes
  pub number : opened.number ≡ Some unlocked.number
  pub payload : payload_opened key unlocked ≡ Some opened.payload

-- a Retry or version negotiation is returned unchanged
pub record OpensPlain (cut : CutPacket) (opened : OpenedPacket) : Type 0 where
  pub header : IsWithoutNumber cut.head opened.header
  pub bytes : opened.header_bytes ++ opened.payload ≡ cut.bytes
  pub header_end : length opened.header_bytes ≡ cut.header_end
  pub number : opened.number ≡ None

-- the key of its space opens the packet; without a space it is returned unchanged
abbrev pub OpensPacket : (SpaceId → KeyPair) → (SpaceId → ℕ) → CutPacket → OpenedPacket → Type 0
OpensPacket keys expected cut opened = MatchOption (space_of cut.head) (OpensPlain cut opened)
    (λ space. OpensWithKey (keys space) (expected space) cut opened)

-- why a key doesn't open the packet: there is no sample, or it wasn't sealed with that key, or an allocation fails
abbrev pub RefusesWithKey : KeyPair → ℕ → CutPacket → OpenError → Type 0
RefusesWithKey key expected cut (error.Decode e) =
    (refusal_of e ≡ sample_refusal) × (HasSample key.sample_len cut.header_end cut.bytes → ⊥)
RefusesWithKey key expected cut error.Unsealed =
    (packet : UnlockedPacket) × Unlocks key expected cut packet × (payload_opened key packet ≡ None)
RefusesWithKey key expected cut error.OutOfMemory = Unit {0}

-- why the packet isn't opened: the key of its space doesn't open it, or an allocation failed
abbrev pub RefusesPacket : (SpaceId → KeyPair) → (SpaceId → ℕ) → CutPacket → OpenError → Type 0
RefusesPacket keys expected cut e = MatchOption (space_of cut.head) (e ≡ error.OutOfMemory)
    (λ space. RefusesWithKey (keys space) (expected space) cut e)

-- the same error as a cut's; out of memory has its own value
abbrev pub IsDecode : PacketDecodeError → OpenError → Type 0
IsDecode e (error.Decode f) = (refusal_of f ≡ refusal_of e) × (refusal_of e ≢ NoMemory)
IsDecode e error.Unsealed = ⊥
IsDecode e error.OutOfMemory = refusal_of e ≡ NoMemory

-- ---- any bytes

-- the first packet is opened, and rest follows it
pub record Opens (opening : Opening) (bytes : List ℕ) (opened : OpenedPacket) (rest : List ℕ) : Type 0 where
  pub packet : CutPacket
  pub first : CutsFirst opening.options bytes packet rest
  pub opens : OpensPacket opening.keys opening.expected packet opened

-- no packet is cut, for the same error
abbrev pub IsNoneCut : Opening → List ℕ → OpenError → Type 0
IsNoneCut opening bytes e =
    (cut : PacketDecodeError) × IsUncut opening.options opening.takes_memory bytes cut × IsDecode cut e

-- the first packet is cut, and rest follows it, but it is not opened
pub record IsCutUnopened (opening : Opening) (bytes : List ℕ) (e : OpenError) (rest : List ℕ) : Type 0 where
  pub packet : CutPacket
  pub first : CutsFirst opening.options bytes packet rest
  pub refused : RefusesPacket opening.keys opening.expected packet e

-- why the first packet isn't opened: none is cut, or the one that is cut isn't opened
abbrev pub Refuses : Opening → List ℕ → OpenError → Type 0
Refuses opening bytes e = IsNoneCut opening bytes e ⊎ ((rest : List ℕ) × IsCutUnopened opening bytes e rest)

-- What is left after an error: nothing if no packet is cut, else what follows the packet that is not opened (RFC 9000,
-- section 12.2).
abbrev pub IsLeftAfter : Opening → List ℕ → OpenError → Option Filled → Type 0
IsLeftAfter opening bytes e left =
    (IsNoneCut opening bytes e × (left ≡ None))
    ⊎ ((rest : List ℕ) × IsCutUnopened opening bytes e rest × IsRest left rest)

-- the first packet is opened, and what follows it is left, if anything does
pub record OpensFirst (opening : Opening) (bytes : List ℕ) (opened : Opened) (left : Option Filled) : Type 0 where
  pub rest : List ℕ
  pub opens : Opens opening bytes (packet_of opened) rest
  pub left_is : IsRest left rest

-- These packets are opened one after another, and then these bytes are left, or none, once nothing follows the last
-- packet.
pub data OpensRow (opening : Opening) : List ℕ → List OpenedPacket → Option (List ℕ) → Type 0 where
  start : (bytes : List ℕ) → OpensRow opening bytes [] (Some bytes)
  end_row : (bytes : List ℕ) (opened : OpenedPacket) → Opens opening bytes opened []
      → OpensRow opening bytes (opened ∷ []) None
  step : (bytes rest : List ℕ) (left : Option (List ℕ)) (opened : OpenedPacket) (others : List OpenedPacket)
      → Opens opening bytes opened rest → 0 < length rest
      → OpensRow opening rest others left → OpensRow opening bytes (opened ∷ others) left

-- ---- sealed bytes

-- a header that is read back if these bytes follow its packet
abbrev pub IsReadable : DecodeOptions → Header → List ℕ → Type 0
IsReadable options (header.Initial h) rest =
    (h.version < 2 ^ 32) × IsKnownVersion options h.version × (length h.dst_cid ≤ 20) × (length h.src_cid ≤ 20)
IsReadable options (header.Long ty dst src number version) rest =
    (version < 2 ^ 32) × IsKnownVersion options version × (length dst ≤ 20) × (length src ≤ 20)
IsReadable options (header.Retry dst src version) rest = ⊥
IsReadable options (header.Short spin key_phase dst number) rest =
    (rest ≡ []) × ((tail : List ℕ) → options.parsed (dst ++ tail) ≡ Ok (dst, length dst))
IsReadable options (header.VersionNegotiate random src dst) rest = ⊥

-- The bytes begin with a packet that was sealed with the keys of its space, whose header is read back, and whose number
-- is derived from the expected one; rest follows it.
pub record BeginsSealed (opening : Opening) (bytes : List ℕ) (contents : PacketContents) (rest : List ℕ) : Type 0 where
  pub packet : List ℕ
  pub sealed : Sealed (opening.keys (space_in contents.header)) contents packet
  pub read : IsReadable opening.options contents.header rest
  pub number : ExpandsIn contents.header (opening.expected (space_in contents.header)) contents.number
  pub text : bytes ≡ packet ++ rest

-- the packet that is returned for sealed contents
abbrev pub returned : KeyPair → PacketContents → OpenedPacket
returned keys contents = record {
  header = contents.header;
  header_bytes = sealed_header keys.tag_size contents.header contents.payload;
  number = Some contents.number;
  payload = contents.payload;
}

abbrev pub returned_by : Opening → PacketContents → OpenedPacket
returned_by opening contents = returned (opening.keys (space_in contents.header)) contents

-- a sealed packet is opened again, and what follows it is left
pub record ReturnsSealed (opening : Opening) (contents : PacketContents) (rest : List ℕ) (opened : Opened)
    (left : Option Filled) : Type 0 where
  pub packet : packet_of opened ≡ returned_by opening contents
  pub left_is : IsRest left rest

-- the bytes are sealed packets in a row
pub data SealedRow (opening : Opening) : List PacketContents → List ℕ → Type 0 where
  last : (contents : PacketContents) (bytes : List ℕ) → BeginsSealed opening bytes contents []
      → SealedRow opening (contents ∷ []) bytes
  more : (contents : PacketContents) (bytes rest : List ℕ) (others : List PacketContents)
      → BeginsSealed opening bytes contents rest → 0 < length rest
      → SealedRow opening others rest → SealedRow opening (contents ∷ others) bytes

-- what was opened is these contents, in order
abbrev pub AreReturned : Opening → List PacketContents → List Opened → Type 0
AreReturned opening packets opened = map packet_of opened ≡ map (returned_by opening) packets

-- the first of these packets were opened again, and appended
abbrev pub ReturnsFront : Opening → List PacketContents → List Opened → List Opened → Type 0
ReturnsFront opening packets old new = (front back : List PacketContents) × (packets ≡ front ++ back)
    × IsAppended (AreReturned opening front) old new

-- ---- what the calls return

-- a call that opens the first packet
pub record PacketAnswer (opening : Opening) (bytes : List ℕ)
    (result : Result (Opened × Option Filled) OpenError) : Type 0 where
  pub opened : IfOk result (λ x. OpensFirst opening bytes x.0 x.1)
  pub shorter : IfOk result (λ x. IfSome x.1 (λ rest. length rest.items < length bytes))
  pub refused : IfErr result (λ e. Refuses opening bytes e)
  pub sealed : (contents : PacketContents) (rest : List ℕ) → BeginsSealed opening bytes contents rest
      → MatchResult result (λ x. ReturnsSealed opening contents rest x.0 x.1) (λ e. e ≡ error.OutOfMemory)

-- a call that opens the next packet of what is left, if anything is
abbrev pub NextAnswer : Opening → Option Filled → Option (Result Opened OpenError) → Option Filled → Type 0
NextAnswer opening None result new = (result ≡ None) × (new ≡ None)
NextAnswer opening (Some left) None new = ⊥
NextAnswer opening (Some left) (Some (Ok opened)) new = PacketAnswer opening left.items (Ok (opened, new))
NextAnswer opening (Some left) (Some (Err e)) new =
    PacketAnswer opening left.items (Err e) × IsLeftAfter opening left.items e new

-- how much is left, which becomes less with each packet
abbrev pub left_size : Option Filled → ℕ
left_size None = 0
left_size (Some left) = 1 + length left.items

-- a call that opens all packets, and appends them; if one can't be opened, those before it have been appended
pub record DatagramAnswer {X : Type 0} (opening : Opening) (bytes : List ℕ) (result : Result X OpenError)
    (old new : List Opened) : Type 0 where
  pub opened : IfOk result (λ _. IsAppended (λ added. OpensRow opening bytes (map packet_of added) None) old new)
  pub refused : IfErr result (λ e. (left : List ℕ) × Refuses opening left e
      × IsAppended (λ added. OpensRow opening bytes (map packet_of added) (Some left)) old new)
  pub sealed : (packets : List PacketContents) → SealedRow opening packets bytes
      → MatchResult result (λ _. IsAppended (AreReturned opening packets) old new)
      (λ e. (e ≡ error.OutOfMemory) × ReturnsFront opening packets old new)
