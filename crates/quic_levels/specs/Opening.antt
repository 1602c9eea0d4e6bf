-- Opening packets with the keys of their levels (RFC 9001, sections 5 and 6).
use Rattle.std.specs.Prelude.{◌≡◌, ◌≢◌, ℕ, ◌<◌, ◌⊎◌, Bool, true, List, ◌++◌, length, Option, Some, None, Result, Ok, Err, IfOk, IfErr, IfSome, MatchOption}
use Rattle.bytes.specs.Filled.{Filled}
use Rattle.quic_crypto.specs.Keys.{HasSample}
use Rattle.quic_header_decode.specs.declared.decode_error.PacketDecodeError.{PacketDecodeError}
use Rattle.quic_header_decode.specs.declared.packet.Packet.{Packet}
use Rattle.quic_header_decode.specs.Datagram.{CutPacket, CutsFirst, IsUncut}
use Rattle.quic_header_decode.specs.Headers.{IsOpenedBy, sample_refusal}
use Rattle.quic_header_decode.specs.Reading.{DecodeOptions, IsRest}
use Rattle.quic_header_decode.specs.Refusal.{refusal_of, NoMemory}
use Rattle.quic_header_encode.specs.Kinds.{phase_in, space_in}
use Rattle.quic_levels.specs.declared.levels.Level.{Level}
use Rattle.quic_levels.specs.declared.opening.LevelError.{LevelError}
use Rattle.quic_levels.specs.declared.opening.LevelError.TheVariants as error
use Rattle.quic_levels.specs.Levels.{level_in, level_of, space_at}
use Rattle.quic_levels.specs.Protection.{HeaderProtection, LevelProtection, PacketProtection, pair_of}
use Rattle.quic_packets.specs.declared.keys.Expected.{Expected}
use Rattle.quic_packets.specs.declared.opening.Opened.{Opened}
use Rattle.quic_packets.specs.Opening.{ExpandsIn, IsReadable, OpenedPacket, OpensPlain, UnlockedPacket, packet_of, returned}
use Rattle.quic_packets.specs.Pairs.{KeyPair, expected_in}
use Rattle.quic_packets.specs.Sealing.{PacketContents, Sealed}

-- what packets are opened with
pub record LevelOpening : Type 0 where
  pub keys : LevelProtection
  -- the parser of ids, the versions that are known, and whether the fixed bit may be clear
  pub options : DecodeOptions
  -- the parser allocates
  pub takes_memory : Bool

-- ---- a packet that was cut

-- a header key removes the header protection, and the whole number is derived from the expected one
pub record Unlocks (key : HeaderProtection) (expected : ℕ) (cut : CutPacket) (packet : UnlockedPacket) : Type 0 where
  pub sample : HasSample key.sample_len cut.header_end cut.bytes
  pub whole : packet.header_bytes ++ packet.sealed_payload ≡ key.unprotected cut.header_end cut.bytes
  pub is_header : IsOpenedBy true cut.head cut.header_end packet.header
      (packet.header_bytes ++ packet.sealed_payload) (length packet.header_bytes)
  pub number : ExpandsIn packet.header expected packet.number

abbrev pub unlocked_of : Packet → ℕ → UnlockedPacket
unlocked_of packet number = record {
  header = packet.header;
  header_bytes = packet.header_data;
  sealed_payload = packet.payload.items;
  number = number;
}

-- why a header key that samples so many bytes doesn't remove the header protection: there is no sample, or an
-- allocation fails
abbrev pub IsUnlockRefused : ℕ → CutPacket → LevelError → Type 0
IsUnlockRefused sample_len cut (error.Decode e) =
    (HasSample sample_len cut.header_end cut.bytes → ⊥) × (refusal_of e ≡ sample_refusal)
IsUnlockRefused sample_len cut error.NoKeys = ⊥
IsUnlockRefused sample_len cut error.Unsealed = ⊥
IsUnlockRefused sample_len cut error.OutOfMemory = Unit {0}

-- The header key of a level removes the header protection; then this is the level's packet key for the header's key
-- phase and the whole number, if there is one.
pub record UnlocksAt (keys : LevelProtection) (expected : ℕ) (level : Level) (cut : CutPacket) (packet : UnlockedPacket)
    (packet_key : Option PacketProtection) : Type 0 where
  pub header_key : HeaderProtection
  pub has_header_key : keys.header level ≡ Some header_key
  pub unlocks : Unlocks header_key expected cut packet
  pub has_packet_key : keys.packet level (phase_in packet.header) packet.number ≡ packet_key

-- the keys of a level open the packet
pub record OpensAt (keys : LevelProtection) (expected : ℕ) (level : Level) (cut : CutPacket) (opened : OpenedPacket) : Type 0 where
  pub unlocked : UnlockedPacket
  pub packet_key : PacketProtection
  pub unlocks : UnlocksAt keys expected level cut unlocked (Some packet_key)
  pub header : opened.header ≡ unlocked.header
  pub header_bytes : opened.header_bytes ≡ unlocked.header_bytes
  pub number : opened.number ≡ Some unlocked.number
  pub payload : packet_key.opened unlocked.number unlocked.header_bytes unlocked.sealed_payload ≡ Some opened.payload

-- Why the keys of a level don't open the packet: there is no sample for the header key; there is no header key, or no
-- packet key; the packet wasn't sealed with the packet key; or an allocation fails.
abbrev pub RefusesAt : LevelProtection → ℕ → Level → CutPacket → LevelError → Type 0
RefusesAt keys expected level cut (error.Decode e) =
    (key : HeaderProtection) × (keys.header level ≡ Some key) × IsUnlockRefused key.sample_len cut (error.Decode e)
RefusesAt keys expected level cut error.NoKeys =
    (keys.header level ≡ None) ⊎ ((packet : UnlockedPacket) × UnlocksAt keys expected level cut packet None)
RefusesAt keys expected level cut error.Unsealed =
    (packet : UnlockedPacket) × (key : PacketProtection) × UnlocksAt keys expected level cut packet (Some key)
    × (key.opened packet.number packet.header_bytes packet.sealed_payload ≡ None)
RefusesAt keys expected level cut error.OutOfMemory = Unit {0}

-- the keys of its level open the packet; without a level it is returned unchanged
abbrev pub OpensPacket : LevelProtection → Expected → CutPacket → OpenedPacket → Type 0
OpensPacket keys expected cut opened = MatchOption (level_of cut.head) (OpensPlain cut opened)
    (λ level. OpensAt keys (expected_in expected (space_at level)) level cut opened)

-- why the packet isn't opened: the keys of its level don't open it, or an allocation fails
abbrev pub RefusesPacket : LevelProtection → Expected → CutPacket → LevelError → Type 0
RefusesPacket keys expected cut e = MatchOption (level_of cut.head) (e ≡ error.OutOfMemory)
    (λ level. RefusesAt keys (expected_in expected (space_at level)) level cut e)

-- the same error as a cut's; out of memory has its own value
abbrev pub IsDecode : PacketDecodeError → LevelError → Type 0
IsDecode e (error.Decode f) = (refusal_of f ≡ refusal_of e) × (refusal_of e ≢ NoMemory)
IsDecode e error.NoKeys = ⊥
IsDecode e error.Unsealed = ⊥
IsDecode e error.OutOfMemory = refusal_of e ≡ NoMemory

-- ---- any bytes

-- the bytes begin with a packet, which is opened, and what follows it is left, if anything does
pub record OpensNext (opening : LevelOpening) (expected : Expected) (bytes : List ℕ) (opened : OpenedPacket)
    (left : Option Filled) : Type 0 where
  pub packet : CutPacket
  pub rest : List ℕ
  pub first : CutsFirst opening.options bytes packet rest
  pub opens : OpensPacket opening.keys expected packet opened
  pub left_is : IsRest left rest

-- the bytes begin with a packet, which isn't opened but skipped: what follows it is left (RFC 9000, section 12.2)
pub record SkipsNext (opening : LevelOpening) (expected : Expected) (bytes : List ℕ) (e : LevelError)
    (left : Option Filled) : Type 0 where
  pub packet : CutPacket
  pub rest : List ℕ
  pub first : CutsFirst opening.options bytes packet rest
  pub refused : RefusesPacket opening.keys expected packet e
  pub left_is : IsRest left rest

-- no packet can be cut from the bytes, for the same error, and nothing is left
pub record DropsAll (opening : LevelOpening) (bytes : List ℕ) (e : LevelError) (left : Option Filled) : Type 0 where
  pub cut : PacketDecodeError
  pub uncut : IsUncut opening.options opening.takes_memory bytes cut
  pub same : IsDecode cut e
  pub nothing : left ≡ None

-- ---- sealed bytes

-- The bytes begin with a packet that was sealed with the header key of its level, and the packet key of its level, key
-- phase and number. Its header is read back, and its number is derived from the one that is expected in its space; rest
-- follows it.
pub record BeginsSealed (opening : LevelOpening) (expected : ℕ) (bytes : List ℕ) (contents : PacketContents)
    (rest : List ℕ) : Type 0 where
  pub level : Level
  pub has_level : level_in contents.header ≡ Some level
  pub header_key : HeaderProtection
  pub has_header_key : opening.keys.header level ≡ Some header_key
  pub packet_key : PacketProtection
  pub has_packet_key : opening.keys.packet level (phase_in contents.header) contents.number ≡ Some packet_key
  pub packet : List ℕ
  pub sealed : Sealed (pair_of header_key packet_key) contents packet
  pub read : IsReadable opening.options contents.header rest
  pub number : ExpandsIn contents.header expected contents.number
  pub text : bytes ≡ packet ++ rest

-- a sealed packet is opened again, to its header, number and payload, and what follows it is left
pub record ReturnsSealed (keys : KeyPair) (contents : PacketContents) (rest : List ℕ) (opened : Opened)
    (left : Option Filled) : Type 0 where
  pub packet : packet_of opened ≡ returned keys contents
  pub left_is : IsRest left rest

-- a sealed packet is opened again, or an allocation fails
abbrev pub ReturnsAgain : KeyPair → PacketContents → List ℕ → Result Opened LevelError → Option Filled → Type 0
ReturnsAgain keys contents rest (Ok opened) left = ReturnsSealed keys contents rest opened left
ReturnsAgain keys contents rest (Err e) left = e ≡ error.OutOfMemory

-- ---- what a call returns

-- a call that opens the packet that these bytes begin with, and what it leaves
pub record NextOutcome (opening : LevelOpening) (expected : Expected) (bytes : List ℕ) (result : Result Opened LevelError)
    (left : Option Filled) : Type 0 where
  pub opened : IfOk result (λ x. OpensNext opening expected bytes (packet_of x) left)
  pub refused : IfErr result (λ e. DropsAll opening bytes e left ⊎ SkipsNext opening expected bytes e left)
  pub shorter : IfSome left (λ rest. length rest.items < length bytes)
  pub sealed : (contents : PacketContents) (rest : List ℕ)
      → (begins : BeginsSealed opening (expected_in expected (space_in contents.header)) bytes contents rest)
      → ReturnsAgain (pair_of begins.header_key begins.packet_key) contents rest result left

-- a call that opens the next packet of what is left, if anything is
abbrev pub NextAnswer : LevelOpening → Expected → Option Filled → Option (Result Opened LevelError) → Option Filled
    → Type 0
NextAnswer opening expected None result new = (result ≡ None) × (new ≡ None)
NextAnswer opening expected (Some left) None new = ⊥
NextAnswer opening expected (Some left) (Some result) new = NextOutcome opening expected left.items result new
