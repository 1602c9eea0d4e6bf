-- Headers before and after their protection is removed (RFC 9000, section 17), and why it can't be.
use Rattle.std.specs.Prelude.{◌≡◌, ℕ, ◌+◌, ◌≤◌, ◌⊎◌, Bool, true, false, List, length, slice_index, slice_range, is_some, codes, Option, Some, None}
use Rattle.quic_base.specs.Number.{has_bit}
use Rattle.quic_crypto.specs.Keys.{number_len}
use Rattle.quic_crypto.specs.declared.packet_number.PacketNumber.{PacketNumber}
use Rattle.quic_crypto.specs.PacketNumbers.{NumberAt, number_size}
use Rattle.quic_header_decode.specs.Refusal.{Refusal, Invalid, NoMemory}
use Rattle.quic_header_decode.specs.declared.protected.ProtectedHeader.{ProtectedHeader}
use Rattle.quic_header_decode.specs.declared.protected.ProtectedHeader.TheVariants as protected
use Rattle.quic_header_encode.specs.declared.header.Header.{Header}
use Rattle.quic_header_encode.specs.declared.header.Header.TheVariants as header
use Rattle.quic_header_encode.specs.Types.{long_space}
use Rattle.quic_base.specs.declared.ids.SpaceId.{SpaceId}
use Rattle.quic_base.specs.declared.ids.SpaceId.TheVariants as space
use Rattle.quic_header_encode.specs.declared.long_type.LongType.TheVariants.{ZeroRtt}

-- ---- protected headers

-- the space of a packet's number, if it has one
abbrev pub space_of : ProtectedHeader → Option SpaceId
space_of (protected.Initial h) = Some space.Initial
space_of (protected.Long ty dst src len version) = Some (long_space ty)
space_of (protected.Short spin dst) = Some space.Data
space_of _ = None

abbrev pub IsInitial : ProtectedHeader → Type 0
IsInitial (protected.Initial h) = Unit {0}
IsInitial _ = ⊥

abbrev pub IsShort : ProtectedHeader → Type 0
IsShort (protected.Short spin dst) = Unit {0}
IsShort _ = ⊥

abbrev pub IsZeroRtt : ProtectedHeader → Type 0
IsZeroRtt (protected.Long ty dst src len version) = ty ≡ ZeroRtt
IsZeroRtt _ = ⊥

-- the receiver's id
abbrev pub dst_of : ProtectedHeader → List ℕ
dst_of (protected.Initial h) = h.dst_cid
dst_of (protected.Long ty dst src len version) = dst
dst_of (protected.Retry dst src version) = dst
dst_of (protected.Short spin dst) = dst
dst_of (protected.VersionNegotiate random dst src) = dst

-- Retry and version negotiation have no protection
abbrev pub is_protected : ProtectedHeader → Bool
is_protected h = is_some (space_of h)

-- the number in a packet at an offset, of as many bytes as the first byte says
pub record IsNumberIn (number : PacketNumber) (at : ℕ) (packet : List ℕ) : Type 0 where
  pub size : number_size number ≡ number_len (slice_index packet 0)
  pub within : at + number_size number ≤ length packet
  pub text : NumberAt number (slice_range packet at (at + number_size number))

-- what a header says once its number is known, in an open packet
abbrev pub IsWithNumber : ProtectedHeader → PacketNumber → List ℕ → Header → Type 0
IsWithNumber (protected.Initial h) number packet got =
    got ≡ header.Initial (record {
      dst_cid = h.dst_cid;
      src_cid = h.src_cid;
      token = slice_range packet h.token_pos.start h.token_pos.end;
      number = number;
      version = h.version;
    })
IsWithNumber (protected.Long ty dst src len version) number packet got = got ≡ header.Long ty dst src number version
IsWithNumber (protected.Short spin dst) number packet got = got
    ≡ header.Short spin (has_bit 0x04 (slice_index packet 0)) dst number
IsWithNumber _ number packet got = ⊥

-- what a header without a number says
abbrev pub IsWithoutNumber : ProtectedHeader → Header → Type 0
IsWithoutNumber (protected.Retry dst src version) got = got ≡ header.Retry dst src version
IsWithoutNumber (protected.VersionNegotiate random dst src) got = got ≡ header.VersionNegotiate random src dst
IsWithoutNumber _ got = ⊥

-- the header of an open packet, which ends after the number if it has one
abbrev pub IsOpenedBy : Bool → ProtectedHeader → ℕ → Header → List ℕ → ℕ → Type 0
IsOpenedBy true h at header packet end =
    (number : PacketNumber) × IsNumberIn number at packet × IsWithNumber h number packet header
    × (end ≡ at + number_size number)
IsOpenedBy false h at header packet end = IsWithoutNumber h header × (end ≡ at)

-- the header of an open packet: with a number if it was protected
abbrev pub IsOpened : ProtectedHeader → ℕ → Header → List ℕ → ℕ → Type 0
IsOpened h = IsOpenedBy (is_protected h) h

-- no sample can be taken
abbrev pub sample_refusal : Refusal
sample_refusal = Invalid (codes "packet too short to extract header protection sample")

-- the error: no sample if the packet has none, else out of memory
abbrev pub IsUnfinished : Type 0 → Refusal → Type 0
IsUnfinished has e = ((has → ⊥) × (e ≡ sample_refusal)) ⊎ (has × (e ≡ NoMemory))
