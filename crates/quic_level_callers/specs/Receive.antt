-- A packet that is sealed and received after another.
use Rattle.std.specs.Prelude.{◌≡◌, [], ℕ, List, Some}
use Rattle.quic_frames.specs.declared.frame.Frame.{Frame}
use Rattle.quic_frames.specs.Written.{IsPayload}
use Rattle.quic_header_encode.specs.declared.header.Header.{Header}
use Rattle.quic_header_encode.specs.Kinds.{phase_in}
use Rattle.quic_levels.specs.declared.levels.Level.{Level}
use Rattle.quic_levels.specs.declared.opening.LevelError.TheVariants as error
use Rattle.quic_levels.specs.Levels.{level_in}
use Rattle.quic_levels.specs.Opening.{LevelOpening}
use Rattle.quic_levels.specs.Protection.{HeaderProtection, PacketProtection, pair_of}
use Rattle.quic_packets.specs.declared.opening.Opened.{Opened}
use Rattle.quic_packets.specs.Opening.{ExpandsIn, IsReadable}
use Rattle.quic_packets.specs.Pairs.{KeyPair}
use Rattle.quic_packets.specs.Sealing.{SealRefused, payload_of}
use Rattle.quic_level_callers.specs.declared.callers.Failure.{Failure}
use Rattle.quic_level_callers.specs.declared.callers.Failure.TheVariants as failure

-- A packet with this header and number is found by a receiver that has opened nothing: these keys are those of its
-- level, key phase and number; its header is read back if nothing follows it; and its number follows from 0.
pub record IsFoundFirst (opening : LevelOpening) (keys : KeyPair) (h : Header) (n : ℕ) : Type 0 where
  pub level : Level
  pub has_level : level_in h ≡ Some level
  pub header_key : HeaderProtection
  pub has_header_key : opening.keys.header level ≡ Some header_key
  pub packet_key : PacketProtection
  pub has_packet_key : opening.keys.packet level (phase_in h) n ≡ Some packet_key
  pub same : keys ≡ pair_of header_key packet_key
  pub read : IsReadable opening.options h []
  pub number : ExpandsIn h 0 n

-- what was opened has this header and number, and its payload is the least one that means the frames
pub record Carries (opened : Opened) (h : Header) (n : ℕ) (frames : List Frame) : Type 0 where
  pub header : opened.header ≡ h
  pub number : opened.number ≡ Some n
  pub payload : IsPayload frames opened.payload.items

-- why it isn't received: it can't be sealed, or an allocation failed
abbrev pub IsFailure : KeyPair → Header → List Frame → Failure → Type 0
IsFailure keys h frames (failure.Seal e) = (spare : ℕ) × SealRefused keys h (payload_of frames) spare e
IsFailure keys h frames (failure.Receive e) = e ≡ error.OutOfMemory
