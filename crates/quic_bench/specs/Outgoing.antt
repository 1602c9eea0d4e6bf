-- Packets that are sealed and opened again.
use Rattle.std.specs.Prelude.{◌≡◌, ℕ, ◌<◌, ◌^◌, ◌⊎◌, List, ◌++◌, length, Some}
use Rattle.quic_base.specs.declared.ids.SpaceId.{SpaceId}
use Rattle.quic_frames.specs.InRange.{CanFollow}
use Rattle.quic_header_encode.specs.Kinds.{space_in}
use Rattle.quic_header_encode.specs.Writing.{IsWritable}
use Rattle.quic_packets.specs.declared.opening.OpenError.TheVariants as error
use Rattle.quic_packets.specs.declared.opening.Opened.{Opened}
use Rattle.quic_packets.specs.declared.seal.SealError.{SealError}
use Rattle.quic_packets.specs.Opening.{ExpandsIn, IsReadable, Opening}
use Rattle.quic_packets.specs.Pairs.{KeyPair}
use Rattle.quic_frames.specs.Written.{IsPayload}
use Rattle.quic_packets.specs.Sealing.{IsLowPart, SealedFrames, SealRefused, payload_of}
use Rattle.quic_bench.specs.declared.two_packets.Failure.{Failure}
use Rattle.quic_bench.specs.declared.two_packets.Failure.TheVariants as failure
use Rattle.quic_bench.specs.declared.two_packets.Outgoing.{Outgoing}

-- A packet that may be sealed: its header can be written and has the low part of its number, which is below 2^62; it
-- has frames, and they can be written one after another.
pub record CanBeSealed (packet : Outgoing) : Type 0 where
  pub writable : IsWritable packet.header.now
  pub low : IsLowPart packet.header.now packet.number
  pub small : packet.number < 2 ^ 62
  pub some : 0 < length packet.frames.now
  pub follow : CanFollow packet.frames.now

-- A packet that is found again if these bytes follow it: its header is read back, and its number is found by the one
-- that is expected in its space.
pub record IsFoundAgain (opening : Opening) (packet : Outgoing) (rest : List ℕ) : Type 0 where
  pub head : IsReadable opening.options packet.header.now rest
  pub number : ExpandsIn packet.header.now (opening.expected (space_in packet.header.now)) packet.number

-- bytes are two sealed packets, one after the other
pub record AreSealed (keys : SpaceId → KeyPair) (first second : Outgoing) (bytes : List ℕ) : Type 0 where
  pub front : List ℕ
  pub back : List ℕ
  pub first_sealed : SealedFrames
      (keys (space_in first.header.now)) first.header.now first.number first.frames.now front
  pub second_sealed : SealedFrames
      (keys (space_in second.header.now)) second.header.now second.number second.frames.now back
  pub text : bytes ≡ front ++ back

-- what was opened has the packet's header and number, and its payload is the least one that means the packet's frames
pub record Carries (opened : Opened) (packet : Outgoing) : Type 0 where
  pub header : opened.header ≡ packet.header.now
  pub number : opened.number ≡ Some packet.number
  pub payload : IsPayload packet.frames.now opened.payload.items

-- why a packet isn't sealed, if there is so much room
abbrev pub IsRefusedPacket : (SpaceId → KeyPair) → Outgoing → SealError → Type 0
IsRefusedPacket keys packet e = (spare : ℕ)
    × SealRefused (keys (space_in packet.header.now)) packet.header.now (payload_of packet.frames.now) spare e

-- why two packets are not sealed and opened: one of them can't be sealed, or memory ran out
abbrev pub IsFailure : (SpaceId → KeyPair) → Outgoing → Outgoing → Failure → Type 0
IsFailure keys first second (failure.Seal e) = IsRefusedPacket keys first e ⊎ IsRefusedPacket keys second e
IsFailure keys first second (failure.Open e) = e ≡ error.OutOfMemory
