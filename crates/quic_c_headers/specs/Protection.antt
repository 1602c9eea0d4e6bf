-- Protection is removed from a header with a mask from the caller, and the packet's number is expanded.
use Rattle.std.specs.Prelude.{◌≡◌, ℕ, List, drop, slice_index}
use Rattle.quic_base.specs.Codec.{Takes}
use Rattle.quic_crypto.specs.Keys.{number_len}
use Rattle.quic_crypto.specs.Masks.{unmasked, unmasked_first}
use Rattle.quic_crypto.specs.declared.packet_number.PacketNumber.{PacketNumber}
use Rattle.quic_crypto.specs.PacketNumbers.{NumberAt, Expands, low_part, number_size, window_of}

-- The number is at an offset.
pub record StandsAt (number : PacketNumber) (at : ℕ) (bytes : List ℕ) : Type 0 where
  pub behind : List ℕ
  pub stands : Takes (NumberAt number) (drop at bytes) behind

-- The mask was removed, and the whole number, which follows from the expected one, was returned, with how many bytes it
-- has in the packet.
pub record GivesNumber (place : ℕ) (mask : List ℕ) (expected : ℕ) (old new : List ℕ) (number count : ℕ) : Type 0 where
  pub unmask : new ≡ unmasked place mask old
  pub written : PacketNumber
  pub stands : StandsAt written place new
  pub size : number_size written ≡ number_len (unmasked_first mask (slice_index old 0))
  pub whole : Expands (low_part written) (window_of written) expected number
  pub count_is : count ≡ number_size written
