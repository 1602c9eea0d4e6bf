-- Sealing packets (RFC 9000, section 12; RFC 9001, sections 5.3 and 5.4).
use Rattle.std.specs.Prelude.{map, ◌≡◌, ℕ, ◌+◌, ◌%◌, ◌<◌, ◌≤◌, ◌^◌, IsTrue, List, ◌++◌, length, MatchOption}
use Rattle.quic_base.specs.Number.{AreBytes, bytes_of}
use Rattle.quic_crypto.specs.PacketNumbers.{low_part, window_of}
use Rattle.quic_frames.specs.declared.frame.Frame.{Frame}
use Rattle.quic_frames.specs.Meaning.{meaning_of}
use Rattle.quic_frames.specs.Least.{shortest_frames}
use Rattle.quic_frames.specs.Written.{IsPayload}
use Rattle.quic_header_encode.specs.declared.header.Header.{Header}
use Rattle.quic_header_encode.specs.Kinds.{number_in}
use Rattle.quic_packets.specs.declared.seal.SealError.{SealError}
use Rattle.quic_packets.specs.declared.seal.SealError.TheVariants as refusal
use Rattle.quic_packets.specs.Pairs.{KeyPair}
use Rattle.quic_header_encode.specs.Writing.{header_with, header_size, IsWritable, number_place, size_in, has_length}

-- what is in a packet
pub record PacketContents : Type 0 where
  pub header : Header
  -- the whole number
  pub number : ℕ
  pub payload : List ℕ

-- the number in the header is the low part of this one
abbrev pub IsLowPart : Header → ℕ → Type 0
IsLowPart h n = MatchOption (number_in h) ⊥ (λ number. low_part number ≡ n % window_of number)

-- how many bytes there are from the number on, which is a header's length
abbrev pub protected_len : ℕ → Header → List ℕ → ℕ
protected_len tag_size h payload = size_in h + length payload + tag_size

-- the header of a sealed packet, with its length
abbrev pub sealed_header : ℕ → Header → List ℕ → List ℕ
sealed_header tag_size h payload = header_with (bytes_of 2 (2 ^ 14 + protected_len tag_size h payload)) h

-- a packet before its header is protected
abbrev pub plain_packet : KeyPair → PacketContents → List ℕ
plain_packet keys packet =
    sealed_header keys.tag_size packet.header packet.payload
    ++ keys.sealed packet.number (sealed_header keys.tag_size packet.header packet.payload) packet.payload

-- The bytes are a packet with these contents, sealed with these keys: the header can be written, and its number is the
-- low part of the packet's, which is below 2^62; from the number on there are at least four bytes and the sample, and
-- fewer than 2^14 if the header has a length; the bytes are the header with its length and the sealed payload, with the
-- header then protected.
pub record Sealed (keys : KeyPair) (packet : PacketContents) (bytes : List ℕ) : Type 0 where
  pub writable : IsWritable packet.header
  pub low : IsLowPart packet.header packet.number
  pub fits : packet.number < 2 ^ 62
  pub sample : 4 + keys.sample_len ≤ protected_len keys.tag_size packet.header packet.payload
  pub short : IsTrue (has_length packet.header) → protected_len keys.tag_size packet.header packet.payload < 2 ^ 14
  pub are_bytes : AreBytes (plain_packet keys packet)
  pub payload_bytes : AreBytes packet.payload
  pub text : bytes ≡ keys.protected (number_place packet.header) (plain_packet keys packet)

-- Why a packet isn't sealed with that much spare room: the first of these that holds, in this order. From the number on
-- there are fewer than four bytes and the sample; there are 2^14 or more, and the header has a length; the spare room
-- is less than the packet needs.
abbrev pub SealRefused : KeyPair → Header → List ℕ → ℕ → SealError → Type 0
SealRefused keys h payload spare refusal.TooShort = protected_len keys.tag_size h payload < 4 + keys.sample_len
SealRefused keys h payload spare refusal.TooLong =
    (4 + keys.sample_len ≤ protected_len keys.tag_size h payload) × IsTrue (has_length h)
    × (2 ^ 14 ≤ protected_len keys.tag_size h payload)
SealRefused keys h payload spare refusal.NoRoom =
    (4 + keys.sample_len ≤ protected_len keys.tag_size h payload)
    × (IsTrue (has_length h) → protected_len keys.tag_size h payload < 2 ^ 14)
    × (spare < header_size h + length payload + keys.tag_size)

-- values for which this holds were appended
abbrev pub IsAppended : {X : Type 0} → (List X → Type 0) → List X → List X → Type 0
IsAppended {X} IsSuch old new = (added : List X) × IsSuch added × (new ≡ old ++ added)

-- the payload that is written for frames
abbrev pub payload_of : List Frame → List ℕ
payload_of frames = shortest_frames (map meaning_of frames)

-- the bytes are a packet with this header, number and frames, sealed with these keys
pub record SealedFrames (keys : KeyPair) (h : Header) (n : ℕ) (frames : List Frame) (bytes : List ℕ) : Type 0 where
  pub payload : List ℕ
  pub is_payload : IsPayload frames payload
  pub sealed : Sealed keys (record { header = h; number = n; payload = payload }) bytes
