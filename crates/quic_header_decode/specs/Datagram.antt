-- The first packet of a datagram, and all of them, one after another (RFC 9000, section 12.2).
use Rattle.std.specs.Prelude.{◌≡◌, ℕ, ◌<◌, ◌⊎◌, Bool, IsTrue, List, ◌++◌, length, zero, suc, ◌+◌, [], ◌∷◌, drop, Option, Some, None, Result, Ok, Err, nat_lt, if◌then◌else◌}
use Rattle.quic_header_decode.specs.declared.decode_error.PacketDecodeError.{PacketDecodeError}
use Rattle.quic_header_decode.specs.declared.decode_error.PacketDecodeError.TheVariants as error
use Rattle.quic_header_decode.specs.declared.protected.ProtectedHeader.{ProtectedHeader}
use Rattle.quic_header_decode.specs.Grammar.{Cut, Uncut}
use Rattle.quic_header_decode.specs.Reading.{DecodeOptions, cut_at}
use Rattle.quic_header_decode.specs.Refusal.{refusal_of, Refusal}

-- a packet's header, where that ends, and the packet's bytes
pub record CutPacket : Type 0 where
  pub head : ProtectedHeader
  pub header_end : ℕ
  pub bytes : List ℕ

-- the bytes begin with this packet, and rest follows it
pub record CutsFirst (options : DecodeOptions) (bytes : List ℕ) (packet : CutPacket) (rest : List ℕ) : Type 0 where
  pub cut : Cut options bytes packet.head packet.header_end (length packet.bytes)
  pub text : bytes ≡ packet.bytes ++ rest

-- No packet is cut, for this error: the first field that can't be read, or a length beyond the end; or out of memory,
-- which happens only in a parser that allocates, or if bytes follow the packet.
abbrev pub IsUncut : DecodeOptions → Bool → List ℕ → PacketDecodeError → Type 0
IsUncut options takes_memory bytes error.OutOfMemory = IsTrue takes_memory
    ⊎ ((packet : CutPacket) × (rest : List ℕ) × CutsFirst options bytes packet rest × (0 < length rest))
IsUncut options takes_memory bytes e = Uncut options bytes (refusal_of e)

-- ---- all packets

-- a packet in its datagram: where it begins and ends, and its header
pub record PlacedPacket : Type 0 where
  pub start : ℕ
  pub stop : ℕ
  pub header : ProtectedHeader

-- The bytes that begin at start are these packets, one after another up to their end; or these, and then bytes from
-- which no packet can be cut, with their error.
pub data ArePackets (options : DecodeOptions) : ℕ → List ℕ → List PlacedPacket → Option Refusal → Type 0 where
  last : (start : ℕ) (bytes : List ℕ) (h : ProtectedHeader) (p : ℕ) → Cut options bytes h p (length bytes)
      → ArePackets options start bytes (record { start = start; stop = start + length bytes; header = h } ∷ []) None
  more : (start : ℕ) (bytes : List ℕ) (h : ProtectedHeader) (p q : ℕ) (others : List PlacedPacket)
      (refusal : Option Refusal)
      → Cut options bytes h p q → q < length bytes
      → ArePackets options (start + q) (drop q bytes) others refusal
      → ArePackets options start bytes (record { start = start; stop = start + q; header = h } ∷ others) refusal
  refused : (start : ℕ) (bytes : List ℕ) (e : Refusal) → Uncut options bytes e
      → ArePackets options start bytes [] (Some e)

-- The same, step by step: the packet that was cut first, and then those of the rest.
abbrev pub and_then : (ℕ → List ℕ → List PlacedPacket × Option Refusal) → ℕ → List ℕ
    → Result (ProtectedHeader × ℕ × ℕ) Refusal → List PlacedPacket × Option Refusal
and_then others start bytes (Err e) = ([], Some e)
and_then others start bytes (Ok cut) =
    let first : PlacedPacket = record { start = start; stop = start + cut.2; header = cut.0 } in
    let more = others (start + cut.2) (drop cut.2 bytes) in
    if nat_lt cut.2 (length bytes) then (first ∷ more.0, more.1) else (first ∷ [], None)

-- at most that many packets
unfoldable pub packets_from : DecodeOptions → ℕ → ℕ → List ℕ → List PlacedPacket × Option Refusal
packets_from options zero start bytes = ([], None)
packets_from options (suc n) start bytes = and_then (packets_from options n) start bytes (cut_at options bytes)

-- the packets of a datagram, and the error for what is left, if there is one
unfoldable pub packets_in : DecodeOptions → List ℕ → List PlacedPacket × Option Refusal
packets_in options bytes = packets_from options (suc (length bytes)) 0 bytes
