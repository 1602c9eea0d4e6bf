-- Which packet RFC 9000 allows at the front of a datagram (section 17), by the bytes before protection is removed, and
-- why there is none. Known versions may be those of RFC 9000 and RFC 9369, whose types have other numbers. That the
-- fixed bit may be clear (RFC 9287) is an extension, and no part of this. Nor is what follows a packet's header: a
-- packet too short for a number and the bytes that protection samples is rejected when protection is removed (RFC 9001,
-- section 5.4.2).
use Rattle.std.specs.Prelude.{◌≡◌, ℕ, ◌+◌, ◌≤◌, ◌⊎◌, ⊤, true, false, Bool, List, ◌∷◌, length, slice_index, take, Result, Ok, Err, codes}
use Rattle.quic_base.specs.Number.{has_bit, num}
use Rattle.quic_header_decode.specs.declared.protected.ProtectedHeader.{ProtectedHeader}
use Rattle.quic_header_decode.specs.declared.protected.ProtectedHeader.TheVariants as protected
use Rattle.quic_header_decode.specs.Grammar.{is_long, Cut, IsKnownVersion, Uncut}
use Rattle.quic_header_decode.specs.Places.{IsUnknownVersion}
use Rattle.quic_header_decode.specs.Reading.{DecodeOptions}
use Rattle.quic_header_decode.specs.Refusal.{Refusal, Invalid, Unsupported}

-- the same options, with the fixed bit ignored or checked
abbrev pub with_grease : Bool → DecodeOptions → DecodeOptions
with_grease grease options = record options { grease = grease }

-- ---- the packet

-- The ids of a version negotiation may have 255 bytes (section 17.2.1). Here they have at most 20, since they are those
-- of the packet that it answers, whose version is known. Its list of versions isn't part of the header: whether there is
-- one, without a part of a version, the client checks (RFC 8999, section 6).
abbrev pub IsNegotiation : ProtectedHeader → Type 0
IsNegotiation (protected.VersionNegotiate random dst src) = ⊤
IsNegotiation h = ⊥

-- a Retry has a token of at least one byte, and then a tag of sixteen (section 17.2.5)
abbrev pub IsComplete : ProtectedHeader → ℕ → ℕ → Type 0
IsComplete (protected.Retry dst src version) header_end end = header_end + 17 ≤ end
IsComplete h header_end end = ⊤

-- A packet of so many bytes begins the datagram, and its header without the number ends there. The fixed bit is set
-- (sections 17.2 and 17.3), or it is a version negotiation, of which a client ignores that bit (section 17.2.1).
pub record IsRfcPacket (options : DecodeOptions) (datagram : List ℕ) (h : ProtectedHeader) (header_end end : ℕ) : Type 0
  where
    pub cut : Cut (with_grease true options) datagram h header_end end
    pub fixed : IsNegotiation h ⊎ (has_bit 0x40 (slice_index datagram 0) ≡ true)
    pub complete : IsComplete h header_end end

-- ---- why there is none

-- as other headers, or a Retry that isn't complete
pub data RfcRefusal : Type 0 where
  Unread : Refusal → RfcRefusal
  PartialRetry : RfcRefusal

-- The fixed bit is clear, in a short header (section 17.3) or in a long one whose version is known (section 17.2). In
-- other versions it has no meaning (RFC 8999, section 5.1).
pub record LacksFixedBit (options : DecodeOptions) (datagram : List ℕ) : Type 0 where
  pub first : ℕ
  pub text : List ℕ
  pub begins : datagram ≡ first ∷ text
  pub clear : has_bit 0x40 first ≡ false
  pub counts : (is_long first ≡ false) ⊎ (4 ≤ length text) × IsKnownVersion options (num (take 4 text))

-- The first thing that isn't allowed. The text doesn't say what is checked first: here it is the fixed bit, as soon as
-- the version is known; then each field in its order; then the token and the tag of a Retry, or the length.
pub data IsRfcRefused (options : DecodeOptions) (datagram : List ℕ) : RfcRefusal → Type 0 where
  fixed_bit : LacksFixedBit options datagram
      → IsRfcRefused options datagram (Unread (Invalid (codes "fixed bit unset")))
  -- Of a version that isn't known, only the ids are read, of up to 255 bytes (RFC 8999, section 5.1).
  unknown_version : (version : ℕ) (dst src : List ℕ) → IsUnknownVersion options datagram version dst src
      → IsRfcRefused options datagram (Unread (Unsupported src dst version))
  -- the first field that can't be read, or a length beyond the end (section 17.2)
  uncut : (e : Refusal) → ¬ (LacksFixedBit options datagram)
      → ((version : ℕ) (dst src : List ℕ) → ¬ (IsUnknownVersion options datagram version dst src))
      → Uncut (with_grease true options) datagram e
      → IsRfcRefused options datagram (Unread e)
  retry : (h : ProtectedHeader) (header_end end : ℕ) → ¬ (LacksFixedBit options datagram)
      → Cut (with_grease true options) datagram h header_end end
      → ¬ (IsComplete h header_end end)
      → IsRfcRefused options datagram PartialRetry

-- The datagram begins with this packet, or with none, for this reason.
abbrev pub RfcPacketAnswer : DecodeOptions → List ℕ → Result (ProtectedHeader × ℕ × ℕ) RfcRefusal → Type 0
RfcPacketAnswer options datagram (Ok packet) = IsRfcPacket options datagram packet.0 packet.1 packet.2
RfcPacketAnswer options datagram (Err e) = IsRfcRefused options datagram e
