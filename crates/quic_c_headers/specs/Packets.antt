-- What the call that reads headers finds at the front of bytes, by its flags, and what it returns.
use Rattle.std.specs.Prelude.{◌≡◌, ℕ, ℤ, pos, ◌+◌, true, List, Result, Ok, Err, codes, ◌==◌, if◌then◌else◌}
use Rattle.quic_base.specs.Number.{has_bit}
use Rattle.quic_header_encode.specs.declared.long_type.HeaderKind.{HeaderKind}
use Rattle.quic_header_encode.specs.declared.long_type.HeaderKind.TheVariants as kind
use Rattle.quic_header_decode.specs.declared.protected.ProtectedHeader.{ProtectedHeader}
use Rattle.quic_header_decode.specs.Grammar.{Cut, Uncut}
use Rattle.quic_header_decode.specs.Places.{any_fixed, header_in, IsUnknownVersion}
use Rattle.quic_header_decode.specs.Refusal.{Refusal, Invalid, Unsupported}
use Rattle.quic_header_decode.specs.Rfc.{IsComplete, PartialRetry, RfcRefusal, Unread}
use Rattle.quic_c_headers.specs.Reading.{LacksFixedBit}
use Rattle.quic_c_headers.specs.declared.words.CHeader.{CHeader}
use Rattle.quic_results.specs.declared.results.Failure.{Failure}
use Rattle.quic_results.specs.declared.results.Failure.TheVariants as failure
use Rattle.quic_results.specs.Results.{failed}

-- ---- the first packet by the flags, which Reading explains

-- A packet of so many bytes begins the bytes, and its header without the number ends there.
pub record IsPacketBy (flags id_len : ℕ) (versions bytes : List ℕ) (h : ProtectedHeader) (header_end end : ℕ) : Type 0
  where
    pub cut : Cut (any_fixed id_len versions) bytes h header_end end
    pub fixed : ¬ (LacksFixedBit flags versions bytes)
    pub complete : has_bit 0x40 flags ≡ true → IsComplete h header_end end

-- The first thing that the flags don't allow: the fixed bit; then each field in its order, up to the ids if the version
-- isn't known; then the token and the tag of a Retry, or the length.
pub data IsRefusedBy (flags id_len : ℕ) (versions bytes : List ℕ) : RfcRefusal → Type 0 where
  fixed_bit : LacksFixedBit flags versions bytes
      → IsRefusedBy flags id_len versions bytes (Unread (Invalid (codes "fixed bit unset")))
  unknown_version : (version : ℕ) (dst src : List ℕ) → ¬ (LacksFixedBit flags versions bytes)
      → IsUnknownVersion (any_fixed id_len versions) bytes version dst src
      → IsRefusedBy flags id_len versions bytes (Unread (Unsupported src dst version))
  uncut : (e : Refusal) → ¬ (LacksFixedBit flags versions bytes)
      → ((version : ℕ) (dst src : List ℕ) → ¬ (IsUnknownVersion (any_fixed id_len versions) bytes version dst src))
      → Uncut (any_fixed id_len versions) bytes e
      → IsRefusedBy flags id_len versions bytes (Unread e)
  retry : (h : ProtectedHeader) (header_end end : ℕ) → has_bit 0x40 flags ≡ true
      → ¬ (LacksFixedBit flags versions bytes)
      → Cut (any_fixed id_len versions) bytes h header_end end
      → ¬ (IsComplete h header_end end)
      → IsRefusedBy flags id_len versions bytes PartialRetry

abbrev pub PacketAnswerBy : ℕ → ℕ → List ℕ → List ℕ → Result (ProtectedHeader × ℕ × ℕ) RfcRefusal → Type 0
PacketAnswerBy flags id_len versions bytes (Ok packet) =
    IsPacketBy flags id_len versions bytes packet.0 packet.1 packet.2
PacketAnswerBy flags id_len versions bytes (Err e) = IsRefusedBy flags id_len versions bytes e

-- ---- what is returned for it

-- the kind with this number
abbrev pub kind_of : ℕ → HeaderKind
kind_of word =
    if word == 0 then kind.Initial
    else if word == 1 then kind.ZeroRtt
    else if word == 2 then kind.Handshake
    else if word == 3 then kind.Retry
    else if word == 4 then kind.Short
    else kind.VersionNegotiate

-- the header that the fields describe in these bytes
abbrev pub header_shown : List ℕ → CHeader → ProtectedHeader
header_shown bytes head = header_in bytes (record {
  kind = kind_of head.kind;
  first = head.first;
  version = head.version;
  dst_len = head.dst_len;
  src_len = head.src_len;
  token = record { start = head.token; end = head.token + head.token_len };
  len = head.len;
  header_end = head.header_end;
})

-- which failure stands for which error
abbrev pub StandsFor : Failure → RfcRefusal → Type 0
StandsFor failure.PacketFixedBit e = e ≡ Unread (Invalid (codes "fixed bit unset"))
StandsFor failure.PacketEnd e = e ≡ Unread (Invalid (codes "unexpected end of packet"))
StandsFor failure.PacketSmall e = e ≡ Unread (Invalid (codes "packet too small"))
StandsFor failure.PacketId e = e ≡ Unread (Invalid (codes "malformed cid"))
StandsFor failure.PacketToken e = e ≡ Unread (Invalid (codes "token out of bounds"))
StandsFor failure.PacketVersion e =
    (version : ℕ) × (dst : List ℕ) × (src : List ℕ) × (e ≡ Unread (Unsupported src dst version))
StandsFor failure.PacketCut e = e ≡ Unread (Invalid (codes "packet too short to contain payload length"))
StandsFor failure.PacketRetry e = e ≡ PartialRetry
StandsFor _ e = ⊥

-- The packet's end is returned, with the fields of its header; or the number of a failure.
abbrev pub IsReturned : List ℕ → ℤ → CHeader → Result (ProtectedHeader × ℕ × ℕ) RfcRefusal → Type 0
IsReturned bytes result head (Ok packet) =
    (result ≡ pos packet.2) × (packet.0 ≡ header_shown bytes head) × (head.header_end ≡ packet.1)
    × (head.end ≡ packet.2)
IsReturned bytes result head (Err e) = (why : Failure) × (result ≡ failed why) × StandsFor why e
