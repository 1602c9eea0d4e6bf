-- The packets that RFC 9000 allows.
use Rattle.std.proofs.Common.{◌≡◌, ℕ, List, true, false, Result, ap, inl, inr}
use Rattle.std.specs.Prelude.{◌⊎◌, Ok}
use Rattle.quic_header_decode.proofs.RfcPackets.{checked, relaxed}
use Rattle.quic_header_decode.specs.Grammar.{Cut}
use Rattle.quic_header_decode.specs.Reading.{DecodeOptions}
use Rattle.quic_header_decode.specs.declared.protected.ProtectedHeader.{ProtectedHeader}
use Rattle.quic_header_decode.specs.declared.protected.ProtectedHeader.TheVariants as protected
use Rattle.quic_header_decode.specs.Rfc.{IsComplete, IsNegotiation, IsRfcPacket, RfcPacketAnswer, RfcRefusal, with_grease}

-- ---- allowed packets

pub packet_allowed : (options : DecodeOptions) (datagram : List ℕ) (h : ProtectedHeader) (p q : ℕ)
    → Cut (with_grease false options) datagram h p q → IsComplete h p q → IsRfcPacket options datagram h p q
packet_allowed options datagram h p q cut complete =
    let r = relaxed options datagram h p q cut in record { cut = r.0; fixed = inr r.1; complete = complete }

pub packet_read : (options : DecodeOptions) (datagram : List ℕ) (h : ProtectedHeader) (p q : ℕ)
    → IsRfcPacket options datagram h p q → IsNegotiation h ⊎ Cut (with_grease false options) datagram h p q
packet_read options datagram h p q is = elim is.fixed [
  | inl negotiation ↦ inl negotiation
  | inr fixed ↦ inr (checked options datagram h p q is.cut fixed)
]

negotiation_complete : (h : ProtectedHeader) (p q : ℕ) → IsNegotiation h → IsComplete h p q
negotiation_complete (protected.VersionNegotiate random dst src) p q is = tt
negotiation_complete h p q is = absurd is

pub negotiation_allowed : (options : DecodeOptions) (datagram : List ℕ) (h : ProtectedHeader) (p q : ℕ)
    → IsNegotiation h → Cut (with_grease true options) datagram h p q → IsRfcPacket options datagram h p q
negotiation_allowed options datagram h p q is cut =
    record { cut = cut; fixed = inl is; complete = negotiation_complete h p q is }

abbrev Found : Type 0
Found = ProtectedHeader × ℕ × ℕ

one_found : (a b : Found) → (let x : Result Found RfcRefusal = Ok a in let y : Result Found RfcRefusal = Ok b in x ≡ y)
    → (a.0 ≡ b.0) × (a.1 ≡ b.1) × (a.2 ≡ b.2)
one_found a b e =
    let same : a ≡ b = cc in
    (ap (λ (x : Found). x.0) same, ap (λ (x : Found). x.1) same, ap (λ (x : Found). x.2) same)

pub one_packet : (options : DecodeOptions) (datagram : List ℕ) (h other : ProtectedHeader) (p q p' q' : ℕ)
    → ((one another : Result Found RfcRefusal) → RfcPacketAnswer options datagram one
    → RfcPacketAnswer options datagram another → one ≡ another)
    → IsRfcPacket options datagram h p q → IsRfcPacket options datagram other p' q'
    → (h ≡ other) × (p ≡ p') × (q ≡ q')
one_packet options datagram h other p q p' q' one is is' =
    one_found (h, p, q) (other, p', q') (one (Ok (h, p, q)) (Ok (other, p', q')) is is')
