-- Packets that were sealed, and what was opened of them.
use Rattle.std.specs.Prelude.{◌≡◌, ℕ, ◌<◌, List, [], ◌++◌, length, Option, Some, None, Ok, Err}
use Rattle.std.proofs.Common.{sym, ap, subst, ◌∙◌, arith, append-nil}
use Rattle.bytes.specs.Filled.{Filled}
use Rattle.quic_header_decode.specs.Reading.{IsRest}
use Rattle.quic_header_encode.specs.Kinds.{space_in}
use Rattle.quic_packets.specs.declared.opening.OpenError.{OpenError}
use Rattle.quic_packets.specs.declared.opening.OpenError.TheVariants as error
use Rattle.quic_packets.specs.Opening.{BeginsSealed, OpenedPacket, Opening, PacketAnswer, ReturnsSealed, packet_of, returned_by}
use Rattle.quic_packets.specs.Sealing.{PacketContents, SealedFrames}
use Rattle.quic_frames.specs.Written.{IsPayload}
use Rattle.quic_packets.specs.declared.opening.Opened.{Opened}
use Rattle.quic_bench.specs.Outgoing.{Carries, IsFoundAgain}
use Rattle.quic_bench.specs.declared.two_packets.Outgoing.{Outgoing}

-- if some bytes follow a packet, they are returned
pub some_left : (back : List ℕ) (left : Option Filled) → IsRest left back → 0 < length back → left ≡ None → ⊥
some_left back left is some none =
    let empty : back ≡ [] = subst (λ (o : Option Filled). IsRest o back) none is in absurd (omega (arith, ap length empty))

-- what is given of the bytes that follow is these, and nothing follows them
pub left_is : (back : List ℕ) (left : Option Filled) (rest : Filled) → IsRest left back → left ≡ Some rest
    → rest.items ≡ back ++ []
left_is back left rest is some =
    let given = subst (λ (o : Option Filled). IsRest o back) some is in given.0 ∙ sym (append-nil back)

-- a packet that was sealed has some bytes, if what is cut from them has
pub some_bytes : (back cut : List ℕ) → back ++ [] ≡ cut ++ [] → 0 < length cut → 0 < length back
some_bytes back cut same some =
    subst (λ (xs : List ℕ). 0 < length xs) (sym (sym (append-nil back) ∙ same ∙ append-nil cut)) some

-- what a packet says, with this payload
abbrev pub contents_of : Outgoing → List ℕ → PacketContents
contents_of packet payload = record { header = packet.header.now; number = packet.number; payload = payload }

abbrev pub IsSealed : Opening → Outgoing → List ℕ → Type 0
IsSealed opening packet bytes =
    SealedFrames (opening.keys (space_in packet.header.now)) packet.header.now packet.number packet.frames.now bytes

pub begins : (opening : Opening) (packet : Outgoing) (bytes front rest : List ℕ) → (s : IsSealed opening packet front)
    → IsFoundAgain opening packet rest → bytes ≡ front ++ rest
    → BeginsSealed opening bytes (contents_of packet s.payload) rest
begins opening packet bytes front rest s found text =
    record { packet = front; sealed = s.sealed; read = found.head; number = found.number; text = text }

-- what is opened of a sealed packet, and why nothing is
pub given_back : {opening : Opening} {bytes : List ℕ} {opened : Opened} {left : Option Filled}
    → PacketAnswer opening bytes (Ok (opened, left))
    → (packet : Outgoing) (front rest : List ℕ) → (s : IsSealed opening packet front) → IsFoundAgain opening packet rest
    → bytes ≡ front ++ rest
    → ReturnsSealed opening (contents_of packet s.payload) rest opened left
given_back {opening} {bytes} {opened} {left} answer packet front rest s found text =
    answer.sealed (contents_of packet s.payload) rest (begins opening packet bytes front rest s found text)

pub not_given : {opening : Opening} {bytes : List ℕ} {e : OpenError} → PacketAnswer opening bytes (Err e)
    → (packet : Outgoing) (front rest : List ℕ) → IsSealed opening packet front → IsFoundAgain opening packet rest
    → bytes ≡ front ++ rest
    → e ≡ error.OutOfMemory
not_given {opening} {bytes} {e} answer packet front rest s found text =
    answer.sealed (contents_of packet s.payload) rest (begins opening packet bytes front rest s found text)

-- what was given back carries the packet
pub carries_same : (opening : Opening) (packet : Outgoing) (payload : List ℕ) (opened : Opened)
    → IsPayload packet.frames.now payload
    → packet_of opened ≡ returned_by opening (contents_of packet payload) → Carries opened packet
carries_same opening packet payload opened is same = record {
  header = ap (λ (p : OpenedPacket). p.header) same;
  number = ap (λ (p : OpenedPacket). p.number) same;
  payload = subst (IsPayload packet.frames.now) (sym (ap (λ (p : OpenedPacket). p.payload) same)) is;
}

pub carries : {opening : Opening} {packet : Outgoing} {payload rest : List ℕ} {opened : Opened} {left : Option Filled}
    → ReturnsSealed opening (contents_of packet payload) rest opened left → IsPayload packet.frames.now payload
    → Carries opened packet
carries {opening} {packet} {payload} {rest} {opened} {left} back is =
    carries_same opening packet payload opened is back.packet
