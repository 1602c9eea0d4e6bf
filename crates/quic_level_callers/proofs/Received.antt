-- A sealed packet is received after one that isn't opened.
use Rattle.std.specs.Prelude.{◌≡◌, ℕ, List, [], ◌∷◌, ◌≤◌, Some, Option, Result, Err}
use Rattle.std.proofs.Common.{sym, ap, subst, refl, inl, append-nil}
use Rattle.std.proofs.lemmas.List.Elements.{All-nil, All-cons}
use Rattle.bytes.specs.Filled.{Filled}
use Rattle.quic_frames.specs.declared.frame.Frame.{Frame}
use Rattle.quic_frames.specs.Written.{IsPayload}
use Rattle.quic_header_encode.specs.declared.header.Header.{Header}
use Rattle.quic_header_encode.specs.Kinds.{space_in}
use Rattle.quic_levels.specs.declared.opening.LevelError.{LevelError}
use Rattle.quic_levels.specs.Opening.{BeginsSealed, LevelOpening, NextAnswer, ReturnsAgain}
use Rattle.quic_levels.specs.Protection.{pair_of}
use Rattle.quic_levels.specs.Receiving.{IsExpectedNext, OpenedIn, Receives, Reception, Run, expected_after, fresh, one_more}
use Rattle.quic_packets.specs.declared.keys.Expected.{Expected}
use Rattle.quic_packets.specs.declared.opening.Opened.{Opened}
use Rattle.quic_packets.specs.Opening.{OpenedPacket, packet_of, returned}
use Rattle.quic_packets.specs.Pairs.{KeyPair}
use Rattle.quic_packets.specs.Sealing.{PacketContents, Sealed, SealedFrames}
use Rattle.quic_level_callers.specs.Receive.{Carries, IsFoundFirst}

-- what a packet says, with this payload
abbrev pub contents_of : Header → ℕ → List ℕ → PacketContents
contents_of h n payload = record { header = h; number = n; payload = payload }

-- the law
abbrev pub OpensAfterRuns : Type 0
OpensAfterRuns = (receptions : List Reception) (expected : Expected) → Run fresh receptions expected
    → (last : Reception) (new : Expected) → Receives expected last new
    → (contents : PacketContents) (rest : List ℕ) (next : ℕ)
    → IsExpectedNext (space_in contents.header) receptions next
    → (begins : BeginsSealed last.opening next last.bytes contents rest)
    → ReturnsAgain (pair_of begins.header_key begins.packet_key) contents rest last.answer last.left

pub received : OpensAfterRuns → (opening : LevelOpening) (mid new : Expected) (first : Filled) (e : LevelError)
    (left : Option Filled) (bytes : Filled) (answer : Result Opened LevelError) (after : Option Filled) (keys : KeyPair)
    (h : Header) (n : ℕ) (frames : List Frame)
    → NextAnswer opening fresh (Some first) (Some (Err e)) left → mid ≡ fresh
    → NextAnswer opening mid (Some bytes) (Some answer) after → new ≡ expected_after mid answer
    → IsFoundFirst opening keys h n
    → (s : SealedFrames keys h n frames bytes.items)
    → ReturnsAgain keys (contents_of h n s.payload) [] answer after
received law opening mid new first e left bytes answer after keys h n frames foreign same outcome moved found s =
    let contents : PacketContents = contents_of h n s.payload in
    let one : Reception = record { opening = opening; bytes = first.items; answer = Err e; left = left } in
    let last : Reception = record { opening = opening; bytes = bytes.items; answer = answer; left = after } in
    let run : Run fresh (one ∷ []) mid = (fresh, record { outcome = foreign; moved = refl }, same) in
    let next : IsExpectedNext (space_in contents.header) (one ∷ []) 0 = record {
      above_all = All-cons (λ (r : Reception). (k : ℕ) → OpenedIn (space_in contents.header) k r → one_more k ≤ 0) one [] (λ k opened. absurd opened) (All-nil (λ (r : Reception). (k : ℕ) → OpenedIn (space_in contents.header) k r → one_more k ≤ 0));
      is_next = inl refl;
    } in
    let begins : BeginsSealed opening 0 bytes.items contents [] = record {
      level = found.level;
      has_level = found.has_level;
      header_key = found.header_key;
      has_header_key = found.has_header_key;
      packet_key = found.packet_key;
      has_packet_key = found.has_packet_key;
      packet = bytes.items;
      sealed = subst (λ (k : KeyPair). Sealed k contents bytes.items) found.same s.sealed;
      read = found.read;
      number = found.number;
      text = sym (append-nil bytes.items);
    } in
    subst (λ (k : KeyPair). ReturnsAgain k contents [] answer after) (sym found.same)
    (law (one ∷ []) mid run last new (record { outcome = outcome; moved = moved }) contents [] 0 next begins)

-- what was returned carries the packet
pub carries : (keys : KeyPair) (h : Header) (n : ℕ) (frames : List Frame) (payload : List ℕ) (opened : Opened)
    → IsPayload frames payload → packet_of opened ≡ returned keys (contents_of h n payload) → Carries opened h n frames
carries keys h n frames payload opened is same = record {
  header = ap (λ (p : OpenedPacket). p.header) same;
  number = ap (λ (p : OpenedPacket). p.number) same;
  payload = subst (IsPayload frames) (sym (ap (λ (p : OpenedPacket). p.payload) same)) is;
}
