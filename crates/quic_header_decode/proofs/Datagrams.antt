-- A datagram is packets in one way, and reading finds it.
use Rattle.std.specs.Prelude.{◌≡◌, ℕ, zero, suc, ◌+◌, ◌<◌, List, [], ◌∷◌, length, drop, take, Option, None, Result, Ok, Err, nat_lt}
use Rattle.std.proofs.Common.{sym, ap, ◌∙◌, arith, refl, subst, inl, inr, length-drop}
use Rattle.std.proofs.lemmas.List.{take-append-drop}
use Rattle.std.proofs.lemmas.Bool.Decides.{nat_tests}
use Rattle.std.proofs.lemmas.Bool.{cases_lt}
use Rattle.quic_base.specs.Number.{AreBytes}
use Rattle.quic_base.proofs.PublicLaws.{back_bytes}
use Rattle.quic_header_decode.specs.declared.protected.ProtectedHeader.{ProtectedHeader}
use Rattle.quic_header_decode.specs.Refusal.{Refusal}
use Rattle.quic_header_decode.specs.Grammar.{Cut, CutAnswer}
use Rattle.quic_header_decode.specs.Reading.{DecodeOptions, cut_at}
use Rattle.quic_header_decode.specs.Datagram.{PlacedPacket, ArePackets, last, more, refused, and_then, packets_from, packets_in}
use Rattle.quic_header_decode.proofs.Steps.{otherwise, taken}
use Rattle.quic_header_decode.proofs.CutAnswers.{Takes, cut_answer, cut_positive, cut_again, uncut_again}

abbrev Answer : Type 0
Answer = List PlacedPacket × Option Refusal

placed : ℕ → ℕ → ProtectedHeader → PlacedPacket
placed start stop h = record { start = start; stop = stop; header = h }

pub rest_bytes : (q : ℕ) (bytes : List ℕ) → AreBytes bytes → AreBytes (drop q bytes)
rest_bytes q bytes fits =
    back_bytes (take q bytes) (drop q bytes) (subst AreBytes (sym (take-append-drop q bytes)) fits)

-- the packet that ends the bytes
at_last : (others : ℕ → List ℕ → Answer) (start : ℕ) (bytes : List ℕ) (h : ProtectedHeader) (p : ℕ)
    → and_then others start bytes (Ok (h, p, length bytes)) ≡ (record { start = start; stop = start + length bytes; header = h } ∷ [], None)
at_last others start bytes h p = otherwise (nat_lt (length bytes) (length bytes)) _ _ _ (grind (arith, nat_tests)) refl

at_more : (others : ℕ → List ℕ → Answer) (start : ℕ) (bytes : List ℕ) (h : ProtectedHeader) (p q : ℕ) → q < length bytes
    → and_then others start bytes (Ok (h, p, q)) ≡ (
      record { start = start; stop = start + q; header = h }
          ∷ (others (start + q) (drop q bytes)).0,
      (others (start + q) (drop q bytes)).1,
    )
at_more others start bytes h p q lt = taken (nat_lt q (length bytes)) _ _ _ (grind (arith, nat_tests)) refl

-- what the grammar calls the packets of a datagram is what reading finds
again : (options : DecodeOptions) (n start : ℕ) (bytes : List ℕ) (ps : List PlacedPacket) (end : Option Refusal)
    → AreBytes bytes → length bytes < n → ArePackets options start bytes ps end
    → packets_from options n start bytes ≡ (ps, end)
unfolding packets_from
again options zero start bytes ps end fits le are = absurd (omega (arith, le))
again options (suc n) start bytes _ _ fits le (last _ _ h p cut) =
    ap (and_then (packets_from options n) start bytes) (cut_again options bytes h p (length bytes) cut)
    ∙ at_last (packets_from options n) start bytes h p
again options (suc n) start bytes _ end fits le (more _ _ h p q others _ cut lt are) =
    let inner : packets_from options n (start + q) (drop q bytes) ≡ (others, end) =
    again options n (start + q) (drop q bytes) others end (rest_bytes q bytes fits)
    (omega (arith, le, lt, length-drop q bytes, cut_positive options bytes h p q cut)) are in
    ap (and_then (packets_from options n) start bytes) (cut_again options bytes h p q cut)
    ∙ at_more (packets_from options n) start bytes h p q lt
    ∙ ap (λ (r : Answer). let a : Answer = (record { start = start; stop = start + q; header = h } ∷ r.0, r.1) in a) inner
again options (suc n) start bytes _ _ fits le (refused _ _ e uncut) =
    ap (and_then (packets_from options n) start bytes) (uncut_again options bytes e fits uncut)

pub packets_again : (options : DecodeOptions) (bytes : List ℕ) (ps : List PlacedPacket) (end : Option Refusal)
    → AreBytes bytes → ArePackets options 0 bytes ps end → packets_in options bytes ≡ (ps, end)
unfolding packets_in
packets_again options bytes ps end fits are = again options (suc (length bytes)) 0 bytes ps end fits (omega arith) are

-- and what reading finds is what the grammar calls so
abbrev Found : DecodeOptions → ℕ → List ℕ → Answer → Type 0
Found options start bytes answer = ArePackets options start bytes answer.0 answer.1

found_after : (options : DecodeOptions) (others : ℕ → List ℕ → Answer) (start : ℕ) (bytes : List ℕ)
    (r : Result (ProtectedHeader × ℕ × ℕ) Refusal)
    → CutAnswer options bytes r
    → ((q : ℕ) → 0 < q → q < length bytes → Found options (start + q) (drop q bytes) (others (start + q) (drop q bytes)))
    → Found options start bytes (and_then others start bytes r)
found_after options others start bytes (Err e) right rest = refused start bytes e right
found_after options others start bytes (Ok cut) right rest =
    elim (cases_lt cut.2 (length bytes)) [
      | inl lt ↦
          subst (Found options start bytes) (sym (at_more others start bytes cut.0 cut.1 cut.2 lt))
          (more start bytes cut.0 cut.1 cut.2 _ _ right lt (rest cut.2 (cut_positive options bytes cut.0 cut.1 cut.2 right) lt))
      | inr ge ↦
          let all : cut.2 ≡ length bytes = omega (arith, ge, right.4) in
          subst (Found options start bytes) (sym (ap (λ (q : ℕ). and_then others start bytes
          (let r : Result (ProtectedHeader × ℕ × ℕ) Refusal = Ok (cut.0, cut.1, q) in r)) all
          ∙ at_last others start bytes cut.0 cut.1))
          (last start bytes cut.0 cut.1 (subst (λ (q : ℕ). Cut options bytes cut.0 cut.1 q) all right))
    ]

found : (options : DecodeOptions) (n start : ℕ) (bytes : List ℕ) → AreBytes bytes → Takes options → length bytes < n
    → Found options start bytes (packets_from options n start bytes)
unfolding packets_from
found options zero start bytes fits takes le = absurd (omega (arith, le))
found options (suc n) start bytes fits takes le =
    found_after options (packets_from options n) start bytes (cut_at options bytes) (cut_answer options bytes fits takes)
    (λ q some lt. found options n (start + q) (drop q bytes) (rest_bytes q bytes fits) takes
    (omega (arith, le, some, lt, length-drop q bytes)))

pub packets_found : (options : DecodeOptions) (bytes : List ℕ) → AreBytes bytes → Takes options
    → ArePackets options 0 bytes (packets_in options bytes).0 (packets_in options bytes).1
unfolding packets_in
packets_found options bytes fits takes = found options (suc (length bytes)) 0 bytes fits takes (omega arith)

-- wherever its first packet is said to start
pub some_packets : (options : DecodeOptions) (start : ℕ) (bytes : List ℕ) → AreBytes bytes → Takes options
    → (ps : List PlacedPacket) × (end : Option Refusal) × ArePackets options start bytes ps end
some_packets options start bytes fits takes =
    let answer : Answer = packets_from options (suc (length bytes)) start bytes in
    (answer.0, answer.1, found options (suc (length bytes)) start bytes fits takes (omega arith))
