-- Runs of PADDING.
use Rattle.std.proofs.Common.{◌≡◌, ℕ, zero, suc, ◌+◌, ◌-◌, ◌<◌, ◌≤◌, Bool, false, List, ◌∷◌, length, drop, get_or, Option, Some, refl, sym, ap, subst, ◌∙◌, add-zero, arith}
use Rattle.std.specs.Prelude.{slice_index}
use Rattle.std.proofs.lemmas.List.{length-drop, get_or-drop}
use Rattle.std.proofs.Math.Seq.{drop-cons}
use Rattle.quic_base.specs.Number.{AreBytes}
use Rattle.quic_frames.specs.declared.frame.Frame.TheVariants as frames
use Rattle.quic_frames.specs.IterState.{IterState}
use Rattle.quic_frames.specs.Walk.{Finds}
use Rattle.quic_frames.specs.Padding.{PassesPadding, behind}
use Rattle.quic_frames.proofs.Finding.{found_padding}
use Rattle.quic_frames.proofs.Places.{at_place, walk, finds, is_not_broken}

bytes_behind : (payload : List ℕ) (offset k : ℕ) → AreBytes (drop offset payload) → AreBytes (drop (offset + k) payload)
bytes_behind payload offset k fits i =
    let e : slice_index (drop (offset + k) payload) i ≡ slice_index (drop offset payload) (k + i) =
    get_or-drop (offset + k) payload i 0 ∙ ap (λ (n : ℕ). get_or payload n 0) (omega arith)
    ∙ sym (get_or-drop offset payload (k + i) 0) in
    rw e (fits (k + i))

-- a byte of 0 is a frame
pub pads : (strict : Bool) (payload : List ℕ) (offset : ℕ) (last : Option ℕ) → AreBytes (drop offset payload)
    → offset < length payload → get_or payload offset 0 ≡ 0
    → Finds (at_place strict payload offset last) frames.Padding (at_place strict payload (suc offset) (Some 0))
pads strict payload offset last fits some byte =
    let front : drop offset payload ≡ 0 ∷ drop (suc offset) payload =
    drop-cons payload offset 0 some ∙ ap (λ (n : ℕ). n ∷ drop (suc offset) payload) byte in
    let stop : length payload - length (drop (suc offset) payload) ≡ suc offset =
    omega (arith, length-drop (suc offset) payload) in
    subst (λ (n : ℕ). Finds (at_place strict payload offset last) frames.Padding (at_place strict payload n (Some 0))) stop
    (finds strict payload offset last 0 frames.Padding (drop (suc offset) payload) (tt, tt) fits (omega arith) some
    (found_padding strict last (drop offset payload) (drop (suc offset) payload) front))

-- the state after some of them, by its parts
pads_on : (strict : Bool) (payload : List ℕ) (offset k : ℕ) (last : Option ℕ) → AreBytes (drop offset payload)
    → offset + k < length payload → get_or payload (offset + k) 0 ≡ 0
    → Finds (behind k (at_place strict payload offset last)) frames.Padding (behind (suc k) (at_place strict payload offset last))
pads_on strict payload offset zero last fits some byte =
    let e : suc offset ≡ offset + 1 = omega arith in
    let z : offset + 0 ≡ offset = omega arith in
    subst (λ (n : ℕ). Finds (at_place strict payload offset last) frames.Padding (at_place strict payload n (Some 0))) e
    (pads strict payload offset last fits (omega arith) (rw z at byte))
pads_on strict payload offset (suc k) last fits some byte =
    let e : suc (offset + suc k) ≡ offset + suc (suc k) = omega arith in
    subst (λ (n : ℕ). Finds (at_place strict payload (offset + suc k) (Some 0)) frames.Padding (at_place strict payload n (Some 0))) e
    (pads strict payload (offset + suc k) (Some 0) (bytes_behind payload offset (suc k) fits) some byte)

-- all of them, by what was seen of the bytes
passes : (strict : Bool) (payload : List ℕ) (offset n : ℕ) (last : Option ℕ) (bytes : List ℕ)
    → bytes ≡ drop offset payload → AreBytes bytes → offset ≤ length payload → n ≤ length bytes
    → ((k : ℕ) → k < n → get_or bytes k 0 ≡ 0) → (n < length bytes → 0 < get_or bytes n 0)
    → PassesPadding (at_place strict payload offset last) n (behind n (at_place strict payload offset last))
passes strict payload offset zero last bytes cut fits le few each over = record {
  each = λ k lt. absurd (omega (arith, lt));
  comes = refl;
  over = λ _ some.
      let room : 0 < length bytes = omega (arith, ap length cut, length-drop offset payload) in
      let e : get_or bytes 0 0 ≡ get_or payload offset 0 =
      ap (λ (l : List ℕ). get_or l 0 0) cut ∙ get_or-drop offset payload 0 0
      ∙ ap (λ (n : ℕ). get_or payload n 0) (add-zero offset) in
      rw (← e) (over room);
}
passes strict payload offset (suc n) last bytes cut fits le few each over = record {
  each = λ k lt.
      let room : offset + k < length payload = omega (arith, lt, ap length cut, length-drop offset payload) in
      let e : get_or payload (offset + k) 0 ≡ 0 =
      sym (get_or-drop offset payload k 0) ∙ ap (λ (l : List ℕ). get_or l k 0) (sym cut) ∙ each k lt in
      pads_on strict payload offset k last (subst AreBytes cut fits) room e;
  comes = refl;
  over = λ _ some.
      let room : suc n < length bytes = omega (arith, ap length cut, length-drop offset payload) in
      let e : get_or bytes (suc n) 0 ≡ get_or payload (offset + suc n) 0 =
      ap (λ (l : List ℕ). get_or l (suc n) 0) cut ∙ get_or-drop offset payload (suc n) 0 in
      rw (← e) (over room);
}

behind_some : (n : ℕ) (strict : Bool) (payload : List ℕ) (offset : ℕ) (last : Option ℕ) → 0 < n
    → behind n (at_place strict payload offset last) ≡ at_place strict payload (offset + n) (Some 0)
behind_some zero strict payload offset last some = absurd (omega (arith, some))
behind_some (suc n) strict payload offset last some = refl

-- the same of a walk whose parts are given separately
pub passes_here : (strict : Bool) (payload : List ℕ) (offset n : ℕ) (last : Option ℕ) (b : Bool) (old : IterState) (bytes : List ℕ)
    → walk strict payload offset last b ≡ old → b ≡ false → bytes ≡ drop offset payload → AreBytes bytes
    → offset ≤ length payload → n ≤ length bytes → ((k : ℕ) → k < n → get_or bytes k 0 ≡ 0)
    → (n < length bytes → 0 < get_or bytes n 0) → 0 < n
    → PassesPadding old n (walk strict payload (offset + n) (Some 0) b)
passes_here strict payload offset n last b old bytes v f cut fits le few each over some =
    let all : PassesPadding (at_place strict payload offset last) n (at_place strict payload (offset + n) (Some 0)) =
    subst (λ (w : IterState). PassesPadding (at_place strict payload offset last) n w)
    (behind_some n strict payload offset last some) (passes strict payload offset n last bytes cut fits le few each
    over) in
    subst (λ (o : IterState). PassesPadding o n (walk strict payload (offset + n) (Some 0) b))
    (is_not_broken strict payload offset last b old v f)
    (subst (λ (c : Bool). PassesPadding (at_place strict payload offset last) n (walk strict payload (offset + n) (Some 0) c)) (sym f) all)
