-- Lists that are cut.
use Rattle.std.proofs.Common.{◌≡◌, ℕ, zero, suc, ◌+◌, ◌-◌, ◌≤◌, Bool, true, false, List, [], ◌∷◌, ◌++◌, length, take, drop, refl, sym, ap, ◌∙◌, append_assoc, inl, inr, arith}
use Rattle.std.specs.Prelude.{◌⊎◌, slice_range}
use Rattle.std.proofs.lemmas.List.{length-append, length-take, length-drop, take-append-drop}
use Rattle.quic_base.proofs.PublicLaws.{same_front}

drop_nil : (a : ℕ) → drop a (let l : List ℕ = [] in l) ≡ []
drop_nil zero = refl
drop_nil (suc a) = refl

drop-drop : (a b : ℕ) (l : List ℕ) → drop a (drop b l) ≡ drop (b + a) l
drop-drop a zero l = let e : a ≡ 0 + a = omega arith in ap (λ (n : ℕ). drop n l) e
drop-drop a (suc b) [] = drop_nil a ∙ sym (drop_nil (suc b + a))
drop-drop a (suc b) (x ∷ l) =
    let e : suc (b + a) ≡ suc b + a = omega arith in drop-drop a b l ∙ ap (λ (n : ℕ). drop n (x ∷ l)) e

pub cut_there : (payload : List ℕ) (start stop : ℕ) → start ≤ stop
    → drop start payload ≡ slice_range payload start stop ++ drop stop payload
cut_there payload start stop le =
    let n : start + (stop - start) ≡ stop = omega (arith, le) in
    sym (take-append-drop (stop - start) (drop start payload))
    ∙ ap (λ (l : List ℕ). slice_range payload start stop ++ l) (drop-drop (stop - start) start payload ∙ ap (λ (k : ℕ). drop k payload) n)

pub length-slice_range : (payload : List ℕ) (start stop : ℕ) → start ≤ stop → stop ≤ length payload
    → length (slice_range payload start stop) ≡ stop - start
length-slice_range payload start stop le within =
    omega (arith, length-take (stop - start) (drop start payload), length-drop start payload, le, within)

-- the first bytes, and those up to a later offset
pub take_on : (payload : List ℕ) (start stop : ℕ) → start ≤ stop → stop ≤ length payload
    → take start payload ++ slice_range payload start stop ≡ take stop payload
take_on payload start stop le within =
    let here = slice_range payload start stop in
    let whole : (take start payload ++ here) ++ drop stop payload ≡ take stop payload ++ drop stop payload =
    append_assoc (take start payload) here (drop stop payload)
    ∙ ap (λ (l : List ℕ). take start payload ++ l) (sym (cut_there payload start stop le))
    ∙ take-append-drop start payload ∙ sym (take-append-drop stop payload) in
    let sizes : length (take start payload ++ here) ≡ length (take stop payload) =
    omega (
      arith,
      length-append (take start payload) here,
      length-take start payload,
      length-take stop payload,
      length-slice_range payload start stop le within,
      le,
      within,
    ) in
    same_front (take start payload ++ here) (take stop payload) (drop stop payload) (drop stop payload) sizes whole

pub slice_on : (payload : List ℕ) (from start stop : ℕ) → from ≤ start → start ≤ stop → stop ≤ length payload
    → slice_range payload from start ++ slice_range payload start stop ≡ slice_range payload from stop
slice_on payload from start stop low le within =
    let a = slice_range payload from start in
    let b = slice_range payload start stop in
    let c = slice_range payload from stop in
    let whole : (a ++ b) ++ drop stop payload ≡ c ++ drop stop payload =
    append_assoc a b (drop stop payload) ∙ ap (λ (l : List ℕ). a ++ l) (sym (cut_there payload start stop le))
    ∙ sym (cut_there payload from start low) ∙ cut_there payload from stop (omega (arith, low, le)) in
    let sizes : length (a ++ b) ≡ length c =
    omega (
      arith,
      length-append a b,
      length-slice_range payload from start low (omega (arith, le, within)),
      length-slice_range payload start stop le within,
      length-slice_range payload from stop (omega (arith, low, le))
          within,
      low,
      le,
    ) in
    same_front (a ++ b) c (drop stop payload) (drop stop payload) sizes whole

pub slice_none : (payload : List ℕ) (start : ℕ) → slice_range payload start start ≡ []
slice_none payload start =
    nothing (slice_range payload start start) (omega (arith, length-take (start - start) (drop start payload)))
  where
    nothing : (l : List ℕ) → length l ≤ 0 → l ≡ []
    nothing [] le = refl
    nothing (x ∷ l) le = absurd (omega (arith, le))

pub split_front : (a b c d : List ℕ) → a ++ b ≡ c ++ d → length a ≤ length c → (rest : List ℕ) × (c ≡ a ++ rest)
split_front [] b c d e le = (c, refl)
split_front (x ∷ a) b [] d e le = absurd (omega (arith, le))
split_front (x ∷ a) b (y ∷ c) d e le =
    let head : x ≡ y = cc in
    let tails : a ++ b ≡ c ++ d = cc in
    let r = split_front a b c d tails (omega (arith, le)) in
    (r.0, cc (head, r.1))

pub cases_bool : (b : Bool) → (b ≡ true) ⊎ (b ≡ false)
cases_bool true = inl refl
cases_bool false = inr refl
