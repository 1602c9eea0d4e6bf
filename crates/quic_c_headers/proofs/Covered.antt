-- A number that is stored in four bytes, of which the id overwrites those that are too many.
use Rattle.std.proofs.Common.{◌≡◌, ℕ, ◌+◌, ◌-◌, ◌≤◌, List, [], ◌∷◌, ◌++◌, length, take, drop, refl, sym, ap, subst, ◌∙◌, inl, inr, arith}
use Rattle.std.proofs.Math.Seq.{drop-append-add, take-add}
use Rattle.std.proofs.lemmas.Bool.{cases_eq}
use Rattle.std.proofs.lemmas.List.{drop-take, length-take-le, take-append-le, take-take}
use Rattle.quic_base.specs.Number.{bytes_of}

-- the last of its four bytes are what it has in fewer
low_of_four : (n number : ℕ) → 1 ≤ n → n ≤ 4 → drop (4 - n) (bytes_of 4 number) ≡ bytes_of n number
unfolding bytes_of
low_of_four n number some few =
    let P : ℕ → Type 0 = λ k. drop (4 - k) (bytes_of 4 number) ≡ bytes_of k number in
    elim (cases_eq n 1) [
      | inl e ↦ subst P (sym e) refl
      | inr a ↦ elim (cases_eq n 2) [
        | inl e ↦ subst P (sym e) refl
        | inr b ↦ elim (cases_eq n 3) [
          | inl e ↦ subst P (sym e) refl
          | inr d ↦ (let e : 4 ≡ n = omega (arith, some, few, a, b, d) in subst P e refl)
        ]
      ]
    ]

pub covered : (k n first number : ℕ) (dst one two new : List ℕ) → 1 ≤ n → n ≤ 4 → 1 ≤ k → k + 4 ≡ 1 + length dst + n
    → k ≤ length one
    → take 1 one ≡ first ∷ [] → take (k + 4) two ≡ take k one ++ bytes_of 4 number
    → take (1 + length dst) new ≡ take 1 two ++ dst → drop (1 + length dst) new ≡ drop (1 + length dst) two
    → take (k + 4) new ≡ first ∷ (dst ++ bytes_of n number)
covered k n first number dst one two new some few far same within a b c d =
    let r : ℕ = 1 + length dst in
    let size : length (take k one) ≡ k = length-take-le k one within in
    let place : r ≡ length (take k one) + (4 - n) = omega (arith, size, same, few) in
    let head : take 1 two ≡ first ∷ [] =
    sym (take-take 1 (k + 4) two (omega arith)) ∙ ap (take 1) b
    ∙ take-append-le 1 (take k one) (bytes_of 4 number) (omega (arith, size, far))
    ∙ take-take 1 k one far ∙ a in
    let tail : take n (drop r two) ≡ bytes_of n number =
    sym (drop-take r n two) ∙ ap (λ (i : ℕ). drop r (take i two)) (sym same) ∙ ap (drop r) b
    ∙ ap (λ (i : ℕ). drop i (take k one ++ bytes_of 4 number)) place
    ∙ drop-append-add (take k one) (bytes_of 4 number) (4 - n)
    ∙ low_of_four n number some few in
    ap (λ (i : ℕ). take i new) same ∙ take-add r n new
    ∙ ap (λ (xs : List ℕ). xs ++ take n (drop r new)) (c ∙ ap (λ (xs : List ℕ). xs ++ dst) head)
    ∙ ap (λ (xs : List ℕ). (first ∷ dst) ++ take n xs) d ∙ ap (λ (xs : List ℕ). (first ∷ dst) ++ xs) tail
