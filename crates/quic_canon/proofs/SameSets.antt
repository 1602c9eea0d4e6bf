-- Ranges that never touch are determined by the numbers in them.
use Rattle.std.proofs.Common.{◌≡◌, ℕ, ◌+◌, ◌-◌, ◌<◌, ◌≤◌, leb, Bool, true, false, List, [], ◌∷◌, refl, sym, ap, ◌∙◌, inl, inr, arith}
use Rattle.std.specs.Prelude.{◌||◌, ◌&&◌, ◌⊎◌}
use Rattle.std.proofs.lemmas.Bool.Decides.{nat_tests}
use Rattle.quic_frame_fields.specs.Field.{AreApart}
use Rattle.quic_frame_fields.specs.Sets.{is_in}

abbrev is_within : ℕ × ℕ → ℕ → Bool
is_within range n = leb range.0 n && leb n range.1

cases_bool : (b : Bool) → (b ≡ true) ⊎ (b ≡ false)
cases_bool true = inl refl
cases_bool false = inr refl

either_of : (b c : Bool) → (b || c) ≡ true → (b ≡ true) ⊎ (c ≡ true)
either_of true c e = inl refl
either_of false c e = inr e

true_is_not_false : (b : Bool) → b ≡ true → b ≡ false → ⊥
true_is_not_false b e f = cc

within_low : (range : ℕ × ℕ) (n : ℕ) → is_within range n ≡ true → range.0 ≤ n
within_low range n e = grind (arith, nat_tests)

within_high : (range : ℕ × ℕ) (n : ℕ) → is_within range n ≡ true → n ≤ range.1
within_high range n e = grind (arith, nat_tests)

within : (range : ℕ × ℕ) (n : ℕ) → range.0 ≤ n → n ≤ range.1 → is_within range n ≡ true
within range n low high = grind (arith, nat_tests)

not_within : (range : ℕ × ℕ) (n : ℕ) → n < range.0 → is_within range n ≡ false
not_within range n lt = grind (arith, nat_tests)

ordered : (range : ℕ × ℕ) (ranges : List (ℕ × ℕ)) → AreApart (range ∷ ranges) → range.0 ≤ range.1
ordered range [] h = h
ordered range (below ∷ ranges) h = h.0

others_apart : (range : ℕ × ℕ) (ranges : List (ℕ × ℕ)) → AreApart (range ∷ ranges) → AreApart ranges
others_apart range [] h = tt
others_apart range (below ∷ ranges) h = h.2

-- numbers in ranges below one are below its least number minus one
in_others : (range : ℕ × ℕ) (ranges : List (ℕ × ℕ)) (n : ℕ) → AreApart (range ∷ ranges) → is_in ranges n ≡ true
    → n + 2 ≤ range.0
in_others range [] n h e = absurd cc
in_others range (below ∷ ranges) n h e =
    elim (either_of (is_within below n) (is_in ranges n) e) [
      | inl here ↦ omega (arith, within_high below n here, h.1)
      | inr further ↦ omega (arith, in_others below ranges n h.2 further, ordered below ranges h.2, h.1)
    ]

at_most : (range : ℕ × ℕ) (ranges : List (ℕ × ℕ)) (n : ℕ) → AreApart (range ∷ ranges) → is_in (range ∷ ranges) n ≡ true
    → n ≤ range.1
at_most range ranges n h e =
    elim (either_of (is_within range n) (is_in ranges n) e) [
      | inl here ↦ within_high range n here
      | inr further ↦ omega (arith, in_others range ranges n h further, ordered range ranges h)
    ]

or_true : (b c : Bool) → b ≡ true → (b || c) ≡ true
or_true true c e = refl
or_true false c e = absurd cc

or_false : (b c : Bool) → b ≡ false → (b || c) ≡ c
or_false true c e = absurd cc
or_false false c e = refl

is_here : (range : ℕ × ℕ) (ranges : List (ℕ × ℕ)) (n : ℕ) → range.0 ≤ n → n ≤ range.1 → is_in (range ∷ ranges) n ≡ true
is_here range ranges n low high = or_true (is_within range n) (is_in ranges n) (within range n low high)

-- a number from below the first range up to its least
not_here : (range : ℕ × ℕ) (ranges : List (ℕ × ℕ)) (n : ℕ) → AreApart (range ∷ ranges) → n < range.0 → range.0 < n + 2
    → is_in (range ∷ ranges) n ≡ true → ⊥
not_here range ranges n h lt gt e =
    elim (either_of (is_within range n) (is_in ranges n) e) [
      | inl here ↦ absurd (omega (arith, within_low range n here, lt))
      | inr further ↦ absurd (omega (arith, in_others range ranges n h further, gt))
    ]

abbrev AreSameNumbers : List (ℕ × ℕ) → List (ℕ × ℕ) → Type 0
AreSameNumbers some others = (n : ℕ) → is_in some n ≡ is_in others n

top_at_most : (range other : ℕ × ℕ) (ranges others : List (ℕ × ℕ)) → AreApart (range ∷ ranges)
    → AreApart (other ∷ others)
    → AreSameNumbers (range ∷ ranges) (other ∷ others) → range.1 ≤ other.1
top_at_most range other ranges others h k same =
    at_most other others range.1 k (sym (same range.1) ∙ is_here range ranges range.1 (ordered range ranges h) (omega arith))

low_at_most : (range other : ℕ × ℕ) (ranges others : List (ℕ × ℕ)) → AreApart (range ∷ ranges)
    → AreApart (other ∷ others)
    → AreSameNumbers (range ∷ ranges) (other ∷ others) → range.1 ≡ other.1 → range.0 < other.0 → ⊥
low_at_most range other ranges others h k same top lt =
    not_here other others (other.0 - 1) k (omega (arith, lt)) (omega (arith, lt))
    (sym (same (other.0 - 1)) ∙ is_here range ranges (other.0 - 1) (omega (arith, lt)) (omega (arith, lt, top, ordered other others k)))

none_of : (range : ℕ × ℕ) (ranges : List (ℕ × ℕ)) (n : ℕ) → AreApart (range ∷ ranges) → range.0 ≤ n
    → is_in ranges n ≡ false
none_of range ranges n h le =
    elim (cases_bool (is_in ranges n)) [
      | inl e ↦ absurd (omega (arith, in_others range ranges n h e, le))
      | inr e ↦ e
    ]

same_below : (range other : ℕ × ℕ) (ranges others : List (ℕ × ℕ)) → AreApart (range ∷ ranges)
    → AreApart (other ∷ others)
    → AreSameNumbers (range ∷ ranges) (other ∷ others) → range.0 ≡ other.0 → AreSameNumbers ranges others
same_below range other ranges others h k same low n =
    elim (cases_bool (leb range.0 n)) [
      | inl e ↦
          let le : range.0 ≤ n = grind (arith, nat_tests) in
          none_of range ranges n h le ∙ sym (none_of other others n k (omega (arith, le, low)))
      | inr e ↦
          let lt : n < range.0 = grind (arith, nat_tests) in
          sym (or_false (is_within range n) (is_in ranges n) (not_within range n lt)) ∙ same n
          ∙ or_false (is_within other n) (is_in others n) (not_within other n (omega (arith, lt, low)))
    ]

pair_is : (range other : ℕ × ℕ) → range.0 ≡ other.0 → range.1 ≡ other.1 → range ≡ other
pair_is range other e f =
    ap (λ (n : ℕ). let p : ℕ × ℕ = (n, range.1) in p) e ∙ ap (λ (n : ℕ). let p : ℕ × ℕ = (other.0, n) in p) f

flip : (some others : List (ℕ × ℕ)) → AreSameNumbers some others → AreSameNumbers others some
flip some others same n = sym (same n)

-- Ranges that never touch, with the same numbers in them, are the same ranges.
pub one_list_of_set : (some others : List (ℕ × ℕ)) → AreApart some → AreApart others → AreSameNumbers some others
    → some ≡ others
one_list_of_set [] [] h k same = refl
one_list_of_set [] (other ∷ others) h k same =
    absurd (true_is_not_false (is_in (other ∷ others) other.1)
    (is_here other others other.1 (ordered other others k) (omega arith)) (sym (same other.1)))
one_list_of_set (range ∷ ranges) [] h k same =
    absurd (true_is_not_false (is_in (range ∷ ranges) range.1)
    (is_here range ranges range.1 (ordered range ranges h) (omega arith)) (same range.1))
one_list_of_set (range ∷ ranges) (other ∷ others) h k same =
    let back = flip (range ∷ ranges) (other ∷ others) same in
    let up = top_at_most range other ranges others h k same in
    let down = top_at_most other range others ranges k h back in
    let top : range.1 ≡ other.1 = omega (arith, up, down) in
    let low : range.0 ≡ other.0 = lows (cases_bool (leb range.0 other.0)) (cases_bool (leb other.0 range.0)) top in
    let here = pair_is range other low top in
    let below =
    one_list_of_set ranges others (others_apart range ranges h) (others_apart other others k)
    (same_below range other ranges others h k same low) in
    cc (here, below)
  where
    lows : ((leb range.0 other.0 ≡ true) ⊎ (leb range.0 other.0 ≡ false))
        → ((leb other.0 range.0 ≡ true) ⊎ (leb other.0 range.0 ≡ false)) → range.1 ≡ other.1 → range.0 ≡ other.0
    lows (inl le) (inl ge) top = grind (arith, nat_tests)
    lows (inr gt) x top = absurd (low_at_most other range others ranges k h
        (flip (range ∷ ranges) (other ∷ others) same) (sym top)
        (let lt : other.0 < range.0 = grind (arith, nat_tests) in lt))
    lows x (inr gt) top = absurd (low_at_most range other ranges others h k same top
        (let lt : range.0 < other.0 = grind (arith, nat_tests) in lt))
