-- The laws of lists of runs.
use Rattle.std.proofs.Common.{◌≡◌, ℕ, ◌+◌, ◌-◌, ◌<◌, ◌≤◌, suc, zero, Bool, false, ◌&&◌, ◌||◌, not, ltb, leb, nat_eq, List, [], ◌∷◌, ◌++◌, length, get_or, refl, ap, ◌∙◌, arith}
use Rattle.std.proofs.lemmas.Bool.Decides.{nat_tests}
use Rattle.std.proofs.lemmas.List.Folds.{list_any-append}
use Rattle.std.specs.List.{list_any}
use Rattle.std.specs.declared.ops.Range.{Range}
use Rattle.quic_ranges.specs.Runs.{in_range, member, RunsFrom, IsRunsOf, in_sum, in_subtraction}
use Rattle.quic_ranges.specs.Numbers.{count_from, numbers, numbers_of, AscendFrom}
use Rattle.quic_ranges.proofs.RunsLemmas.{member-below}
use Rattle.quic_ranges.proofs.PlacesLemmas.{run-at}

-- a later run starts after the end of an earlier one
pub apart : (n i j : ℕ) (d : Range ℕ) (rs : List (Range ℕ)) → RunsFrom n rs → i < j → j < length rs
    → (get_or rs i d).end < (get_or rs j d).start
apart n i j d [] h lt in' = absurd (omega arith)
apart n i zero d (r ∷ rs) h lt in' = absurd (omega arith)
apart n zero (suc j) d (r ∷ rs) h lt in' = let at = run-at (r.end + 1) j d rs h.2 (omega arith) in omega arith
apart n (suc i) (suc j) d (r ∷ rs) h lt in' = apart (r.end + 1) i j d rs h.2 (omega arith) (omega arith)

-- the number before a run is no member
pub maximal : (n i y : ℕ) (d : Range ℕ) (rs : List (Range ℕ)) → RunsFrom n rs → i < length rs
    → y + 1 ≡ (get_or rs i d).start → member rs y ≡ false
maximal n i y d [] h in' e = refl
maximal n zero y d (r ∷ rs) h in' e = member-below r.start y (r ∷ rs) (omega arith, h.1, h.2) (omega arith)
maximal n (suc i) y d (r ∷ rs) h in' e =
    let at = run-at (r.end + 1) i d rs h.2 (omega arith) in
    past r y (member rs y) (omega arith) (maximal (r.end + 1) i y d rs h.2 (omega arith) e) where
      past : (r : Range ℕ) (y : ℕ) (m : Bool) → r.end ≤ y → m ≡ false → (in_range r y || m) ≡ false
      past r y m le e = grind (arith, nat_tests)

-- nor is its end
pub maximal_behind : (n i : ℕ) (d : Range ℕ) (rs : List (Range ℕ)) → RunsFrom n rs → i < length rs
    → member rs (get_or rs i d).end ≡ false
maximal_behind n i d [] h in' = refl
maximal_behind n zero d (r ∷ rs) h in' =
    past r r.end (member rs r.end) (omega arith) (member-below (r.end + 1) r.end rs h.2 (omega arith)) where
      past : (r : Range ℕ) (y : ℕ) (m : Bool) → r.end ≤ y → m ≡ false → (in_range r y || m) ≡ false
      past r y m le e = grind (arith, nat_tests)
maximal_behind n (suc i) d (r ∷ rs) h in' =
    let at = run-at (r.end + 1) i d rs h.2 (omega arith) in
    past r (get_or rs i d).end (member rs (get_or rs i d).end) (omega arith) (maximal_behind (r.end + 1) i d rs h.2 (omega arith)) where
      past : (r : Range ℕ) (y : ℕ) (m : Bool) → r.end ≤ y → m ≡ false → (in_range r y || m) ≡ false
      past r y m le e = grind (arith, nat_tests)

pub sum_of : (p q : ℕ → Bool) (rs ss ts : List (Range ℕ)) → IsRunsOf p rs → IsRunsOf q ss → IsRunsOf (in_sum rs ss) ts
    → IsRunsOf (λ y. p y || q y) ts
sum_of p q rs ss ts h k l = (l.0, λ y. l.1 y ∙ ap (λ m. m || member ss y) (h.1 y) ∙ ap (λ m. p y || m) (k.1 y))

pub difference_of : (p q : ℕ → Bool) (rs ss ts : List (Range ℕ)) → IsRunsOf p rs → IsRunsOf q ss
    → IsRunsOf (in_subtraction rs ss) ts → IsRunsOf (λ y. p y && not (q y)) ts
difference_of p q rs ss ts h k l =
    (l.0, λ y. l.1 y ∙ ap (λ m. m && not (member ss y)) (h.1 y) ∙ ap (λ m. p y && not m) (k.1 y))

-- a bound may be made lower
AscendFrom-lower : (n m : ℕ) (xs : List ℕ) → m ≤ n → AscendFrom n xs → AscendFrom m xs
AscendFrom-lower n m [] le h = tt
AscendFrom-lower n m (x ∷ xs) le h = (omega arith, h.1)

-- numbers in a row, in front of later ones
AscendFrom-count : (least a n : ℕ) (xs : List ℕ) → least ≤ a → AscendFrom (a + n) xs
    → AscendFrom least (count_from a n ++ xs)
AscendFrom-count least a zero xs le h = AscendFrom-lower (a + 0) least xs (omega arith) h
AscendFrom-count least a (suc n) xs le h =
    (le, AscendFrom-count (suc a) (suc a) n xs (omega arith) (AscendFrom-lower (a + suc n) (suc a + n) xs (omega arith) h))

pub AscendFrom-numbers_of : (n : ℕ) (rs : List (Range ℕ)) → RunsFrom n rs → AscendFrom n (numbers_of rs)
unfolding numbers
AscendFrom-numbers_of n [] h = tt
AscendFrom-numbers_of n (r ∷ rs) h =
    AscendFrom-count n r.start (r.end - r.start) (numbers_of rs) h.0
    (let lt : r.start < r.end = h.1 in AscendFrom-lower (r.end + 1) (r.start + (r.end - r.start)) (numbers_of rs)
    (omega arith) (AscendFrom-numbers_of (r.end + 1) rs h.2))

-- a number is one of those in a row exactly when it is between their bounds
any_count : (a n y : ℕ) → list_any (λ x. nat_eq x y) (count_from a n) ≡ (leb a y && ltb y (a + n))
any_count a zero y = none a y where
  none : (a y : ℕ) → false ≡ (leb a y && ltb y (a + 0))
  none a y = grind (arith, nat_tests)
any_count a (suc n) y = ap (λ m. nat_eq a y || m) (any_count (suc a) n y) ∙ step a n y where
  step : (a n y : ℕ) → (nat_eq a y || (leb (suc a) y && ltb y (suc a + n))) ≡ (leb a y && ltb y (a + suc n))
  step a n y = grind (arith, nat_tests)

pub any_number : (rs : List (Range ℕ)) (y : ℕ) → list_any (λ x. nat_eq x y) (numbers_of rs) ≡ member rs y
unfolding numbers
any_number [] y = refl
any_number (r ∷ rs) y =
    list_any-append (λ x. nat_eq x y) (count_from r.start (r.end - r.start)) (numbers_of rs)
    ∙ ap (λ m. m || list_any (λ x. nat_eq x y) (numbers_of rs)) (any_count r.start (r.end - r.start) y ∙ bounds r.start r.end y)
    ∙ ap (λ m. in_range r y || m) (any_number rs y) where
      bounds : (a b y : ℕ) → (leb a y && ltb y (a + (b - a))) ≡ (leb a y && ltb y b)
      bounds a b y = grind (arith, nat_tests)
