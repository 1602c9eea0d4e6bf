-- Laws of lists of runs.
use Rattle.std.proofs.Common.{◌≡◌, ℕ, ◌+◌, ◌<◌, ◌≤◌, ◌-◌, min, max, Bool, true, false, cond, ◌&&◌, ◌||◌, not, ltb, List, [], ◌∷◌, ◌++◌, refl, ap, sym, ◌∙◌, subst, arith, inl, inr}
use Rattle.std.proofs.lemmas.Bool.{false≢true, cond_both, ltb-true, ltb-false, cases_lt}
use Rattle.std.proofs.lemmas.Bool.Decides.{nat_tests}
use Rattle.std.specs.List.{remove}
use Rattle.std.specs.declared.ops.Range.{Range}
use Rattle.quic_ranges.specs.Intersections.{as_runs, intersections}
use Rattle.quic_ranges.specs.Runs.{in_range, member, RunsFrom, IsMaximalRuns, IsRunsOf, IsLeastMember, IsGreatest, in_union, in_difference, in_intersection}

-- the range from a to b
abbrev pub range : ℕ → ℕ → Range ℕ
range a b = record { start = a; end = b }

-- the runs of the union with a..b, which is not reversed
abbrev pub inserted : List (Range ℕ) → ℕ → ℕ → List (Range ℕ)
inserted [] a b = range a b ∷ []
inserted (r ∷ rs) a b =
    cond (ltb r.end a) (r ∷ inserted rs a b) (cond (ltb b r.start) (range a b ∷ r ∷ rs) (inserted rs (min a r.start) (max b r.end)))

-- the runs of the difference with a..b, which is not reversed
abbrev pub removed : List (Range ℕ) → ℕ → ℕ → List (Range ℕ)
removed [] a b = []
removed (r ∷ rs) a b = as_runs r.start (min r.end a) ++ (as_runs (max r.start b) r.end ++ removed rs a b)

-- a lower bound may be made lower
pub RunsFrom-lower : (n m : ℕ) (rs : List (Range ℕ)) → m ≤ n → RunsFrom n rs → RunsFrom m rs
RunsFrom-lower n m [] le h = tt
RunsFrom-lower n m (r ∷ rs) le h = (omega arith, h.1, h.2)

-- no member is below the bound
pub member-below : (n y : ℕ) (rs : List (Range ℕ)) → RunsFrom n rs → y < n → member rs y ≡ false
member-below n y [] h lt = refl
member-below n y (r ∷ rs) h lt =
    let ih : member rs y ≡ false = member-below (r.end + 1) y rs h.2 (omega arith) in
    let low : n ≤ r.start = h.0 in
    grind (arith, nat_tests)

-- joining a range with one that it touches
joined : (a b s e y : ℕ) (m : Bool) → a < b → s < e → s ≤ b → a ≤ e
    → (m || in_range (range (min a s) (max b e)) y) ≡ ((in_range (range s e) y || m) || in_range (range a b) y)
joined a b s e y m h1 h2 h3 h4 = grind (arith, nat_tests)

-- a head that the inserted range doesn't touch
kept_head : (h m i : Bool) (t : Bool) → t ≡ (m || i) → (h || t) ≡ ((h || m) || i)
kept_head h m i t e = grind (arith, nat_tests)

front_head : (h m i : Bool) → (i || (h || m)) ≡ ((h || m) || i)
front_head h m i = grind (arith, nat_tests)

-- the members after an insertion
pub member-inserted : (n a b y : ℕ) (rs : List (Range ℕ)) → RunsFrom n rs → a < b
    → member (inserted rs a b) y ≡ (member rs y || in_range (range a b) y)
member-inserted n a b y [] h lt = grind (arith, nat_tests)
member-inserted n a b y (r ∷ rs) h lt =
    let P : List (Range ℕ) → Type 0 = λ l. member l y ≡ (member (r ∷ rs) y || in_range (range a b) y) in
    cond_both (ltb r.end a) _ _ P
    (λ _. kept_head (in_range r y) (member rs y) (in_range (range a b) y) _ (member-inserted (r.end + 1) a b y rs h.2 lt))
    (λ e1. cond_both (ltb b r.start) _ _ P
    (λ _. front_head (in_range r y) (member rs y) (in_range (range a b) y))
    (λ e2. member-inserted (r.end + 1) (min a r.start) (max b r.end) y rs h.2 (omega arith)
    ∙ joined a b r.start r.end y (member rs y) lt h.1 (ltb-false _ _ e2) (ltb-false _ _ e1)))

-- the runs after an insertion
pub RunsFrom-inserted : (n a b : ℕ) (rs : List (Range ℕ)) → RunsFrom n rs → a < b → RunsFrom (min n a) (inserted rs a b)
RunsFrom-inserted n a b [] h lt = (omega arith, lt, tt)
RunsFrom-inserted n a b (r ∷ rs) h lt =
    let P : List (Range ℕ) → Type 0 = RunsFrom (min n a) in
    cond_both (ltb r.end a) _ _ P
    (λ e. let q : r.end < a = ltb-true _ _ e in (
      omega arith,
      h.1,
      RunsFrom-lower (min (r.end + 1) a) (r.end + 1) (inserted rs a b) (omega arith)
          (RunsFrom-inserted (r.end + 1) a b rs h.2 lt),
    ))
    (λ e1. cond_both (ltb b r.start) _ _ P
    (λ e2. let q : b < r.start = ltb-true _ _ e2 in (omega arith, lt, (omega arith, h.1, h.2)))
    (λ e2. let q1 : a ≤ r.end = ltb-false _ _ e1 in
    RunsFrom-lower (min (r.end + 1) (min a r.start)) (min n a) _ (omega arith)
    (RunsFrom-inserted (r.end + 1) (min a r.start) (max b r.end) rs h.2 (omega arith))))

-- the runs after an insertion are those of the union
pub IsRunsOf-inserted : (a b : ℕ) (rs : List (Range ℕ)) → IsMaximalRuns rs → a < b
    → IsRunsOf (in_union rs (range a b)) (inserted rs a b)
IsRunsOf-inserted a b rs h lt =
    (RunsFrom-lower (min 0 a) 0 _ (omega arith) (RunsFrom-inserted 0 a b rs h lt), λ y. member-inserted 0 a b y rs h lt)

-- the members of a range as runs
pub member-as_runs : (a b y : ℕ) (rest : List (Range ℕ))
    → member (as_runs a b ++ rest) y ≡ (in_range (range a b) y || member rest y)
member-as_runs a b y rest =
    let P : List (Range ℕ) → Type 0 = λ l. member (l ++ rest) y ≡ (in_range (range a b) y || member rest y) in
    cond_both (ltb a b) _ _ P (λ _. refl) (λ e. empty_range a b y (member rest y) (ltb-false _ _ e)) where
      empty_range : (a b y : ℕ) (m : Bool) → b ≤ a → m ≡ (in_range (range a b) y || m)
      empty_range a b y m le = grind (arith, nat_tests)

cut : (s e a b y : ℕ) (m t : Bool) → s < e → a < b → t ≡ (m && not (in_range (range a b) y))
    → (in_range (range s (min e a)) y || (in_range (range (max s b) e) y || t))
    ≡ ((in_range (range s e) y || m) && not (in_range (range a b) y))
cut s e a b y m t h1 h2 eq = grind (arith, nat_tests)

-- the members after a removal
pub member-removed : (n a b y : ℕ) (rs : List (Range ℕ)) → RunsFrom n rs → a < b
    → member (removed rs a b) y ≡ (member rs y && not (in_range (range a b) y))
member-removed n a b y [] h lt = refl
member-removed n a b y (r ∷ rs) h lt =
    member-as_runs r.start (min r.end a) y (as_runs (max r.start b) r.end ++ removed rs a b)
    ∙ ap (λ m. in_range (range r.start (min r.end a)) y || m) (member-as_runs (max r.start b) r.end y (removed rs a b))
    ∙ cut r.start r.end a b y (member rs y) _ h.1 lt (member-removed (r.end + 1) a b y rs h.2 lt)

-- a range in front of runs
pub RunsFrom-as_runs : (n a b : ℕ) (rest : List (Range ℕ)) → n ≤ a → RunsFrom n rest → (a < b → RunsFrom (b + 1) rest)
    → RunsFrom n (as_runs a b ++ rest)
RunsFrom-as_runs n a b rest le h next =
    let P : List (Range ℕ) → Type 0 = λ l. RunsFrom n (l ++ rest) in
    cond_both (ltb a b) _ _ P (λ e. (le, ltb-true _ _ e, next (ltb-true _ _ e))) (λ _. h)

-- the runs after a removal
pub RunsFrom-removed : (n a b : ℕ) (rs : List (Range ℕ)) → RunsFrom n rs → a < b → RunsFrom n (removed rs a b)
RunsFrom-removed n a b [] h lt = tt
RunsFrom-removed n a b (r ∷ rs) h lt =
    let tail : RunsFrom (r.end + 1) (removed rs a b) = RunsFrom-removed (r.end + 1) a b rs h.2 lt in
    let low : (m : ℕ) → m ≤ max r.start b → m ≤ r.end + 1 → RunsFrom m (as_runs (max r.start b) r.end ++ removed rs a b) =
    λ m le le'. RunsFrom-as_runs m (max r.start b) r.end _ le (RunsFrom-lower (r.end + 1) m _ le' tail) (λ _. tail) in
    let le1 : r.start < r.end = h.1 in
    let le0 : n ≤ r.start = h.0 in
    RunsFrom-as_runs n r.start (min r.end a) _ h.0 (low n (omega arith) (omega arith))
    (λ q. low (min r.end a + 1) (omega arith) (omega arith))

-- the runs after a removal are those of the difference
pub IsRunsOf-removed : (a b : ℕ) (rs : List (Range ℕ)) → IsMaximalRuns rs → a < b
    → IsRunsOf (in_difference rs (range a b)) (removed rs a b)
IsRunsOf-removed a b rs h lt = (RunsFrom-removed 0 a b rs h lt, λ y. member-removed 0 a b y rs h lt)

-- the ranges with these ends are one
pub range_same : (r s : Range ℕ) → r.start ≡ s.start → r.end ≡ s.end → r ≡ s
range_same r s p q = ap (λ m. range m r.end) p ∙ ap (range s.start) q

-- the first run of one list is no later than that of another with the same members
start_le : (n : ℕ) (r s : Range ℕ) (rs ss : List (Range ℕ)) → RunsFrom n (r ∷ rs) → RunsFrom n (s ∷ ss)
    → ((y : ℕ) → member (r ∷ rs) y ≡ member (s ∷ ss) y) → r.start ≤ s.start
start_le n r s rs ss h k same =
    elim (cases_lt s.start r.start) [
      | inl lt ↦ absurd (clash r s s.start (member rs s.start) (member ss s.start) lt
          (omega arith) k.1 (member-below (r.end + 1) s.start rs h.2 (omega arith)) (same s.start))
      | inr le ↦ le
    ] where
      clash : (r s : Range ℕ) (y : ℕ) (m m' : Bool) → y < r.start → y ≡ s.start → s.start < s.end → m ≡ false
          → (in_range r y || m) ≡ (in_range s y || m') → ⊥
      clash r s y m m' lt e lt' e1 e2 = grind (arith, nat_tests)

-- nor does it end later
end_le : (n : ℕ) (r s : Range ℕ) (rs ss : List (Range ℕ)) → RunsFrom n (r ∷ rs) → RunsFrom n (s ∷ ss)
    → r.start ≡ s.start → ((y : ℕ) → member (r ∷ rs) y ≡ member (s ∷ ss) y) → r.end ≤ s.end
end_le n r s rs ss h k e same =
    elim (cases_lt s.end r.end) [
      | inl lt ↦ absurd (clash r s s.end (member rs s.end) (member ss s.end) lt (omega arith)
          (omega arith) (member-below (s.end + 1) s.end ss k.2 (omega arith)) (same s.end))
      | inr le ↦ le
    ] where
      clash : (r s : Range ℕ) (y : ℕ) (m m' : Bool) → y < r.end → r.start ≤ y → y ≡ s.end → m' ≡ false → (in_range r y || m)
          ≡ (in_range s y || m') → ⊥
      clash r s y m m' lt le e e1 e2 = grind (arith, nat_tests)

-- two lists of runs with the same members are equal
pub RunsFrom-unique : (n : ℕ) (rs ss : List (Range ℕ)) → RunsFrom n rs → RunsFrom n ss
    → ((y : ℕ) → member rs y ≡ member ss y) → rs ≡ ss
RunsFrom-unique n [] [] h k same = refl
RunsFrom-unique n [] (s ∷ ss) h k same = absurd (nonempty s (member ss s.start) k.1 (same s.start)) where
  nonempty : (s : Range ℕ) (m : Bool) → s.start < s.end → false ≡ (in_range s s.start || m) → ⊥
  nonempty s m lt e = grind (arith, nat_tests)
RunsFrom-unique n (r ∷ rs) [] h k same = absurd (nonempty r (member rs r.start) h.1 (same r.start)) where
  nonempty : (s : Range ℕ) (m : Bool) → s.start < s.end → (in_range s s.start || m) ≡ false → ⊥
  nonempty s m lt e = grind (arith, nat_tests)
RunsFrom-unique n (r ∷ rs) (s ∷ ss) h k same =
    let le : r.start ≤ s.start = start_le n r s rs ss h k same in
    let ge : s.start ≤ r.start = start_le n s r ss rs k h (λ y. sym (same y)) in
    let starts : r.start ≡ s.start = omega arith in
    let le' : r.end ≤ s.end = end_le n r s rs ss h k starts same in
    let ge' : s.end ≤ r.end = end_le n s r ss rs k h (sym starts) (λ y. sym (same y)) in
    let ends : r.end ≡ s.end = omega arith in
    let kss : RunsFrom (r.end + 1) ss = RunsFrom-lower (s.end + 1) (r.end + 1) ss (omega arith) k.2 in
    let rest : (y : ℕ) → member rs y ≡ member ss y = λ y. elim (cases_lt y (r.end + 1)) [
      | inl lt ↦ member-below (r.end + 1) y rs h.2 lt ∙ sym (member-below (r.end + 1) y ss kss lt)
      | inr le2 ↦ past r s y (member rs y) (member ss y) (omega arith) ends (same y)
    ] in
    ap (λ l. r ∷ l) (RunsFrom-unique (r.end + 1) rs ss h.2 kss rest)
    ∙ ap (λ x. x ∷ ss) (range_same r s starts ends) where
      past : (r s : Range ℕ) (y : ℕ) (m m' : Bool) → r.end ≤ y → r.end ≡ s.end → (in_range r y || m) ≡ (in_range s y || m') → m ≡ m'
      past r s y m m' le e e2 = grind (arith, nat_tests)

-- a set has one list of maximal runs
pub IsRunsOf-unique : (p : ℕ → Bool) (rs ss : List (Range ℕ)) → IsRunsOf p rs → IsRunsOf p ss → rs ≡ ss
IsRunsOf-unique p rs ss h k = RunsFrom-unique 0 rs ss h.0 k.0 (λ y. h.1 y ∙ sym (k.1 y))

-- the intersections have the lower bound of the runs
pub RunsFrom-intersections : (n : ℕ) (x : Range ℕ) (rs : List (Range ℕ)) → RunsFrom n rs
    → RunsFrom n (intersections rs x)
RunsFrom-intersections n x [] h = tt
RunsFrom-intersections n x (r ∷ rs) h =
    let tail : RunsFrom (r.end + 1) (intersections rs x) = RunsFrom-intersections (r.end + 1) x rs h.2 in
    RunsFrom-as_runs n (max r.start x.start) (min x.end r.end) (intersections rs x) (omega arith)
    (RunsFrom-lower (r.end + 1) n _ (omega arith) tail)
    (λ lt. RunsFrom-lower (r.end + 1) (min x.end r.end + 1) _ (omega arith) tail)

meet : (s e a b y : ℕ) (m t : Bool) → t ≡ (m && in_range (range a b) y)
    → (in_range (range (max s a) (min b e)) y || t) ≡ ((in_range (range s e) y || m) && in_range (range a b) y)
meet s e a b y m t eq = grind (arith, nat_tests)

-- the members of the intersections
pub member-intersections : (x : Range ℕ) (y : ℕ) (rs : List (Range ℕ))
    → member (intersections rs x) y ≡ (member rs y && in_range x y)
member-intersections x y [] = refl
member-intersections x y (r ∷ rs) =
    member-as_runs (max r.start x.start) (min x.end r.end) y (intersections rs x)
    ∙ meet r.start r.end x.start x.end y (member rs y) _ (member-intersections x y rs)

-- the intersections are the runs of the intersection
pub IsRunsOf-intersections : (x : Range ℕ) (rs : List (Range ℕ)) → IsMaximalRuns rs
    → IsRunsOf (in_intersection rs x) (intersections rs x)
IsRunsOf-intersections x rs h = (RunsFrom-intersections 0 x rs h, λ y. member-intersections x y rs)

-- the runs after the first
pub IsMaximalRuns-rest : (r : Range ℕ) (rs ss : List (Range ℕ)) → ss ≡ r ∷ rs → IsMaximalRuns ss → IsMaximalRuns rs
IsMaximalRuns-rest r rs ss e h =
    let all : IsMaximalRuns (r ∷ rs) = subst IsMaximalRuns e h in RunsFrom-lower (r.end + 1) 0 rs (omega arith) all.2

-- the same by a removal at the front
pub IsMaximalRuns-remove_first : (rs : List (Range ℕ)) → IsMaximalRuns rs → IsMaximalRuns (remove rs 0)
IsMaximalRuns-remove_first [] h = tt
IsMaximalRuns-remove_first (r ∷ rs) h = RunsFrom-lower (r.end + 1) 0 rs (omega arith) h.2

-- the first run begins with the least member
pub IsLeastMember-first : (r : Range ℕ) (rs ss : List (Range ℕ)) → ss ≡ r ∷ rs → IsMaximalRuns ss
    → IsLeastMember ss r.start
IsLeastMember-first r rs ss e h = subst (λ l. IsLeastMember l r.start) (sym e) (first (subst IsMaximalRuns e h)) where
  here : (m : Bool) → r.start < r.end → (in_range r r.start || m) ≡ true
  here m lt = grind (arith, nat_tests)

  first : IsMaximalRuns (r ∷ rs) → IsLeastMember (r ∷ rs) r.start
  first h = record {
    present = here (member rs r.start) h.1;
    least = λ z present. elim (cases_lt z r.start) [
      | inl lt ↦ absurd
          (false≢true (sym (member-below r.start z (r ∷ rs) (omega arith, h.1, h.2) lt) ∙ present))
      | inr le ↦ le
    ];
  }

-- no member of the runs before a last one reaches its end
greatest-from : (n : ℕ) (r : Range ℕ) (rs : List (Range ℕ)) → RunsFrom n (rs ++ r ∷ [])
    → (n ≤ r.start) × (r.start < r.end) × IsGreatest (rs ++ r ∷ []) (r.end - 1)
greatest-from n r [] h = (h.0, h.1, record { present = here h.1; greatest = λ z. most z }) where
  here : r.start < r.end → (in_range r (r.end - 1) || false) ≡ true
  here lt = grind (arith, nat_tests)

  most : (z : ℕ) → (in_range r z || false) ≡ true → z ≤ r.end - 1
  most z e = grind (arith, nat_tests)
greatest-from n r (s ∷ rs) h =
    let ih = greatest-from (s.end + 1) r rs h.2 in
    let low : s.end + 1 ≤ r.start = ih.0 in
    let nonempty : r.start < r.end = ih.1 in (
      omega arith,
      ih.1,
      record {
        present = there (in_range s (r.end - 1)) (member (rs ++ r ∷ []) (r.end - 1)) ih.2.present;
        greatest = λ z present. most z (member (rs ++ r ∷ []) z) (omega arith) (ih.2.greatest z) present;
      },
    ) where
      there : (i m : Bool) → m ≡ true → (i || m) ≡ true
      there i m e = grind (arith, nat_tests)

      most : (z : ℕ) (m : Bool) → s.end ≤ r.end - 1 → (m ≡ true → z ≤ r.end - 1) → (in_range s z || m) ≡ true → z ≤ r.end - 1
      most z m le later e = grind (arith, nat_tests)

-- the last run ends after the greatest member
pub IsGreatest-last : (r : Range ℕ) (rs ss : List (Range ℕ)) → ss ≡ rs ++ r ∷ [] → IsMaximalRuns ss
    → (r.start < r.end) × IsGreatest ss (r.end - 1)
IsGreatest-last r rs ss e h =
    let at = greatest-from 0 r rs (subst IsMaximalRuns e h) in (at.1, subst (λ l. IsGreatest l (r.end - 1)) (sym e) at.2)
