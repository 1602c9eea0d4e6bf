-- What a change of a list of runs does, by the indices at which it begins and ends.
use Rattle.std.proofs.Common.{◌≡◌, ℕ, ◌+◌, ◌-◌, ◌<◌, ◌≤◌, suc, zero, min, max, Bool, true, false, ◌||◌, ltb, leb, List, [], ◌∷◌, ◌++◌, take, drop, length, get_or, refl, ap, sym, ◌∙◌, subst, arith, ◌⊎◌, inl, inr}
use Rattle.std.proofs.lemmas.Bool.{cond_both, ltb-true, lt-ltb, le-ltb, leb-true, le-leb, lt-leb, cases_lt, false≢true}
use Rattle.std.proofs.lemmas.Bool.Decides.{nat_tests}
use Rattle.std.specs.List.Sorted.{IsPartitionPoint, IsPartitionedBy}
use Rattle.std.specs.declared.ops.Range.{Range}
use Rattle.quic_ranges.specs.Runs.{in_range, member, in_union, RunsFrom, IsMaximalRuns, IsRunsOf}
use Rattle.quic_ranges.specs.Places.{ends_below, starts_upto, hull}
use Rattle.quic_ranges.specs.declared.range_set.sorted_runs.Substitute.TheVariants.{One}
use Rattle.quic_ranges.specs.Splices.{Splices}
use Rattle.quic_ranges.proofs.RunsLemmas.{range, inserted, member-below, IsRunsOf-inserted}

-- runs from n on do not end below n
pub ends_below-none : (n x : ℕ) (rs : List (Range ℕ)) → RunsFrom n rs → x ≤ n → ends_below rs x ≡ 0
ends_below-none n x [] h le = refl
ends_below-none n x (r ∷ rs) h le = let q : x ≤ r.end = omega arith in rw (le-ltb r.end x q) refl

-- nor do they start before
pub starts_upto-none : (n x : ℕ) (rs : List (Range ℕ)) → RunsFrom n rs → x < n → starts_upto rs x ≡ 0
starts_upto-none n x [] h lt = refl
starts_upto-none n x (r ∷ rs) h lt = let q : x < r.start = omega arith in rw (lt-leb r.start x q) refl

-- if a touched run moves the end of the range up to its own end, no further run is touched
starts_upto-max : (e b : ℕ) (rs : List (Range ℕ)) → RunsFrom (e + 1) rs → starts_upto rs (max b e) ≡ starts_upto rs b
starts_upto-max e b rs h =
    elim (cases_lt b e) as (λ _. starts_upto rs (max b e) ≡ starts_upto rs b) [
      | inl lt ↦ starts_upto-none (e + 1) (max b e) rs h (omega arith) ∙ sym (starts_upto-none (e + 1) b rs h (omega arith))
      | inr le ↦ let q : max b e ≡ b = omega arith in ap (starts_upto rs) q
    ]

-- an insertion, by indices: the runs that end below a, the hull, and those that start above b
pub inserted-places : (n a b : ℕ) (rs : List (Range ℕ)) → RunsFrom n rs → a < b
    → inserted rs a b ≡ take (ends_below rs a) rs ++ hull rs a b ∷ drop (starts_upto rs b) rs
inserted-places n a b [] h lt = refl
inserted-places n a b (r ∷ rs) h lt =
    elim (cases_lt r.end a) as (λ _. inserted (r ∷ rs) a b ≡ take (ends_below (r ∷ rs) a) (r ∷ rs) ++ hull (r ∷ rs) a b
    ∷ drop (starts_upto (r ∷ rs) b) (r ∷ rs)) [
      | inl q ↦ let q2 : r.start ≤ b = omega arith in
          rw (lt-ltb r.end a q, le-leb r.start b q2) (ap (λ l. r ∷ l) (inserted-places (r.end + 1) a b rs h.2 lt))
      | inr q ↦ elim (cases_lt b r.start) as (λ _. inserted (r ∷ rs) a b ≡ take (ends_below (r ∷ rs) a) (r ∷ rs)
          ++ hull (r ∷ rs) a b ∷ drop (starts_upto (r ∷ rs) b) (r ∷ rs)) [
            | inl q2 ↦ rw (le-ltb r.end a q, lt-ltb b r.start q2, lt-leb r.start b q2) refl
            | inr q2 ↦ rw (le-ltb r.end a q, le-ltb b r.start q2, le-leb r.start b q2)
                (inserted-places (r.end + 1) (min a r.start) (max b r.end) rs h.2 (omega arith)
                ∙ rw (ends_below-none (r.end + 1) (min a r.start) rs h.2 (omega arith), starts_upto-max r.end b rs h.2) refl)
          ]
    ]

-- if no run is touched, the hull is the range itself
pub hull-none : (n a b : ℕ) (rs : List (Range ℕ)) → RunsFrom n rs → a < b → starts_upto rs b ≤ ends_below rs a
    → hull rs a b ≡ range a b
hull-none n a b [] h lt le = refl
hull-none n a b (r ∷ rs) h lt le0 =
    (elim (cases_lt r.end a) as (λ _. starts_upto (r ∷ rs) b ≤ ends_below (r ∷ rs) a → hull (r ∷ rs) a b ≡ range a b) [
      | inl q ↦ let q2 : r.start ≤ b = omega arith in rw (lt-ltb r.end a q, le-leb r.start b q2)
          (λ le. hull-none (r.end + 1) a b rs h.2 lt (omega arith))
      | inr q ↦ elim (cases_lt b r.start) as (λ _. starts_upto (r ∷ rs) b ≤ ends_below (r ∷ rs) a → hull (r ∷ rs) a b ≡ range a b) [
        | inl q2 ↦ rw (le-ltb r.end a q, lt-ltb b r.start q2) (λ _. refl)
        | inr q2 ↦ rw (le-ltb r.end a q, le-ltb b r.start q2, le-leb r.start b q2) (λ le. absurd (omega arith))
      ]
    ]) le0

-- a run at an index is nonempty, and starts at the bound or later
pub run-at : (n k : ℕ) (d : Range ℕ) (rs : List (Range ℕ)) → RunsFrom n rs → k < length rs
    → (n ≤ (get_or rs k d).start) × ((get_or rs k d).start < (get_or rs k d).end)
run-at n k d [] h lt = absurd (omega arith)
run-at n zero d (r ∷ rs) h lt = (h.0, h.1)
run-at n (suc k) d (r ∷ rs) h lt = let ih = run-at (r.end + 1) k d rs h.2 (omega arith) in (omega arith, ih.1)

pub starts_upto-length : (x : ℕ) (rs : List (Range ℕ)) → starts_upto rs x ≤ length rs
starts_upto-length x [] = omega arith
starts_upto-length x (r ∷ rs) =
    let P : ℕ → Type 0 = λ m. m ≤ length (r ∷ rs) in
    let ih : starts_upto rs x ≤ length rs = starts_upto-length x rs in
    cond_both (leb r.start x) _ _ P (λ _. omega arith) (λ _. omega arith)

pub ends_below-length : (x : ℕ) (rs : List (Range ℕ)) → ends_below rs x ≤ length rs
ends_below-length x [] = omega arith
ends_below-length x (r ∷ rs) =
    let P : ℕ → Type 0 = λ m. m ≤ length (r ∷ rs) in
    let ih : ends_below rs x ≤ length rs = ends_below-length x rs in
    cond_both (ltb r.end x) _ _ P (λ _. omega arith) (λ _. omega arith)

range_at : (a a' b b' : ℕ) → a ≡ a' → b ≡ b' → range a b ≡ range a' b'
range_at a a' b b' p q = ap (λ m. range m b) p ∙ ap (range a') q

-- if the last run ends below x, all do
pub ends_below-all : (n x k : ℕ) (d : Range ℕ) (rs : List (Range ℕ)) → RunsFrom n rs → length rs ≡ suc k
    → (get_or rs k d).end < x → ends_below rs x ≡ suc k
ends_below-all n x k d [] h e lt = absurd (omega arith)
ends_below-all n x zero d (r ∷ rs) h e lt = rw (lt-ltb r.end x lt) (ap suc (none rs (omega arith))) where
  none : (ss : List (Range ℕ)) → length ss ≡ 0 → ends_below ss x ≡ 0
  none [] e = refl
  none (s ∷ ss) e = absurd (omega arith)
ends_below-all n x (suc k) d (r ∷ rs) h e lt =
    let at = run-at (r.end + 1) k d rs h.2 (omega arith) in
    let q : r.end < x = omega arith in
    rw (lt-ltb r.end x q) (ap suc (ends_below-all (r.end + 1) x k d rs h.2 (omega arith) lt))

-- if x is in the last run or at its end, the others end below x
pub ends_below-others : (n x k : ℕ) (d : Range ℕ) (rs : List (Range ℕ)) → RunsFrom n rs → length rs ≡ suc k
    → (get_or rs k d).start ≤ x → x ≤ (get_or rs k d).end → ends_below rs x ≡ k
ends_below-others n x k d [] h e le le' = absurd (omega arith)
ends_below-others n x zero d (r ∷ rs) h e le le' = rw (le-ltb r.end x le') refl
ends_below-others n x (suc k) d (r ∷ rs) h e le le' =
    let at = run-at (r.end + 1) k d rs h.2 (omega arith) in
    let q : r.end < x = omega arith in
    rw (lt-ltb r.end x q) (ap suc (ends_below-others (r.end + 1) x k d rs h.2 (omega arith) le le'))

-- what `hull-at` says
abbrev HullAt : List (Range ℕ) → ℕ → ℕ → ℕ → Range ℕ → Type 0
HullAt rs a b k d =
    starts_upto rs b ≡ suc k → ends_below rs a ≤ k → hull rs a b
    ≡ range (min a (get_or rs (ends_below rs a) d).start) (max b (get_or rs k d).end)

-- the hull, by the first and the last run that a..b touches
pub hull-at : (n a b k : ℕ) (d : Range ℕ) (rs : List (Range ℕ)) → RunsFrom n rs → a < b → starts_upto rs b ≡ suc k
    → ends_below rs a ≤ k
    → hull rs a b ≡ range (min a (get_or rs (ends_below rs a) d).start) (max b (get_or rs k d).end)
hull-at n a b k d [] h lt is le = absurd (omega arith)
hull-at n a b zero d (r ∷ rs) h lt is le =
    (elim (cases_lt r.end a) as (λ _. HullAt (r ∷ rs) a b 0 d) [
      | inl q ↦ let q2 : r.start ≤ b = omega arith in rw (lt-ltb r.end a q, le-leb r.start b q2) (λ is le. absurd (omega arith))
      | inr q ↦ elim (cases_lt b r.start) as (λ _. HullAt (r ∷ rs) a b 0 d) [
        | inl q2 ↦ rw (le-ltb r.end a q, lt-ltb b r.start q2, lt-leb r.start b q2) (λ is le. absurd (omega arith))
        | inr q2 ↦ rw (le-ltb r.end a q, le-ltb b r.start q2, le-leb r.start b q2) (λ is le.
            let none : starts_upto rs (max b r.end) ≡ 0 = starts_upto-max r.end b rs h.2 ∙ (omega arith) in
            hull-none (r.end + 1) (min a r.start) (max b r.end) rs h.2 (omega arith) (omega arith))
      ]
    ]) is le
hull-at n a b (suc k) d (r ∷ rs) h lt is le =
    (elim (cases_lt r.end a) as (λ _. HullAt (r ∷ rs) a b (suc k) d) [
      | inl q ↦ let q2 : r.start ≤ b = omega arith in rw (lt-ltb r.end a q, le-leb r.start b q2)
          (λ is le. hull-at (r.end + 1) a b k d rs h.2 lt (omega arith) (omega arith))
      | inr q ↦ elim (cases_lt b r.start) as (λ _. HullAt (r ∷ rs) a b (suc k) d) [
        | inl q2 ↦ rw (le-ltb r.end a q, lt-ltb b r.start q2, lt-leb r.start b q2) (λ is le. absurd (omega arith))
        | inr q2 ↦ rw (le-ltb r.end a q, le-ltb b r.start q2, le-leb r.start b q2) (λ is le.
            let first : ends_below rs (min a r.start) ≡ 0 =
            ends_below-none (r.end + 1) (min a r.start) rs h.2 (omega arith) in
            let upto : starts_upto rs (max b r.end) ≡ suc k = starts_upto-max r.end b rs h.2 ∙ (omega arith) in
            let fits : starts_upto rs b ≤ length rs = starts_upto-length b rs in
            let at0 : (r.end + 1 ≤ (get_or rs 0 d).start) × ((get_or rs 0 d).start < (get_or rs 0 d).end) =
            run-at (r.end + 1) 0 d rs h.2 (omega arith) in
            let atk : (r.end + 1 ≤ (get_or rs k d).start) × ((get_or rs k d).start < (get_or rs k d).end) =
            run-at (r.end + 1) k d rs h.2 (omega arith) in
            hull-at (r.end + 1) (min a r.start) (max b r.end) k d rs h.2 (omega arith) upto (omega arith)
            ∙ rw first (range_at _ _ _ _ (omega arith) (omega arith)))
      ]
    ]) is le

-- a range before all runs
pub inserted-beyond : (n a b : ℕ) (rs : List (Range ℕ)) → RunsFrom n rs → a < b → b < n
    → inserted rs a b ≡ range a b ∷ rs
inserted-beyond n a b [] h lt q = refl
inserted-beyond n a b (r ∷ rs) h lt q =
    let q1 : a ≤ r.end = omega arith in
    let q2 : b < r.start = omega arith in
    rw (le-ltb r.end a q1, lt-ltb b r.start q2) refl

-- what `inserted-same` says
abbrev Same : List (Range ℕ) → ℕ → ℕ → Range ℕ → Type 0
Same rs a b d =
    ends_below rs a < length rs → (get_or rs (ends_below rs a) d).start ≤ a → b ≤ (get_or rs (ends_below rs a) d).end → inserted rs a b ≡ rs

-- a range inside a run adds nothing
pub inserted-same : (n a b : ℕ) (d : Range ℕ) (rs : List (Range ℕ)) → RunsFrom n rs → a < b → Same rs a b d
inserted-same n a b d [] h lt = λ in' le le'. absurd (omega arith)
inserted-same n a b d (r ∷ rs) h lt =
    elim (cases_lt r.end a) as (λ _. Same (r ∷ rs) a b d) [
      | inl q ↦ rw (lt-ltb r.end a q) (λ in' le le'. ap (λ l. r ∷ l) (inserted-same (r.end + 1) a b d rs h.2 lt (omega arith) le le'))
      | inr q ↦ rw (le-ltb r.end a q) (λ in' le le'.
          let q2 : r.start ≤ b = omega arith in
          rw (le-ltb b r.start q2) (inserted-beyond (r.end + 1) (min a r.start) (max b r.end) rs h.2 (omega arith) (omega arith)
          ∙ ap (λ x. x ∷ rs) (range_at _ _ _ _ (omega arith) (omega arith))))
    ]

-- what `covered` says
abbrev IsCovered : List (Range ℕ) → ℕ → ℕ → Range ℕ → Type 0
IsCovered rs a b d =
    (ends_below rs a < length rs) × ((get_or rs (ends_below rs a) d).start ≤ a) × (b ≤ (get_or rs (ends_below rs a) d).end)

-- a range whose numbers are members is inside a run
pub covered : (n a b : ℕ) (d : Range ℕ) (rs : List (Range ℕ)) → RunsFrom n rs → a < b
    → ((y : ℕ) → a ≤ y → y < b → member rs y ≡ true) → IsCovered rs a b d
covered n a b d [] h lt all = absurd (false≢true (all a (omega arith) lt))
covered n a b d (r ∷ rs) h lt all =
    elim (cases_lt r.end a) as (λ _. IsCovered (r ∷ rs) a b d) [
      | inl q ↦ rw (lt-ltb r.end a q) (let ih : IsCovered rs a b d = covered (r.end + 1) a b d rs h.2 lt
          (λ y le le'. past r y (member rs y) (omega arith) (all y le le')) in (omega arith, ih.1, ih.2))
      | inr q ↦ rw (le-ltb r.end a q) (omega arith, low q, high q)
    ] where
      past : (r : Range ℕ) (y : ℕ) (m : Bool) → r.end < y + 1 → (in_range r y || m) ≡ true → m ≡ true
      past r y m q e = grind (arith, nat_tests)

      outside : (r : Range ℕ) (y : ℕ) (m : Bool) → (y < r.start) ⊎ (r.end ≤ y) → m ≡ false → (in_range r y || m) ≡ true → ⊥
      outside r y m q e e' = grind (arith, nat_tests)

      low : a ≤ r.end → r.start ≤ a
      low q = elim (cases_lt a r.start) [
        | inl lo ↦ absurd (outside r a (member rs a) (inl lo)
            (member-below (r.end + 1) a rs h.2 (omega arith)) (all a (omega arith) lt))
        | inr le ↦ le
      ]

      high : a ≤ r.end → b ≤ r.end
      high q = elim (cases_lt r.end b) [
        | inl lo ↦ absurd (outside r r.end (member rs r.end) (inr (omega arith))
            (member-below (r.end + 1) r.end rs h.2 (omega arith)) (all r.end q lo))
        | inr le ↦ le
      ]

-- the index that a partition by `ends_below`'s test returns
pub ends_below-place : (x i : ℕ) (rs : List (Range ℕ)) → i ≤ length rs
    → IsPartitionPoint (λ (r : Range ℕ). ltb r.end x ≡ true) (λ r. ltb r.end x ≡ false) rs i → ends_below rs x ≡ i
ends_below-place x i [] le p = omega arith
ends_below-place x zero (r ∷ rs) le p = rw (p.1 0 r (omega arith) (omega arith)) refl
ends_below-place x (suc i) (r ∷ rs) le p =
    rw (p.0 0 r (omega arith) (omega arith))
    (ap suc (ends_below-place x i rs (omega arith) (
      λ k d lo hi. p.0 (suc k) d (omega arith) (omega arith),
      λ k d lo hi. p.1 (suc k) d (omega arith) (omega arith),
    )))

pub starts_upto-place : (x i : ℕ) (rs : List (Range ℕ)) → i ≤ length rs
    → IsPartitionPoint (λ (r : Range ℕ). leb r.start x ≡ true) (λ r. leb r.start x ≡ false) rs i → starts_upto rs x ≡ i
starts_upto-place x i [] le p = omega arith
starts_upto-place x zero (r ∷ rs) le p = rw (p.1 0 r (omega arith) (omega arith)) refl
starts_upto-place x (suc i) (r ∷ rs) le p =
    rw (p.0 0 r (omega arith) (omega arith))
    (ap suc (starts_upto-place x i rs (omega arith) (
      λ k d lo hi. p.0 (suc k) d (omega arith) (omega arith),
      λ k d lo hi. p.1 (suc k) d (omega arith) (omega arith),
    )))

-- runs ascend
ascending : (n i j : ℕ) (d : Range ℕ) (rs : List (Range ℕ)) → RunsFrom n rs → i ≤ j → j < length rs
    → ((get_or rs i d).start ≤ (get_or rs j d).start) × ((get_or rs i d).end ≤ (get_or rs j d).end)
ascending n i j d [] h le lt = absurd (omega arith)
ascending n zero zero d (r ∷ rs) h le lt = (omega arith, omega arith)
ascending n zero (suc j) d (r ∷ rs) h le lt =
    let p = run-at (r.end + 1) j d rs h.2 (omega arith) in (omega arith, omega arith)
ascending n (suc i) zero d (r ∷ rs) h le lt = absurd (omega arith)
ascending n (suc i) (suc j) d (r ∷ rs) h le lt = ascending (r.end + 1) i j d rs h.2 (omega arith) (omega arith)

-- what `partition_point` requires
pub ends_partition : (x : ℕ) (rs : List (Range ℕ)) → IsMaximalRuns rs
    → IsPartitionedBy (λ (r : Range ℕ). ltb r.end x) rs
ends_partition x rs h i j d le lt e =
    lt-ltb _ _ (let p = ascending 0 i j d rs h le lt in let q = ltb-true _ _ e in omega arith)

pub starts_partition : (x : ℕ) (rs : List (Range ℕ)) → IsMaximalRuns rs
    → IsPartitionedBy (λ (r : Range ℕ). leb r.start x) rs
starts_partition x rs h i j d le lt e =
    le-leb _ _ (let p = ascending 0 i j d rs h le lt in let q = leb-true _ _ e in omega arith)

-- runs that end below a start before b
pub ends_below-starts_upto : (n a b : ℕ) (rs : List (Range ℕ)) → RunsFrom n rs → a < b
    → ends_below rs a ≤ starts_upto rs b
ends_below-starts_upto n a b [] h lt = omega arith
ends_below-starts_upto n a b (r ∷ rs) h lt =
    elim (cases_lt r.end a) as (λ _. ends_below (r ∷ rs) a ≤ starts_upto (r ∷ rs) b) [
      | inl q ↦ let q2 : r.start ≤ b = omega arith in let ih : ends_below rs a
          ≤ starts_upto rs b = ends_below-starts_upto (r.end + 1) a b rs h.2 lt in rw
          (lt-ltb r.end a q, le-leb r.start b q2) (omega arith)
      | inr q ↦ rw (le-ltb r.end a q) (omega arith)
    ]

-- a run that starts at x or before is counted
pub starts_upto-above : (n k x : ℕ) (d : Range ℕ) (rs : List (Range ℕ)) → RunsFrom n rs → k < length rs
    → (get_or rs k d).start ≤ x → k < starts_upto rs x
starts_upto-above n k x d [] h lt le = absurd (omega arith)
starts_upto-above n zero x d (r ∷ rs) h lt le = rw (le-leb r.start x le) (omega arith)
starts_upto-above n (suc k) x d (r ∷ rs) h lt le =
    let at = run-at (r.end + 1) k d rs h.2 (omega arith) in
    let q : r.start ≤ x = omega arith in
    let ih : k < starts_upto rs x = starts_upto-above (r.end + 1) k x d rs h.2 (omega arith) le in
    rw (le-leb r.start x q) (omega arith)

-- if a union with the range changes nothing, the range is inside a run
same_covered : (rs : List (Range ℕ)) (x d : Range ℕ) → IsMaximalRuns rs → x.start < x.end → IsRunsOf (in_union rs x) rs
    → IsCovered rs x.start x.end d
same_covered rs x d h lt same =
    covered 0 x.start x.end d rs h lt (λ y lo hi. inside y (member rs y) lo hi (same.1 y)) where
      inside : (y : ℕ) (m : Bool) → x.start ≤ y → y < x.end → m ≡ (m || in_range x y) → m ≡ true
      inside y m lo hi e = grind (arith, nat_tests)

-- the runs of the union
union_at : (rs ss : List (Range ℕ)) (x : Range ℕ) → IsMaximalRuns rs → x.start < x.end → inserted rs x.start x.end ≡ ss
    → IsRunsOf (in_union rs x) ss
union_at rs ss x h lt e =
    let P : List (Range ℕ) → Type 0 = IsRunsOf (in_union rs x) in subst P e (IsRunsOf-inserted x.start x.end rs h lt)

-- an insertion that touches no run
pub Splices-plain : (rs : List (Range ℕ)) (x : Range ℕ) (i j : ℕ) → IsMaximalRuns rs → x.start < x.end
    → i ≡ ends_below rs x.start → j ≡ starts_upto rs x.end → j ≤ i
    → Splices (in_union rs x) rs (record { from = i; to = i; by = One (range x.start x.end) })
Splices-plain rs x i j h lt ei ej le =
    let order : ends_below rs x.start ≤ starts_upto rs x.end = ends_below-starts_upto 0 x.start x.end rs h lt in
    let same_place : starts_upto rs x.end ≡ i = omega arith in
    record {
      fits = let q : ends_below rs x.start ≤ length rs = ends_below-length x.start rs in
          record { ordered = omega arith; within = omega arith; one_more = omega arith };
      runs = union_at rs _ x h lt (inserted-places 0 x.start x.end rs h lt
          ∙ rw (← ei, same_place, hull-none 0 x.start x.end rs h lt (omega arith)) refl);
      differs = λ same. let c : IsCovered rs x.start x.end x = same_covered rs x x h lt same in
          let above : ends_below rs x.start < starts_upto rs x.end = starts_upto-above 0 (ends_below rs x.start) x.end x
          rs h c.0 (omega arith) in omega arith;
    }

-- an insertion that touches the runs from i to below j, and does not lie inside one
pub Splices-touching : (rs : List (Range ℕ)) (x d : Range ℕ) (i j start end : ℕ) → IsMaximalRuns rs → x.start < x.end
    → i ≡ ends_below rs x.start → j ≡ starts_upto rs x.end → i < j
    → start ≡ min x.start (get_or rs i d).start → end ≡ max x.end (get_or rs (j - 1) d).end
    → ((get_or rs i d).start ≤ x.start → x.end ≤ (get_or rs i d).end → ⊥)
    → Splices (in_union rs x) rs (record { from = i; to = j; by = One (range start end) })
Splices-touching rs x d i j start end h lt ei ej le es ee out =
    record {
      fits = let q : starts_upto rs x.end ≤ length rs = starts_upto-length x.end rs in
          record { ordered = omega arith; within = omega arith; one_more = omega arith };
      runs = union_at rs _ x h lt (inserted-places 0 x.start x.end rs h lt
          ∙ rw (← ei, ← ej, hull-at 0 x.start x.end (j - 1) d rs h lt (omega arith) (omega arith), ← ei, ← es, ← ee) refl);
      differs = λ same. let c : IsCovered rs x.start x.end d = same_covered rs x d h lt same in
          let at : IsCovered rs x.start x.end d → ((get_or rs i d).start ≤ x.start) × (x.end ≤ (get_or rs i d).end) =
          rw ei (λ q. (q.1, q.2)) in
          out (at c).0 (at c).1;
    }

-- an insertion inside a run
pub IsRunsOf-inside : (rs : List (Range ℕ)) (x d : Range ℕ) (i : ℕ) → IsMaximalRuns rs → x.start < x.end
    → i ≡ ends_below rs x.start → i < length rs
    → (get_or rs i d).start ≤ x.start → x.end ≤ (get_or rs i d).end → IsRunsOf (in_union rs x) rs
IsRunsOf-inside rs x d i h lt ei in' =
    let at : Same rs x.start x.end d = inserted-same 0 x.start x.end d rs h lt in
    let at' : i < length rs → (get_or rs i d).start ≤ x.start → x.end ≤ (get_or rs i d).end
    → inserted rs x.start x.end ≡ rs =
    rw ei at in
    λ le le'. union_at rs rs x h lt (at' in' le le')
