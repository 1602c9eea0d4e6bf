-- What a removal from a list of runs does, by the indices at which it begins and ends.
use Rattle.std.proofs.Common.{◌≡◌, ℕ, ◌+◌, ◌-◌, ◌<◌, ◌≤◌, suc, zero, min, max, Bool, true, false, cond, ◌&&◌, ◌||◌, not, ltb, List, [], ◌∷◌, ◌++◌, take, drop, length, get_or, refl, ap, sym, ◌∙◌, subst, arith, ◌⊎◌, inl, inr, append_assoc}
use Rattle.std.proofs.lemmas.List.{append-nil}
use Rattle.std.proofs.lemmas.Bool.{lt-ltb, le-ltb, le-leb, lt-leb, cases_lt}
use Rattle.std.proofs.lemmas.Bool.Decides.{nat_tests}
use Rattle.std.specs.declared.ops.Range.{Range}
use Rattle.quic_ranges.specs.Intersections.{as_runs}
use Rattle.quic_ranges.specs.Runs.{in_range, member, in_difference, RunsFrom, IsMaximalRuns, IsRunsOf}
use Rattle.quic_ranges.specs.Places.{ends_below, starts_upto}
use Rattle.quic_ranges.specs.declared.range_set.sorted_runs.Substitute.{Substitute}
use Rattle.quic_ranges.specs.declared.range_set.sorted_runs.Substitute.TheVariants.{Nothing, One, Two}
use Rattle.quic_ranges.specs.Splices.{substitutes, Splices}
use Rattle.quic_ranges.proofs.RunsLemmas.{range, removed, member-below, IsRunsOf-removed}
use Rattle.quic_ranges.proofs.PlacesLemmas.{ends_below-none, run-at, starts_upto-length}

-- what is left of the runs that a..b overlaps
abbrev pub rest : List (Range ℕ) → ℕ → ℕ → List (Range ℕ)
rest [] a b = []
rest (r ∷ rs) a b =
    cond (ltb r.end (suc a)) (rest rs a b) (cond (ltb r.start b)
    (as_runs r.start (min r.end a) ++ (as_runs (max r.start b) r.end ++ rest rs a b)) [])

pub as_runs-full : (a b : ℕ) → a < b → as_runs a b ≡ range a b ∷ []
as_runs-full a b lt = rw (lt-ltb a b lt) refl

pub as_runs-empty : (a b : ℕ) → b ≤ a → as_runs a b ≡ []
as_runs-empty a b le = rw (le-ltb a b le) refl

-- a run that the range does not overlap stays
pub removed-kept : (a b : ℕ) (r : Range ℕ) (rs : List (Range ℕ)) → r.start < r.end → a < b → (r.end ≤ a) ⊎ (b ≤ r.start)
    → removed (r ∷ rs) a b ≡ r ∷ removed rs a b
removed-kept a b r rs h lt (inl le) =
    let e1 : min r.end a ≡ r.end = omega arith in
    let e2 : r.end ≤ max r.start b = omega arith in
    rw (e1, as_runs-full r.start r.end h, as_runs-empty (max r.start b) r.end e2) refl
removed-kept a b r rs h lt (inr le) =
    let e1 : min r.end a ≤ r.start = omega arith in
    let e2 : max r.start b ≡ r.start = omega arith in
    rw (as_runs-empty r.start (min r.end a) e1, e2, as_runs-full r.start r.end h) refl

-- runs that begin at the range's end or later stay
pub removed-beyond : (n a b : ℕ) (rs : List (Range ℕ)) → RunsFrom n rs → a < b → b ≤ n → removed rs a b ≡ rs
removed-beyond n a b [] h lt le = refl
removed-beyond n a b (r ∷ rs) h lt le =
    removed-kept a b r rs h.1 lt (inr (omega arith))
    ∙ ap (λ l. r ∷ l) (removed-beyond (r.end + 1) a b rs h.2 lt (omega arith))

-- a removal, by indices: the runs that end at a or before, what is left of the next, and those that start at b or
-- later; b is m + 1
pub removed-places : (n a m : ℕ) (rs : List (Range ℕ)) → RunsFrom n rs → a ≤ m
    → removed rs a (suc m) ≡ take (ends_below rs (suc a)) rs ++ (rest rs a (suc m) ++ drop (starts_upto rs m) rs)
removed-places n a m [] h le = refl
removed-places n a m (r ∷ rs) h le =
    elim (cases_lt r.end (suc a)) as (λ _. removed (r ∷ rs) a (suc m) ≡ take (ends_below (r ∷ rs) (suc a)) (r ∷ rs)
    ++ (rest (r ∷ rs) a (suc m) ++ drop (starts_upto (r ∷ rs) m) (r ∷ rs))) [
      | inl q ↦ let q2 : r.start ≤ m = omega arith in
          removed-kept a (suc m) r rs h.1 (omega arith) (inl (omega arith))
          ∙ rw (lt-ltb r.end (suc a) q, le-leb r.start m q2) (ap (λ l. r ∷ l) (removed-places (r.end + 1) a m rs h.2 le))
      | inr q ↦ elim (cases_lt r.start (suc m)) as (λ _. removed (r ∷ rs) a (suc m)
          ≡ take (ends_below (r ∷ rs) (suc a)) (r ∷ rs) ++ (rest (r ∷ rs) a (suc m)
          ++ drop (starts_upto (r ∷ rs) m) (r ∷ rs))) [
            | inl q2 ↦ let q3 : r.start ≤ m = omega arith in
                rw (le-ltb r.end (suc a) q, lt-ltb r.start (suc m) q2, le-leb r.start m q3)
                (ap (λ l. as_runs r.start (min r.end a) ++ (as_runs (max r.start (suc m)) r.end ++ l))
                (removed-places (r.end + 1) a m rs h.2 le ∙ rw (ends_below-none (r.end + 1) (suc a) rs h.2 (omega arith)) refl)
                ∙ sym (append_assoc (as_runs r.start (min r.end a))
                (as_runs (max r.start (suc m)) r.end ++ rest rs a (suc m)) (drop (starts_upto rs m) rs)
                ∙ ap (λ l. as_runs r.start (min r.end a) ++ l) (append_assoc (as_runs (max r.start (suc m)) r.end)
                (rest rs a (suc m)) (drop (starts_upto rs m) rs))))
            | inr q2 ↦ let q3 : m < r.start = omega arith in
                removed-kept a (suc m) r rs h.1 (omega arith) (inr q2)
                ∙ rw (le-ltb r.end (suc a) q, le-ltb r.start (suc m) q2, lt-leb r.start m q3)
                (ap (λ l. r ∷ l) (removed-beyond (r.end + 1) a (suc m) rs h.2 (omega arith) (omega arith)))
          ]
    ]

-- nothing is left of no run
rest-none : (n a m : ℕ) (rs : List (Range ℕ)) → RunsFrom n rs → a ≤ m → starts_upto rs m ≡ 0 → rest rs a (suc m) ≡ []
rest-none n a m [] h le = λ e. refl
rest-none n a m (r ∷ rs) h le =
    elim (cases_lt m r.start) as (λ _. starts_upto (r ∷ rs) m ≡ 0 → rest (r ∷ rs) a (suc m) ≡ []) [
      | inl q ↦ let q1 : suc a ≤ r.end = omega arith in λ e. rw (le-ltb r.end (suc a) q1, le-ltb r.start (suc m) q) refl
      | inr q ↦ rw (le-leb r.start m q) (λ e. absurd (omega arith))
    ]

-- the first run starts at m or before if any does
first_starts : (m k : ℕ) (d : Range ℕ) (rs : List (Range ℕ)) → starts_upto rs m ≡ suc k → (get_or rs 0 d).start ≤ m
first_starts m k d [] = λ e. absurd (omega arith)
first_starts m k d (r ∷ rs) =
    elim (cases_lt m r.start) as (λ _. starts_upto (r ∷ rs) m ≡ suc k → (get_or (r ∷ rs) 0 d).start ≤ m)
    [ inl q ↦ rw (lt-leb r.start m q) (λ e. absurd (omega arith)) | inr q ↦ λ _. q ]

-- what `rest-at` says
abbrev RestAt : List (Range ℕ) → ℕ → ℕ → ℕ → Range ℕ → Type 0
RestAt rs a m k d =
    starts_upto rs m ≡ suc k → ends_below rs (suc a) ≤ k → rest rs a (suc m)
    ≡ as_runs (get_or rs (ends_below rs (suc a)) d).start a ++ as_runs (suc m) (get_or rs k d).end

-- what is left, by the first and the last run that the range overlaps
pub rest-at : (n a m k : ℕ) (d : Range ℕ) (rs : List (Range ℕ)) → RunsFrom n rs → a ≤ m → RestAt rs a m k d
rest-at n a m k d [] h le = λ is le'. absurd (omega arith)
rest-at n a m zero d (r ∷ rs) h le =
    elim (cases_lt r.end (suc a)) as (λ _. RestAt (r ∷ rs) a m 0 d) [
      | inl q ↦ rw (lt-ltb r.end (suc a) q) (λ is le'. absurd (omega arith))
      | inr q ↦ elim (cases_lt m r.start) as (λ _. RestAt (r ∷ rs) a m 0 d) [
        | inl q2 ↦ rw (lt-leb r.start m q2) (λ is le'. absurd (omega arith))
        | inr q2 ↦ let q3 : r.start < suc m = omega arith in
            let e1 : min r.end a ≡ a = omega arith in
            let e2 : max r.start (suc m) ≡ suc m = omega arith in
            rw (le-ltb r.end (suc a) q, lt-ltb r.start (suc m) q3, le-leb r.start m q2) (λ is le'.
            ap (λ l. as_runs r.start (min r.end a) ++ (as_runs (max r.start (suc m)) r.end ++ l))
            (rest-none (r.end + 1) a m rs h.2 le (omega arith))
            ∙ ap (λ l. as_runs r.start (min r.end a) ++ l) (append-nil (as_runs (max r.start (suc m)) r.end))
            ∙ rw (e1, e2) refl)
      ]
    ]
rest-at n a m (suc k) d (r ∷ rs) h le =
    elim (cases_lt r.end (suc a)) as (λ _. RestAt (r ∷ rs) a m (suc k) d) [
      | inl q ↦ let q2 : r.start ≤ m = omega arith in rw (lt-ltb r.end (suc a) q, le-leb r.start m q2)
          (λ is le'. rest-at (r.end + 1) a m k d rs h.2 le (omega arith) (omega arith))
      | inr q ↦ elim (cases_lt m r.start) as (λ _. RestAt (r ∷ rs) a m (suc k) d) [
        | inl q2 ↦ rw (lt-leb r.start m q2) (λ is le'. absurd (omega arith))
        | inr q2 ↦ let q3 : r.start < suc m = omega arith in
            rw (le-ltb r.end (suc a) q, lt-ltb r.start (suc m) q3, le-leb r.start m q2) (λ is le'.
            let first : ends_below rs (suc a) ≡ 0 = ends_below-none (r.end + 1) (suc a) rs h.2 (omega arith) in
            let fits : starts_upto rs m ≤ length rs = starts_upto-length m rs in
            let at0 : (r.end + 1 ≤ (get_or rs 0 d).start) × ((get_or rs 0 d).start < (get_or rs 0 d).end) =
            run-at (r.end + 1) 0 d rs h.2 (omega arith) in
            let near : (get_or rs 0 d).start ≤ m = first_starts m k d rs (omega arith) in
            let e1 : min r.end a ≡ a = omega arith in
            let e2 : r.end ≤ max r.start (suc m) = omega arith in
            let e3 : a ≤ (get_or rs 0 d).start = omega arith in
            let step : rest rs a (suc m) ≡ as_runs (get_or rs (ends_below rs (suc a)) d).start a ++ as_runs (suc m) (get_or rs k d).end =
            rest-at (r.end + 1) a m k d rs h.2 le (omega arith) (omega arith) in
            let none : as_runs (get_or rs (ends_below rs (suc a)) d).start a ++ as_runs (suc m) (get_or rs k d).end
            ≡ as_runs (suc m) (get_or rs k d).end =
            rw (first, as_runs-empty (get_or rs 0 d).start a e3) refl in
            ap (λ l. as_runs r.start (min r.end a) ++ (as_runs (max r.start (suc m)) r.end ++ l)) (step ∙ none)
            ∙ rw (e1, as_runs-empty (max r.start (suc m)) r.end e2) refl)
      ]
    ]

-- if no run is overlapped, nothing is removed
removed-none : (n a m : ℕ) (rs : List (Range ℕ)) → RunsFrom n rs → a ≤ m → starts_upto rs m ≤ ends_below rs (suc a)
    → removed rs a (suc m) ≡ rs
removed-none n a m [] h le = λ e. refl
removed-none n a m (r ∷ rs) h le =
    elim (cases_lt r.end (suc a)) as (λ _. starts_upto (r ∷ rs) m ≤ ends_below (r ∷ rs) (suc a) → removed (r ∷ rs) a (suc m) ≡ r ∷ rs) [
      | inl q ↦ let q2 : r.start ≤ m = omega arith in
          let kept = removed-kept a (suc m) r rs h.1 (omega arith) (inl (omega arith)) in
          rw (lt-ltb r.end (suc a) q, le-leb r.start m q2) (λ e. kept
          ∙ ap (λ l. r ∷ l) (removed-none (r.end + 1) a m rs h.2 le (omega arith)))
      | inr q ↦ elim (cases_lt m r.start) as (λ _. starts_upto (r ∷ rs) m ≤ ends_below (r ∷ rs) (suc a)
          → removed (r ∷ rs) a (suc m) ≡ r ∷ rs) [
            | inl q2 ↦ λ e. removed-kept a (suc m) r rs h.1 (omega arith) (inr q2)
                ∙ ap (λ l. r ∷ l) (removed-beyond (r.end + 1) a (suc m) rs h.2 (omega arith) (omega arith))
            | inr q2 ↦ rw (le-ltb r.end (suc a) q, le-leb r.start m q2) (λ e. absurd (omega arith))
          ]
    ]

-- the run after those that end below x ends at x or later
pub ends_below-at : (x : ℕ) (d : Range ℕ) (rs : List (Range ℕ)) → ends_below rs x < length rs
    → x ≤ (get_or rs (ends_below rs x) d).end
ends_below-at x d [] = λ lt. absurd (omega arith)
ends_below-at x d (r ∷ rs) =
    elim (cases_lt r.end x) as (λ _. ends_below (r ∷ rs) x < length (r ∷ rs) → x ≤ (get_or (r ∷ rs) (ends_below (r ∷ rs) x) d).end)
    [ inl q ↦ rw (lt-ltb r.end x q) (λ lt. ends_below-at x d rs (omega arith)) | inr q ↦ rw (le-ltb r.end x q) (λ lt. q) ]

-- a run that is counted starts at x or before
pub starts_upto-at : (x k : ℕ) (d : Range ℕ) (rs : List (Range ℕ)) → k < starts_upto rs x → (get_or rs k d).start ≤ x
starts_upto-at x k d [] = λ lt. absurd (omega arith)
starts_upto-at x zero d (r ∷ rs) = elim (cases_lt x r.start) as (λ _. 0 < starts_upto (r ∷ rs) x → r.start ≤ x)
    [ inl q ↦ rw (lt-leb r.start x q) (λ lt. absurd (omega arith)) | inr q ↦ λ _. q ]
starts_upto-at x (suc k) d (r ∷ rs) =
    elim (cases_lt x r.start) as (λ _. suc k < starts_upto (r ∷ rs) x → (get_or rs k d).start ≤ x) [
      | inl q ↦ rw (lt-leb r.start x q) (λ lt. absurd (omega arith))
      | inr q ↦ rw (le-leb r.start x q)
          (λ lt. starts_upto-at x k d rs (omega arith))
    ]

-- the numbers of a run are members
pub member-at : (k y : ℕ) (d : Range ℕ) (rs : List (Range ℕ)) → k < length rs → (get_or rs k d).start ≤ y
    → y < (get_or rs k d).end → member rs y ≡ true
member-at k y d [] lt lo hi = absurd (omega arith)
member-at zero y d (r ∷ rs) lt lo hi = here (member rs y) where
  here : (m : Bool) → (in_range r y || m) ≡ true
  here m = grind (arith, nat_tests)
member-at (suc k) y d (r ∷ rs) lt lo hi =
    there (in_range r y) (member rs y) (member-at k y d rs (omega arith) lo hi) where
      there : (i m : Bool) → m ≡ true → (i || m) ≡ true
      there i m e = grind (arith, nat_tests)

difference_at : (rs ss : List (Range ℕ)) (x : Range ℕ) → IsMaximalRuns rs → x.start < x.end
    → removed rs x.start x.end ≡ ss → IsRunsOf (in_difference rs x) ss
difference_at rs ss x h lt e =
    let P : List (Range ℕ) → Type 0 = IsRunsOf (in_difference rs x) in subst P e (IsRunsOf-removed x.start x.end rs h lt)

-- a range that overlaps no run removes nothing
pub IsRunsOf-apart : (rs : List (Range ℕ)) (x : Range ℕ) (i j : ℕ) → IsMaximalRuns rs → x.start < x.end
    → i ≡ ends_below rs (x.start + 1) → j ≡ starts_upto rs (x.end - 1) → j ≤ i → IsRunsOf (in_difference rs x) rs
IsRunsOf-apart rs x i j h lt ei ej le =
    let one : suc (x.end - 1) ≡ x.end = omega arith in
    let plus_one : suc x.start ≡ x.start + 1 = omega arith in
    let ei' : ends_below rs (suc x.start) ≡ i = ap (ends_below rs) plus_one ∙ sym ei in
    let fewer : starts_upto rs (x.end - 1) ≤ ends_below rs (suc x.start) = omega arith in
    difference_at rs rs x h lt (ap (removed rs x.start) (sym one) ∙ removed-none 0 x.start (x.end - 1) rs h (omega arith) fewer)

-- at most two runs replace others
substitutes_most : (by : Substitute) → length (substitutes by) ≤ 2
substitutes_most Nothing = omega arith
substitutes_most (One r) = omega arith
substitutes_most (Two r s) = omega arith

-- a removal from the runs from i to below j
pub Splices-removal : (rs : List (Range ℕ)) (x d : Range ℕ) (i j first_start last_end : ℕ) (by : Substitute)
    → IsMaximalRuns rs → x.start < x.end → i ≡ ends_below rs (x.start + 1) → j ≡ starts_upto rs (x.end - 1) → i < j
    → first_start ≡ (get_or rs i d).start → last_end ≡ (get_or rs (j - 1) d).end
    → substitutes by ≡ as_runs first_start x.start ++ as_runs x.end last_end
    → Splices (in_difference rs x) rs (record { from = i; to = j; by = by })
Splices-removal rs x d i j first_start last_end by h lt ei ej le es ee eb =
    let one : suc (x.end - 1) ≡ x.end = omega arith in
    let plus_one : suc x.start ≡ x.start + 1 = omega arith in
    let ei' : ends_below rs (suc x.start) ≡ i = ap (ends_below rs) plus_one ∙ sym ei in
    let within : starts_upto rs (x.end - 1) ≤ length rs = starts_upto-length (x.end - 1) rs in
    let most : length (substitutes by) ≤ 2 = substitutes_most by in
    let what : rest rs x.start (suc (x.end - 1)) ≡ substitutes by =
    rest-at 0 x.start (x.end - 1) (j - 1) d rs h (omega arith) (omega arith) (omega arith)
    ∙ rw (ei', ← es, ← ee, one) (sym eb) in
    record {
      fits = record { ordered = omega arith; within = omega arith; one_more = omega arith };
      runs = difference_at rs _ x h lt (ap (removed rs x.start) (sym one)
          ∙ removed-places 0 x.start (x.end - 1) rs h (omega arith) ∙ rw (what, ei', ← ej) refl);
      differs = λ same.
          let hi : suc x.start ≤ (get_or rs i d).end =
          subst (λ k. suc x.start ≤ (get_or rs k d).end) ei' (ends_below-at (suc x.start) d rs (omega arith)) in
          let lo : (get_or rs i d).start ≤ x.end - 1 = starts_upto-at (x.end - 1) i d rs (omega arith) in
          let run : (0 ≤ (get_or rs i d).start) × ((get_or rs i d).start < (get_or rs i d).end) =
          run-at 0 i d rs h (omega arith) in
          taken (max x.start (get_or rs i d).start) (member rs (max x.start (get_or rs i d).start)) (omega arith) (omega arith)
          (member-at i (max x.start (get_or rs i d).start) d rs (omega arith) (omega arith) (omega arith))
          (same.1 (max x.start (get_or rs i d).start));
    } where
      taken : (y : ℕ) (m : Bool) → x.start ≤ y → y < x.end → m ≡ true → m ≡ (m && not (in_range x y)) → ⊥
      taken y m lo hi e e' = grind (arith, nat_tests)

-- no run holds a number before which none starts
pub member-before : (n y : ℕ) (rs : List (Range ℕ)) → RunsFrom n rs → starts_upto rs y ≡ 0 → member rs y ≡ false
member-before n y [] h = λ e. refl
member-before n y (r ∷ rs) h =
    elim (cases_lt y r.start) as (λ _. starts_upto (r ∷ rs) y ≡ 0 → member (r ∷ rs) y ≡ false) [
      | inl lt ↦ λ e. member-below r.start y (r ∷ rs) (omega arith, h.1, h.2) lt
      | inr le ↦ rw (le-leb r.start y le) (λ e. absurd (omega arith))
    ]

-- a number is a member exactly when the last run that starts there or before ends after it
pub member-place : (n y k : ℕ) (d : Range ℕ) (rs : List (Range ℕ)) → RunsFrom n rs → starts_upto rs y ≡ suc k
    → member rs y ≡ ltb y (get_or rs k d).end
member-place n y k d [] h = λ e. absurd (omega arith)
member-place n y zero d (r ∷ rs) h =
    elim (cases_lt y r.start) as (λ _. starts_upto (r ∷ rs) y ≡ 1 → member (r ∷ rs) y ≡ ltb y r.end) [
      | inl lt ↦ rw (lt-leb r.start y lt) (λ e. absurd (omega arith))
      | inr le ↦ rw (le-leb r.start y le) (λ e. last (ltb y r.end) (member rs y) (member-before (r.end + 1) y rs h.2 (omega arith)))
    ] where
      last : (i m : Bool) → m ≡ false → (i || m) ≡ i
      last i m e = grind (arith, nat_tests)
member-place n y (suc k) d (r ∷ rs) h =
    elim (cases_lt y r.start) as (λ _. starts_upto (r ∷ rs) y ≡ suc (suc k) → member (r ∷ rs) y ≡ ltb y (get_or rs k d).end) [
      | inl lt ↦ rw (lt-leb r.start y lt) (λ e. absurd (omega arith))
      | inr le ↦ rw (le-leb r.start y le) (λ e.
          let fits : starts_upto rs y ≤ length rs = starts_upto-length y rs in
          let at : (r.end + 1 ≤ (get_or rs k d).start) × ((get_or rs k d).start < (get_or rs k d).end) =
          run-at (r.end + 1) k d rs h.2 (omega arith) in
          let near : (get_or rs k d).start ≤ y = starts_upto-at y k d rs (omega arith) in
          past r y (member rs y) (ltb y (get_or rs k d).end) (omega arith) (member-place (r.end + 1) y k d rs h.2 (omega arith)))
    ] where
      past : (r : Range ℕ) (y : ℕ) (m i : Bool) → r.end ≤ y → m ≡ i → (ltb y r.end || m) ≡ i
      past r y m i le e = grind (arith, nat_tests)
