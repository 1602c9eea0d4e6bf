-- What an insertion or a removal makes of runs.
use Rattle.std.proofs.Common.{◌≡◌, ℕ, suc, ◌+◌, ◌-◌, ◌<◌, ◌≤◌, min, max, Bool, true, ◌&&◌, ◌||◌, not, List, ◌∷◌, ◌++◌, length, take, drop, get_or, refl, sym, ap, subst, ◌∙◌, arith}
use Rattle.std.proofs.lemmas.Bool.Decides.{nat_tests}
use Rattle.std.proofs.lemmas.List.{map-append, take-map, drop-map}
use Rattle.std.specs.declared.ops.Range.{Range}
use Rattle.quic_ranges.specs.Intersections.{as_runs}
use Rattle.quic_ranges.specs.Places.{ends_below, starts_upto}
use Rattle.quic_ranges.specs.Runs.{in_range, member, in_union, in_difference, IsMaximalRuns, IsRunsOf}
use Rattle.quic_ranges.specs.Splices.{BecomesRunsOf}
use Rattle.quic_ranges.proofs.RunsLemmas.{range, inserted, removed, IsRunsOf-inserted, IsRunsOf-removed}
use Rattle.quic_ranges.proofs.PlacesLemmas.{IsRunsOf-inside, covered, ends_below-length, ends_below-starts_upto, hull-at, hull-none, inserted-places, run-at, starts_upto-above, starts_upto-length}
use Rattle.quic_ranges.proofs.RemovalLemmas.{ends_below-at, member-at, removed-places, rest, rest-at, starts_upto-at}
use Rattle.quic_c_entries.specs.declared.words.CRange.{CRange}
use Rattle.quic_c_entries.specs.declared.change.Splice.{Splice}
use Rattle.quic_c_entries.specs.declared.change.Substitute.{Substitute}
use Rattle.quic_c_entries.specs.declared.change.Substitute.TheVariants.{Nothing, One, Two}
use Rattle.quic_c_entries.specs.Entries.{range_of, runs_of}
use Rattle.quic_c_entries.specs.Changes.{FitsRoom, Plans, after_change, words_of}
use Rattle.quic_c_entries.proofs.Placing.{many, nowhere, run_at}

-- the ranges after a change
after_ranges : (words : List CRange) (s : Splice)
    → runs_of (after_change words s) ≡ take s.from (runs_of words) ++ (runs_of (words_of s.by) ++ drop s.to (runs_of words))
after_ranges words s =
    map-append range_of (take s.from words) (words_of s.by ++ drop s.to words)
    ∙ ap (λ (l : List (Range ℕ)). runs_of (take s.from words) ++ l) (map-append range_of (words_of s.by) (drop s.to words))
    ∙ rw (take-map range_of s.from words, drop-map range_of s.to words) refl

plans : (test : ℕ → Bool) (words : List CRange) (s : Splice) → FitsRoom words s
    → BecomesRunsOf test (runs_of words) (take s.from (runs_of words) ++ (runs_of (words_of s.by) ++ drop s.to (runs_of words)))
    → Plans test words s
plans test words s fits runs =
    record { fits = fits; runs = subst (BecomesRunsOf test (runs_of words)) (sym (after_ranges words s)) runs }

-- ---- insertions

abbrev IsCovered : List (Range ℕ) → Range ℕ → ℕ → Range ℕ → Type 0
IsCovered rs x at d = (at < length rs) × ((get_or rs at d).start ≤ x.start) × (x.end ≤ (get_or rs at d).end)

-- if a union with the range changes nothing, the range is inside a run
same_covered : (rs : List (Range ℕ)) (x d : Range ℕ) → IsMaximalRuns rs → x.start < x.end → IsRunsOf (in_union rs x) rs
    → IsCovered rs x (ends_below rs x.start) d
same_covered rs x d h lt same =
    covered 0 x.start x.end d rs h lt (λ y lo hi. inside y (member rs y) lo hi (same.1 y)) where
      inside : (y : ℕ) (m : Bool) → x.start ≤ y → y < x.end → m ≡ (m || in_range x y) → m ≡ true
      inside y m lo hi e = grind (arith, nat_tests)

union_at : (rs ss : List (Range ℕ)) (x : Range ℕ) → IsMaximalRuns rs → x.start < x.end → inserted rs x.start x.end ≡ ss
    → IsRunsOf (in_union rs x) ss
union_at rs ss x h lt e =
    let P : List (Range ℕ) → Type 0 = IsRunsOf (in_union rs x) in subst P e (IsRunsOf-inserted x.start x.end rs h lt)

-- an insertion that touches no run
becomes_plain : (rs : List (Range ℕ)) (x : Range ℕ) (i j : ℕ) → IsMaximalRuns rs → x.start < x.end
    → i ≡ ends_below rs x.start → j ≡ starts_upto rs x.end → j ≤ i
    → BecomesRunsOf (in_union rs x) rs (take i rs ++ range x.start x.end ∷ drop i rs)
becomes_plain rs x i j h lt ei ej le =
    let order : ends_below rs x.start ≤ starts_upto rs x.end = ends_below-starts_upto 0 x.start x.end rs h lt in
    let same_place : starts_upto rs x.end ≡ i = omega arith in
    record {
      runs = union_at rs _ x h lt (inserted-places 0 x.start x.end rs h lt
          ∙ rw (← ei, same_place, hull-none 0 x.start x.end rs h lt (omega arith)) refl);
      differs = λ same. let c : IsCovered rs x (ends_below rs x.start) x = same_covered rs x x h lt same in
          let above : ends_below rs x.start < starts_upto rs x.end = starts_upto-above 0 (ends_below rs x.start) x.end x
          rs h c.0 (omega arith) in omega arith;
    }

-- an insertion that touches the runs from i to below j, and does not lie inside one
becomes_touching : (rs : List (Range ℕ)) (x d : Range ℕ) (i j start end : ℕ) → IsMaximalRuns rs → x.start < x.end
    → i ≡ ends_below rs x.start → j ≡ starts_upto rs x.end → i < j
    → start ≡ min x.start (get_or rs i d).start → end ≡ max x.end (get_or rs (j - 1) d).end
    → ((get_or rs i d).start ≤ x.start → x.end ≤ (get_or rs i d).end → ⊥)
    → BecomesRunsOf (in_union rs x) rs (take i rs ++ range start end ∷ drop j rs)
becomes_touching rs x d i j start end h lt ei ej le es ee out =
    record {
      runs = union_at rs _ x h lt (inserted-places 0 x.start x.end rs h lt
          ∙ rw (← ei, ← ej, hull-at 0 x.start x.end (j - 1) d rs h lt (omega arith) (omega arith), ← ei, ← es, ← ee) refl);
      differs = λ same. let c : IsCovered rs x (ends_below rs x.start) d = same_covered rs x d h lt same in
          let at : IsCovered rs x (ends_below rs x.start) d
          → ((get_or rs i d).start ≤ x.start) × (x.end ≤ (get_or rs i d).end) =
          rw ei (λ q. (q.1, q.2)) in
          out (at c).0 (at c).1;
    }

pub plan_plain : (words : List CRange) (x : CRange) (i j : ℕ) → IsMaximalRuns (runs_of words) → x.start < x.end
    → i ≡ ends_below (runs_of words) x.start → j ≡ starts_upto (runs_of words) x.end → j ≤ i
    → Plans (in_union (runs_of words) (range_of x)) words (record { from = i; to = i; by = One x })
plan_plain words x i j h lt ei ej le =
    let within = ends_below-length x.start (runs_of words) in
    plans _ words (record { from = i; to = i; by = One x }) (record
    { ordered = omega arith; within = omega (arith, ei, within, many words); one_more = omega arith })
    (becomes_plain (runs_of words) (range_of x) i j h lt ei ej le)

pub plan_touching : (words : List CRange) (x : CRange) (i j start end : ℕ) → IsMaximalRuns (runs_of words)
    → x.start < x.end
    → i ≡ ends_below (runs_of words) x.start → j ≡ starts_upto (runs_of words) x.end → i < j
    → start ≡ min x.start (get_or words i nowhere).start → end ≡ max x.end (get_or words (j - 1) nowhere).end
    → ((get_or words i nowhere).start ≤ x.start → x.end ≤ (get_or words i nowhere).end → ⊥)
    → Plans (in_union (runs_of words) (range_of x)) words (record { from = i; to = j; by = One (record { start = start; end = end }) })
plan_touching words x i j start end h lt ei ej le es ee out =
    let within = starts_upto-length x.end (runs_of words) in
    let d = range 0 0 in
    let first : start ≡ min x.start (get_or (runs_of words) i d).start = rw (run_at words i) es in
    let last : end ≡ max x.end (get_or (runs_of words) (j - 1) d).end = rw (run_at words (j - 1)) ee in
    let outside : (get_or (runs_of words) i d).start ≤ x.start → x.end ≤ (get_or (runs_of words) i d).end → ⊥ =
    rw (run_at words i) out in
    plans _ words (record { from = i; to = j; by = One (record { start = start; end = end }) })
    (record { ordered = omega (arith, le); within = omega (arith, ej, within, many words); one_more = omega (arith, le) })
    (becomes_touching (runs_of words) (range_of x) d i j start end h lt ei ej le first last outside)

pub plan_inside : (words : List CRange) (x : CRange) (i : ℕ) → IsMaximalRuns (runs_of words) → x.start < x.end
    → i ≡ ends_below (runs_of words) x.start → i < length words
    → (get_or words i nowhere).start ≤ x.start → x.end ≤ (get_or words i nowhere).end
    → IsRunsOf (in_union (runs_of words) (range_of x)) (runs_of words)
plan_inside words x i h lt ei in' lo hi =
    let d = range 0 0 in
    let from : (get_or (runs_of words) i d).start ≤ x.start = rw (run_at words i) lo in
    let to : x.end ≤ (get_or (runs_of words) i d).end = rw (run_at words i) hi in
    IsRunsOf-inside (runs_of words) (range_of x) d i h lt ei (omega (arith, in', many words)) from to

-- ---- removals

difference_at : (rs ss : List (Range ℕ)) (x : Range ℕ) → IsMaximalRuns rs → x.start < x.end
    → removed rs x.start x.end ≡ ss → IsRunsOf (in_difference rs x) ss
difference_at rs ss x h lt e =
    let P : List (Range ℕ) → Type 0 = IsRunsOf (in_difference rs x) in subst P e (IsRunsOf-removed x.start x.end rs h lt)

-- a removal from the runs from i to below j
becomes_less : (rs left : List (Range ℕ)) (x d : Range ℕ) (i j first_start last_end : ℕ) → IsMaximalRuns rs
    → x.start < x.end
    → i ≡ ends_below rs (x.start + 1) → j ≡ starts_upto rs (x.end - 1) → i < j
    → first_start ≡ (get_or rs i d).start → last_end ≡ (get_or rs (j - 1) d).end
    → left ≡ as_runs first_start x.start ++ as_runs x.end last_end
    → BecomesRunsOf (in_difference rs x) rs (take i rs ++ (left ++ drop j rs))
becomes_less rs left x d i j first_start last_end h lt ei ej le es ee eb =
    let one : suc (x.end - 1) ≡ x.end = omega arith in
    let plus_one : suc x.start ≡ x.start + 1 = omega arith in
    let ei' : ends_below rs (suc x.start) ≡ i = ap (ends_below rs) plus_one ∙ sym ei in
    let within : starts_upto rs (x.end - 1) ≤ length rs = starts_upto-length (x.end - 1) rs in
    let what : rest rs x.start (suc (x.end - 1)) ≡ left =
    rest-at 0 x.start (x.end - 1) (j - 1) d rs h (omega arith) (omega arith) (omega arith)
    ∙ rw (ei', ← es, ← ee, one) (sym eb) in
    record {
      runs = difference_at rs _ x h lt (ap (removed rs x.start) (sym one)
          ∙ removed-places 0 x.start (x.end - 1) rs h (omega arith) ∙ rw (what, ei', ← ej) refl);
      differs = λ same.
          let hi : suc x.start ≤ (get_or rs i d).end =
          subst (λ k. suc x.start ≤ (get_or rs k d).end) ei' (ends_below-at (suc x.start) d rs (omega arith)) in
          let lo : (get_or rs i d).start ≤ x.end - 1 = starts_upto-at (x.end - 1) i d rs (omega arith) in
          let run : (0 ≤ (get_or rs i d).start) × ((get_or rs i d).start < (get_or rs i d).end) =
          run-at 0 i d rs h (omega arith) in
          taken (max x.start (get_or rs i d).start) (member rs (max x.start (get_or rs i d).start)) (omega arith) (omega arith)
          (member-at i (max x.start (get_or rs i d).start) d rs (omega arith) (omega arith) (omega arith))
          (same.1 (max x.start (get_or rs i d).start));
    } where
      taken : (y : ℕ) (m : Bool) → x.start ≤ y → y < x.end → m ≡ true → m ≡ (m && not (in_range x y)) → ⊥
      taken y m lo hi e e' = grind (arith, nat_tests)

pub most : (by : Substitute) → length (words_of by) ≤ 2
most Nothing = omega arith
most (One run) = omega arith
most (Two front back) = omega arith

pub plan_removal : (words : List CRange) (x : CRange) (i j start end : ℕ) (by : Substitute)
    → IsMaximalRuns (runs_of words) → x.start < x.end
    → i ≡ ends_below (runs_of words) (x.start + 1) → j ≡ starts_upto (runs_of words) (x.end - 1)
    → i < j → start ≡ (get_or words i nowhere).start → end ≡ (get_or words (j - 1) nowhere).end
    → runs_of (words_of by) ≡ as_runs start x.start ++ as_runs x.end end
    → Plans (in_difference (runs_of words) (range_of x)) words (record { from = i; to = j; by = by })
plan_removal words x i j start end by h lt ei ej le es ee eb =
    let within = starts_upto-length (x.end - 1) (runs_of words) in
    let d = range 0 0 in
    let first : start ≡ (get_or (runs_of words) i d).start = rw (run_at words i) es in
    let last : end ≡ (get_or (runs_of words) (j - 1) d).end = rw (run_at words (j - 1)) ee in
    let two = most by in
    plans _ words (record { from = i; to = j; by = by }) (record {
      ordered = omega (arith, le);
      within = omega (arith, ej, within, many words);
      one_more = omega (arith, le, two);
    })
    (becomes_less (runs_of words) (runs_of (words_of by)) (range_of x) d i j start end h lt ei ej le first last eb)
