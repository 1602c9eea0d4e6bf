-- One walk over the runs of two sets.
use Rattle.std.proofs.Common.{◌≡◌, ℕ, ◌+◌, ◌<◌, ◌≤◌, suc, zero, min, max, Bool, false, ◌||◌, List, [], ◌∷◌, ◌++◌, length, take, drop, get_or, refl, ap, sym, ◌∙◌, arith, append_assoc, inl, inr}
use Rattle.std.proofs.lemmas.List.{append-nil, get_or-drop, get_or-take, take_more}
use Rattle.std.proofs.lemmas.Bool.{cases_lt}
use Rattle.std.proofs.lemmas.Bool.Decides.{nat_tests}
use Rattle.std.specs.declared.ops.Range.{Range}
use Rattle.quic_ranges.specs.Intersections.{outside, as_runs, subtracted}
use Rattle.quic_ranges.specs.Runs.{in_range, member, RunsFrom, IsMaximalRuns, IsRunsOf, in_subtraction, in_sum, in_union}
use Rattle.quic_ranges.proofs.PlacesLemmas.{run-at}
use Rattle.quic_ranges.proofs.RemovalLemmas.{as_runs-empty}
use Rattle.quic_ranges.proofs.SubtractLemmas.{member-append, outside-none, IsRunsOf-subtracted}
use Rattle.quic_ranges.proofs.StepLemmas.{IsRunsOf-sum_step}

-- one run more of the second list
pub IsRunsOf-sum_next : (rs ss cur after : List (Range ℕ)) (j : ℕ) (d : Range ℕ) → j < length ss
    → IsRunsOf (in_sum rs (take j ss)) cur → IsRunsOf (in_union cur (get_or ss j d)) after
    → IsRunsOf (in_sum rs (take (j + 1) ss)) after
IsRunsOf-sum_next rs ss cur after j d lt h k =
    rw (take_more ss j d lt) (IsRunsOf-sum_step rs (take j ss) cur after (get_or ss j d) h k)

-- or of the first
pub IsRunsOf-sum_run : (rs ss cur after : List (Range ℕ)) (i : ℕ) (d : Range ℕ) → i < length rs
    → IsRunsOf (in_sum (take i rs) ss) cur → IsRunsOf (in_union cur (get_or rs i d)) after
    → IsRunsOf (in_sum (take (i + 1) rs) ss) after
IsRunsOf-sum_run rs ss cur after i d lt h k = rw (take_more rs i d lt) (
  k.0,
  λ y.
      k.1 y
      ∙ step (member (take i rs) y) (member ss y) (in_range (get_or rs i d) y) (member cur y)
      (member (take i rs ++ get_or rs i d ∷ []) y) (h.1 y) (member-append y (take i rs) (get_or rs i d ∷ [])),
) where
  step : (m s i c e : Bool) → c ≡ (m || s) → e ≡ (m || (i || false)) → (c || i) ≡ (e || s)
  step m s i c e p q = grind (arith, nat_tests)

-- a run of those from an index on
pub run-behind : {X : Type 0} (xs : List X) (k m i : ℕ) (d : X) → i < m
    → get_or (take m (drop k xs)) i d ≡ get_or xs (k + i) d
run-behind xs k m i d lt = get_or-take m (drop k xs) i d lt ∙ get_or-drop k xs i d

-- the runs from an index on
drop-at : {X : Type 0} (xs : List X) (i : ℕ) (d : X) → i < length xs → drop i xs ≡ get_or xs i d ∷ drop (i + 1) xs
drop-at [] i d lt = absurd (omega arith)
drop-at (x ∷ xs) zero d lt = refl
drop-at (x ∷ xs) (suc i) d lt = let one : suc i + 1 ≡ suc (i + 1) = omega arith in rw one (drop-at xs i d (omega arith))

drop-past : {X : Type 0} (xs : List X) (i : ℕ) → length xs ≤ i → drop i xs ≡ []
drop-past [] zero le = refl
drop-past [] (suc i) le = refl
drop-past (x ∷ xs) zero le = absurd (omega arith)
drop-past (x ∷ xs) (suc i) le = drop-past xs i (omega arith)

pub RunsFrom-behind : (n i : ℕ) (d : Range ℕ) (rs : List (Range ℕ)) → RunsFrom n rs → i < length rs
    → RunsFrom ((get_or rs i d).end + 1) (drop (i + 1) rs)
RunsFrom-behind n i d [] h lt = absurd (omega arith)
RunsFrom-behind n zero d (r ∷ rs) h lt = h.2
RunsFrom-behind n (suc i) d (r ∷ rs) h lt =
    let one : suc i + 1 ≡ suc (i + 1) = omega arith in rw one (RunsFrom-behind (r.end + 1) i d rs h.2 (omega arith))

-- a range that ends before some runs removes nothing from them
subtracted-skip : (n : ℕ) (g : Range ℕ) (rs gs : List (Range ℕ)) → RunsFrom n rs → g.start < g.end → g.end ≤ n
    → subtracted rs (g ∷ gs) ≡ subtracted rs gs
subtracted-skip n g [] gs h lt le = refl
subtracted-skip n g (r ∷ rs) gs h lt le =
    let none : min r.end g.start ≤ r.start = omega arith in
    let same : max r.start g.end ≡ r.start = omega arith in
    ap (λ l. (l ++ outside (max r.start g.end) r.end gs) ++ subtracted rs (g ∷ gs)) (as_runs-empty r.start (min r.end g.start) none)
    ∙ ap (λ m. outside m r.end gs ++ subtracted rs (g ∷ gs)) same
    ∙ ap (λ l. outside r.start r.end gs ++ l) (subtracted-skip (r.end + 1) g rs gs h.2 lt (omega arith))

-- what is left of a run, and of those after it, if the next of the others ends with the run or before
pub difference-spent : (left rest ss whole : List (Range ℕ)) (s e j : ℕ) (d : Range ℕ) → IsMaximalRuns ss
    → RunsFrom (e + 1) rest → j < length ss → (get_or ss j d).end ≤ e
    → left ++ (outside s e (drop j ss) ++ subtracted rest (drop j ss)) ≡ whole
    → (left ++ as_runs s (get_or ss j d).start) ++ (outside (max s (get_or ss j d).end) e (drop (j + 1) ss)
    ++ subtracted rest (drop (j + 1) ss)) ≡ whole
difference-spent left rest ss whole s e j d k h lt le is =
    let g = get_or ss j d in
    let at : (0 ≤ g.start) × (g.start < g.end) = run-at 0 j d ss k lt in
    let near : min e g.start ≡ g.start = omega arith in
    append_assoc left (as_runs s g.start) (outside (max s g.end) e (drop (j + 1) ss) ++ subtracted rest (drop (j + 1) ss))
    ∙ ap (λ l. left ++ l) (sym (append_assoc (as_runs s g.start) (outside (max s g.end) e (drop (j + 1) ss))
    (subtracted rest (drop (j + 1) ss))))
    ∙ ap (λ l. left ++ ((as_runs s g.start ++ outside (max s g.end) e (drop (j + 1) ss)) ++ l))
    (sym (subtracted-skip (e + 1) g rest (drop (j + 1) ss) h at.1 (omega arith)))
    ∙ ap (λ m. left ++ ((as_runs s m ++ outside (max s g.end) e (drop (j + 1) ss)) ++ subtracted rest (g ∷ drop (j + 1) ss))) (sym near)
    ∙ ap (λ l. left ++ (outside s e l ++ subtracted rest l)) (sym (drop-at ss j d lt))
    ∙ is

-- if no others are left, or the next of them ends after the run, one range of the run is left
outside-last : (s e m j : ℕ) (d : Range ℕ) (ss : List (Range ℕ)) → (j < length ss → e < (get_or ss j d).end)
    → (j < length ss → m ≡ min e (get_or ss j d).start) → (length ss ≤ j → m ≡ e)
    → outside s e (drop j ss) ≡ as_runs s m
outside-last s e m j d ss behind cut whole = elim (cases_lt j (length ss)) [
  | inl lt ↦ let g = get_or ss j d in
      let far : e < g.end = behind lt in
      ap (outside s e) (drop-at ss j d lt)
      ∙ ap (λ l. as_runs s (min e g.start) ++ l) (outside-none (max s g.end) e (drop (j + 1) ss) (omega arith))
      ∙ append-nil (as_runs s (min e g.start))
      ∙ ap (as_runs s) (sym (cut lt))
  | inr le ↦ ap (outside s e) (drop-past ss j le) ∙ ap (as_runs s) (sym (whole le))
]

pub difference-run : (left rest ss whole : List (Range ℕ)) (s e m j : ℕ) (d : Range ℕ)
    → (j < length ss → e < (get_or ss j d).end) → (j < length ss → m ≡ min e (get_or ss j d).start)
    → (length ss ≤ j → m ≡ e)
    → left ++ (outside s e (drop j ss) ++ subtracted rest (drop j ss)) ≡ whole
    → (left ++ as_runs s m) ++ subtracted rest (drop j ss) ≡ whole
difference-run left rest ss whole s e m j d behind cut end is =
    append_assoc left (as_runs s m) (subtracted rest (drop j ss))
    ∙ ap (λ l. left ++ (l ++ subtracted rest (drop j ss))) (sym (outside-last s e m j d ss behind cut end))
    ∙ is

-- after the last of the runs
pub difference-end : (left rs gs ss : List (Range ℕ)) (i : ℕ) → IsMaximalRuns rs → IsMaximalRuns ss → length rs ≤ i
    → left ++ subtracted (drop i rs) gs ≡ subtracted rs ss → IsRunsOf (in_subtraction rs ss) left
difference-end left rs gs ss i h k le is =
    let all : left ≡ subtracted rs ss =
    sym (append-nil left) ∙ ap (λ l. left ++ subtracted l gs) (sym (drop-past rs i le)) ∙ is in
    rw all (IsRunsOf-subtracted rs ss h k)
