-- The runs of a difference of two sets, and the parts of a range that a set holds.
use Rattle.std.proofs.Common.{inl, inr, ◌≡◌, ℕ, ◌+◌, ◌-◌, ◌<◌, ◌≤◌, min, max, Bool, false, ◌&&◌, ◌||◌, not, List, [], ◌∷◌, ◌++◌, refl, ap, sym, ◌∙◌, arith, append_assoc, take, suc, slice_range}
use Rattle.std.proofs.lemmas.List.{append-nil}
use Rattle.std.proofs.lemmas.Bool.{lt-ltb, le-ltb, lt-leb, le-leb, cases_lt}
use Rattle.std.proofs.lemmas.Bool.Decides.{nat_tests}
use Rattle.std.specs.declared.ops.Range.{Range}
use Rattle.quic_ranges.specs.Intersections.{outside, as_runs, intersections, subtracted}
use Rattle.quic_ranges.specs.Runs.{in_range, member, RunsFrom, IsMaximalRuns, IsRunsOf, in_subtraction}
use Rattle.quic_ranges.specs.Places.{ends_below, starts_upto}
use Rattle.quic_ranges.proofs.RunsLemmas.{range, RunsFrom-lower, RunsFrom-as_runs, member-as_runs, member-below}
use Rattle.quic_ranges.proofs.RemovalLemmas.{as_runs-empty}

pub member-append : (y : ℕ) (rs ss : List (Range ℕ)) → member (rs ++ ss) y ≡ (member rs y || member ss y)
member-append y [] ss = refl
member-append y (r ∷ rs) ss =
    ap (λ m. in_range r y || m) (member-append y rs ss) ∙ assoc (in_range r y) (member rs y) (member ss y) where
      assoc : (a b c : Bool) → (a || (b || c)) ≡ ((a || b) || c)
      assoc a b c = grind (arith, nat_tests)

-- the members outside
member-outside : (n s e y : ℕ) (gs : List (Range ℕ)) → RunsFrom n gs
    → member (outside s e gs) y ≡ (in_range (range s e) y && not (member gs y))
member-outside n s e y [] h =
    ap (λ l. member l y) (sym (append-nil (as_runs s e))) ∙ member-as_runs s e y []
    ∙ last (in_range (range s e) y) where
      last : (i : Bool) → (i || false) ≡ (i && not false)
      last i = grind (arith, nat_tests)
member-outside n s e y (g ∷ gs) h =
    member-as_runs s (min e g.start) y (outside (max s g.end) e gs)
    ∙ ap (λ m. in_range (range s (min e g.start)) y || m) (member-outside (g.end + 1) (max s g.end) e y gs h.2)
    ∙ step s e g.start g.end y (member gs y) h.1 (λ lt. member-below (g.end + 1) y gs h.2 lt) where
      step : (s e a b y : ℕ) (m : Bool) → a < b → (y < b + 1 → m ≡ false)
          → (in_range (range s (min e a)) y || (in_range (range (max s b) e) y && not m))
          ≡ (in_range (range s e) y && not (in_range (range a b) y || m))
      step s e a b y m lt below = grind (arith, nat_tests)

-- the runs outside, in front of later ones
RunsFrom-outside : (n m s e : ℕ) (gs tail : List (Range ℕ)) → n ≤ s → n ≤ e + 1 → RunsFrom m gs → RunsFrom (e + 1) tail
    → RunsFrom n (outside s e gs ++ tail)
RunsFrom-outside n m s e [] tail le le' h t =
    RunsFrom-as_runs n s e tail le (RunsFrom-lower (e + 1) n tail le' t) (λ _. t)
RunsFrom-outside n m s e (g ∷ gs) tail le le' h t =
    rw (append_assoc (as_runs s (min e g.start)) (outside (max s g.end) e gs) tail)
    (RunsFrom-as_runs n s (min e g.start) (outside (max s g.end) e gs ++ tail) le
    (RunsFrom-outside n (g.end + 1) (max s g.end) e gs tail (omega arith) le' h.2 t)
    (λ lt. RunsFrom-outside (min e g.start + 1) (g.end + 1) (max s g.end) e gs tail
    (let q : g.start < g.end = h.1 in omega arith) (omega arith) h.2 t))

RunsFrom-subtracted : (n m : ℕ) (rs ss : List (Range ℕ)) → RunsFrom n rs → RunsFrom m ss → RunsFrom n (subtracted rs ss)
RunsFrom-subtracted n m [] ss h k = tt
RunsFrom-subtracted n m (r ∷ rs) ss h k =
    RunsFrom-outside n m r.start r.end ss (subtracted rs ss) h.0 (omega arith) k (RunsFrom-subtracted (r.end + 1) m rs ss h.2 k)

member-subtracted : (m y : ℕ) (rs ss : List (Range ℕ)) → RunsFrom m ss
    → member (subtracted rs ss) y ≡ (member rs y && not (member ss y))
member-subtracted m y [] ss k = refl
member-subtracted m y (r ∷ rs) ss k =
    member-append y (outside r.start r.end ss) (subtracted rs ss)
    ∙ ap (λ b. b || member (subtracted rs ss) y) (member-outside m r.start r.end y ss k)
    ∙ ap (λ b. (in_range (range r.start r.end) y && not (member ss y)) || b) (member-subtracted m y rs ss k)
    ∙ both (in_range r y) (member rs y) (member ss y) where
      both : (i m o : Bool) → ((i && not o) || (m && not o)) ≡ ((i || m) && not o)
      both i m o = grind (arith, nat_tests)

-- what is outside are the runs of the difference
pub IsRunsOf-subtracted : (rs ss : List (Range ℕ)) → IsMaximalRuns rs → IsMaximalRuns ss
    → IsRunsOf (in_subtraction rs ss) (subtracted rs ss)
IsRunsOf-subtracted rs ss h k = (RunsFrom-subtracted 0 0 rs ss h k, λ y. member-subtracted 0 y rs ss k)

-- nothing of an empty range is outside
pub outside-none : (s e : ℕ) (gs : List (Range ℕ)) → e ≤ s → outside s e gs ≡ []
outside-none s e [] le = as_runs-empty s e le
outside-none s e (g ∷ gs) le =
    ap (λ l. l ++ outside (max s g.end) e gs) (as_runs-empty s (min e g.start) (omega arith))
    ∙ outside-none (max s g.end) e gs (omega arith)

-- runs that start after the range's end remove nothing from it
outside-front : (n s e : ℕ) (gs : List (Range ℕ)) → RunsFrom n gs
    → outside s e (take (starts_upto gs e) gs) ≡ outside s e gs
outside-front n s e [] h = refl
outside-front n s e (g ∷ gs) h =
    elim (cases_lt e g.start) as (λ _. outside s e (take (starts_upto (g ∷ gs) e) (g ∷ gs)) ≡ outside s e (g ∷ gs)) [
      | inl lt ↦ let q : min e g.start ≡ e = omega arith in
          rw (lt-leb g.start e lt, q) (sym (append-nil (as_runs s e))
          ∙ ap (λ l. as_runs s e ++ l) (sym (outside-none (max s g.end) e gs (omega arith))))
      | inr le ↦ rw (le-leb g.start e le) (ap (λ l. as_runs s (min e g.start) ++ l) (outside-front (g.end + 1) (max s g.end) e gs h.2))
    ]

-- nor do those that end before its start: the runs that it touches are all that matter
pub outside-touched : (n s e : ℕ) (gs : List (Range ℕ)) → RunsFrom n gs → s < e
    → outside s e (slice_range gs (ends_below gs s) (starts_upto gs e)) ≡ outside s e gs
outside-touched n s e [] h lt = refl
outside-touched n s e (g ∷ gs) h lt =
    elim (cases_lt g.end s) as (λ _. outside s e (slice_range (g ∷ gs) (ends_below (g ∷ gs) s) (starts_upto (g ∷ gs) e))
    ≡ outside s e (g ∷ gs)) [
      | inl q ↦ let q1 : g.start ≤ e = omega arith in
          let q2 : min e g.start ≤ s = omega arith in
          let q3 : max s g.end ≡ s = omega arith in
          let fewer : suc (starts_upto gs e) - suc (ends_below gs s) ≡ starts_upto gs e - ends_below gs s =
          omega arith in
          rw (lt-ltb g.end s q, le-leb g.start e q1, as_runs-empty s (min e g.start) q2, q3, fewer)
          (outside-touched (g.end + 1) s e gs h.2 lt)
      | inr q ↦ let all : starts_upto (g ∷ gs) e - 0 ≡ starts_upto (g ∷ gs) e = omega arith in rw
          (le-ltb g.end s q, all) (outside-front n s e (g ∷ gs) h)
    ]

-- a range has no intersections in runs after it
intersections-beyond : (n : ℕ) (x : Range ℕ) (gs : List (Range ℕ)) → RunsFrom n gs → x.end ≤ n → intersections gs x ≡ []
intersections-beyond n x [] h le = refl
intersections-beyond n x (g ∷ gs) h le =
    ap (λ l. l ++ intersections gs x) (as_runs-empty (max g.start x.start) (min x.end g.end) (omega arith))
    ∙ intersections-beyond (g.end + 1) x gs h.2 (omega arith)

intersections-front : (n : ℕ) (x : Range ℕ) (gs : List (Range ℕ)) → RunsFrom n gs
    → intersections (take (starts_upto gs x.end) gs) x ≡ intersections gs x
intersections-front n x [] h = refl
intersections-front n x (g ∷ gs) h =
    elim (cases_lt x.end g.start) as (λ _. intersections (take (starts_upto (g ∷ gs) x.end) (g ∷ gs)) x ≡ intersections (g ∷ gs) x) [
      | inl lt ↦ rw (lt-leb g.start x.end lt) (sym (intersections-beyond g.start x (g ∷ gs) (omega arith, h.1, h.2) (omega arith)))
      | inr le ↦ rw (le-leb g.start x.end le) (ap (λ l. as_runs (max g.start x.start) (min x.end g.end) ++ l)
          (intersections-front (g.end + 1) x gs h.2))
    ]

-- the intersections of a range lie in the runs that it touches
pub intersections-touched : (n : ℕ) (x : Range ℕ) (gs : List (Range ℕ)) → RunsFrom n gs → x.start < x.end
    → intersections (slice_range gs (ends_below gs x.start) (starts_upto gs x.end)) x ≡ intersections gs x
intersections-touched n x [] h lt = refl
intersections-touched n x (g ∷ gs) h lt =
    elim (cases_lt g.end x.start) as (λ _. intersections (slice_range (g ∷ gs) (ends_below (g ∷ gs) x.start)
    (starts_upto (g ∷ gs) x.end)) x ≡ intersections (g ∷ gs) x) [
      | inl q ↦ let q1 : g.start ≤ x.end = omega arith in
          let q2 : min x.end g.end ≤ max g.start x.start = omega arith in
          let fewer : suc (starts_upto gs x.end) - suc (ends_below gs x.start) ≡ starts_upto gs x.end - ends_below gs x.start =
          omega arith in
          rw (
            lt-ltb g.end x.start q,
            le-leb g.start x.end q1,
            as_runs-empty (max g.start x.start) (min x.end g.end) q2,
            fewer,
          ) (intersections-touched (g.end + 1) x gs h.2 lt)
      | inr q ↦ let all : starts_upto (g ∷ gs) x.end - 0 ≡ starts_upto (g ∷ gs) x.end = omega arith in rw
          (le-ltb g.end x.start q, all) (intersections-front n x (g ∷ gs) h)
    ]

-- nor has an empty range any
pub intersections-void : (x : Range ℕ) (rs : List (Range ℕ)) → x.end ≤ x.start → intersections rs x ≡ []
intersections-void x [] le = refl
intersections-void x (r ∷ rs) le =
    ap (λ l. l ++ intersections rs x) (as_runs-empty (max r.start x.start) (min x.end r.end) (omega arith))
    ∙ intersections-void x rs le
