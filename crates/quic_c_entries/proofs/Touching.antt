-- The runs that a range touches have all its intersections.
use Rattle.std.proofs.Common.{inl, inr, ◌≡◌, ℕ, ◌+◌, ◌-◌, ◌<◌, ◌≤◌, min, max, List, [], ◌∷◌, ◌++◌, refl, ap, sym, ◌∙◌, arith, take, drop, suc, slice_range}
use Rattle.std.specs.List.{take-map, drop-map}
use Rattle.std.proofs.lemmas.Bool.{lt-ltb, le-ltb, lt-leb, le-leb, cases_lt}
use Rattle.std.specs.declared.ops.Range.{Range}
use Rattle.quic_ranges.specs.Intersections.{as_runs, intersections}
use Rattle.quic_ranges.specs.Runs.{RunsFrom, IsMaximalRuns}
use Rattle.quic_ranges.specs.Places.{ends_below, starts_upto}
use Rattle.quic_ranges.proofs.RemovalLemmas.{as_runs-empty}
use Rattle.quic_c_entries.specs.declared.words.CRange.{CRange}
use Rattle.quic_c_entries.specs.Entries.{range_of, runs_of}

-- a range has no intersections in runs after it
beyond : (n : ℕ) (x : Range ℕ) (gs : List (Range ℕ)) → RunsFrom n gs → x.end ≤ n → intersections gs x ≡ []
beyond n x [] h le = refl
beyond n x (g ∷ gs) h le =
    ap (λ l. l ++ intersections gs x) (as_runs-empty (max g.start x.start) (min x.end g.end) (omega arith))
    ∙ beyond (g.end + 1) x gs h.2 (omega arith)

in_front : (n : ℕ) (x : Range ℕ) (gs : List (Range ℕ)) → RunsFrom n gs
    → intersections (take (starts_upto gs x.end) gs) x ≡ intersections gs x
in_front n x [] h = refl
in_front n x (g ∷ gs) h =
    elim (cases_lt x.end g.start) as (λ _. intersections (take (starts_upto (g ∷ gs) x.end) (g ∷ gs)) x ≡ intersections (g ∷ gs) x) [
      | inl lt ↦ rw (lt-leb g.start x.end lt) (sym (beyond g.start x (g ∷ gs) (omega arith, h.1, h.2) (omega arith)))
      | inr le ↦ rw (le-leb g.start x.end le) (ap (λ l. as_runs (max g.start x.start) (min x.end g.end) ++ l)
          (in_front (g.end + 1) x gs h.2))
    ]

by_places : (n : ℕ) (x : Range ℕ) (gs : List (Range ℕ)) → RunsFrom n gs → x.start < x.end
    → intersections (slice_range gs (ends_below gs x.start) (starts_upto gs x.end)) x ≡ intersections gs x
by_places n x [] h lt = refl
by_places n x (g ∷ gs) h lt =
    elim (cases_lt g.end x.start) as (λ _. intersections (slice_range (g ∷ gs) (ends_below (g ∷ gs) x.start)
    (starts_upto (g ∷ gs) x.end)) x ≡ intersections (g ∷ gs) x) [
      | inl q ↦ let q1 : g.start ≤ x.end = omega arith in
          let q2 : min x.end g.end ≤ max g.start x.start = omega arith in
          let fewer : suc (starts_upto gs x.end) - suc (ends_below gs x.start) ≡ starts_upto gs x.end - ends_below gs x.start =
          omega arith in
          rw (
            lt-ltb g.end x.start q,
            le-leb g.start x.end q1,
            as_runs-empty (max g.start x.start) (min x.end g.end) q2,
            fewer,
          ) (by_places (g.end + 1) x gs h.2 lt)
      | inr q ↦ let all : starts_upto (g ∷ gs) x.end - 0 ≡ starts_upto (g ∷ gs) x.end = omega arith in rw
          (le-ltb g.end x.start q, all) (in_front n x (g ∷ gs) h)
    ]

-- nor has an empty range any
void : (x : Range ℕ) (rs : List (Range ℕ)) → x.end ≤ x.start → intersections rs x ≡ []
void x [] le = refl
void x (r ∷ rs) le =
    ap (λ l. l ++ intersections rs x) (as_runs-empty (max r.start x.start) (min x.end r.end) (omega arith))
    ∙ void x rs le

-- the entries from one place to the other
pub in_touched : (x : Range ℕ) (words : List CRange) (from to end : ℕ) → IsMaximalRuns (runs_of words)
    → from ≡ ends_below (runs_of words) x.start → to ≡ starts_upto (runs_of words) x.end → end ≡ max to from
    → intersections (runs_of (take (end - from) (drop from words))) x ≡ intersections (runs_of words) x
in_touched x words from to end h ef et ee =
    let rs : List (Range ℕ) = runs_of words in
    let count : end - from ≡ to - from = omega (arith, ee) in
    let entries : runs_of (take (end - from) (drop from words)) ≡ take (to - from) (drop from rs) =
    sym (take-map range_of (end - from) (drop from words)) ∙ ap (take (end - from)) (sym (drop-map range_of from words))
    ∙ ap (λ (n : ℕ). take n (drop from rs)) count in
    ap (λ (l : List (Range ℕ)). intersections l x) entries ∙ elim (cases_lt x.start x.end) [
      | inl lt ↦ ap (λ (n : ℕ). intersections (take (to - n) (drop n rs)) x) ef
          ∙ ap (λ (n : ℕ). intersections (take (n - ends_below rs x.start) (drop (ends_below rs x.start) rs)) x) et
          ∙ by_places 0 x rs h lt
      | inr le ↦ void x (take (to - from) (drop from rs)) le ∙ sym (void x rs le)
    ]
