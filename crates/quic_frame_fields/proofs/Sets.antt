-- The runs of a set as the ranges of an ACK.
use Rattle.std.proofs.Common.{◌≡◌, ℕ, ◌+◌, ◌-◌, ◌<◌, ◌≤◌, ◌^◌, Bool, true, false, leb, List, [], ◌∷◌, ◌++◌, length, refl, sym, ap, subst, ◌∙◌, inl, inr, arith}
use Rattle.std.specs.Prelude.{◌||◌, ◌&&◌, ◌⊎◌, ◌≢◌}
use Rattle.std.proofs.lemmas.Bool.Decides.{nat_tests}
use Rattle.std.proofs.lemmas.List.{length-append}
use Rattle.std.specs.declared.ops.Range.{Range}
use Rattle.quic_ranges.specs.Runs.{in_range, member, RunsFrom, IsMaximalRuns, IsGreatest}
use Rattle.quic_frame_fields.specs.Field.{AreApart}
use Rattle.quic_frame_fields.specs.Sets.{ends_of, ranges_in, greatest_in, is_in}

-- ---- the last run of a set

pub ranges_in-last : (runs : List (Range ℕ)) (run : Range ℕ)
    → ranges_in (runs ++ run ∷ []) ≡ ends_of run ∷ ranges_in runs
ranges_in-last [] run = refl
ranges_in-last (first ∷ runs) run = ap (λ (l : List (ℕ × ℕ)). l ++ ends_of first ∷ []) (ranges_in-last runs run)

pub length-ranges_in : (runs : List (Range ℕ)) → length (ranges_in runs) ≡ length runs
length-ranges_in [] = refl
length-ranges_in (run ∷ runs) = omega (arith, length-append (ranges_in runs) (ends_of run ∷ []), length-ranges_in runs)

before_last : (least : ℕ) (runs : List (Range ℕ)) (run : Range ℕ) → RunsFrom least (runs ++ run ∷ [])
    → RunsFrom least runs × (run.start < run.end)
before_last least [] run h = (tt, h.1)
before_last least (first ∷ runs) run h =
    let others = before_last (first.end + 1) runs run h.2 in ((h.0, h.1, others.0), others.1)

last_apart : (least : ℕ) (runs : List (Range ℕ)) (run above : Range ℕ)
    → RunsFrom least ((runs ++ run ∷ []) ++ above ∷ []) → run.end < above.start
last_apart least [] run above h = omega (arith, h.2.0)
last_apart least (first ∷ runs) run above h = last_apart (first.end + 1) runs run above h.2

-- a run, the ones below it, and one above it
pub record HasBelow (runs : List (Range ℕ)) (run above : Range ℕ) : Type 0 where
  pub some : run.start < run.end
  pub apart : run.end < above.start
  pub maximal : IsMaximalRuns (runs ++ run ∷ [])

pub has_below : (runs left : List (Range ℕ)) (run above : Range ℕ) → left ≡ runs ++ run ∷ []
    → IsMaximalRuns (left ++ above ∷ []) → HasBelow runs run above
has_below runs left run above e h =
    let whole : IsMaximalRuns ((runs ++ run ∷ []) ++ above ∷ []) =
    subst (λ (l : List (Range ℕ)). IsMaximalRuns (l ++ above ∷ [])) e h in
    let maximal = (before_last 0 (runs ++ run ∷ []) above whole).0 in
    record { some = (before_last 0 runs run maximal).1; apart = last_apart 0 runs run above whole; maximal = maximal }

-- ---- the ranges hold the numbers of the set

or_swap : (a b c : Bool) → (a || (b || c)) ≡ (b || (a || c))
or_swap true true c = refl
or_swap true false c = refl
or_swap false b c = refl

abbrev is_within : ℕ × ℕ → ℕ → Bool
is_within range n = leb range.0 n && leb n range.1

is_in-last : (ranges : List (ℕ × ℕ)) (range : ℕ × ℕ) (n : ℕ)
    → is_in (ranges ++ range ∷ []) n ≡ (is_within range n || is_in ranges n)
is_in-last [] range n = refl
is_in-last (first ∷ ranges) range n =
    ap (λ (b : Bool). is_within first n || b) (is_in-last ranges range n)
    ∙ or_swap (is_within first n) (is_within range n) (is_in ranges n)

ends_hold : (run : Range ℕ) (n : ℕ) → run.start < run.end → is_within (ends_of run) n ≡ in_range run n
ends_hold run n some = grind (arith, nat_tests)

ranges_hold : (least : ℕ) (runs : List (Range ℕ)) (n : ℕ) → RunsFrom least runs
    → is_in (ranges_in runs) n ≡ member runs n
ranges_hold least [] n h = refl
ranges_hold least (run ∷ runs) n h =
    is_in-last (ranges_in runs) (ends_of run) n ∙ ap (λ (b : Bool). b || is_in (ranges_in runs) n) (ends_hold run n h.1)
    ∙ ap (λ (b : Bool). in_range run n || b) (ranges_hold (run.end + 1) runs n h.2)

pub are_members : (runs : List (Range ℕ)) (n : ℕ) → IsMaximalRuns runs → is_in (ranges_in runs) n ≡ member runs n
are_members runs n h = ranges_hold 0 runs n h

-- ---- the ranges never touch

abbrev AreAbove : ℕ → List (ℕ × ℕ) → Type 0
AreAbove least [] = Unit {0}
AreAbove least (range ∷ ranges) = (least ≤ range.0) × AreAbove least ranges

above_last : (least : ℕ) (ranges : List (ℕ × ℕ)) (range : ℕ × ℕ) → AreAbove least ranges → least ≤ range.0
    → AreAbove least (ranges ++ range ∷ [])
above_last least [] range h le = (le, tt)
above_last least (first ∷ ranges) range h le = (h.0, above_last least ranges range h.1 le)

above_lower : (m n : ℕ) (ranges : List (ℕ × ℕ)) → m ≤ n → AreAbove n ranges → AreAbove m ranges
above_lower m n [] le h = tt
above_lower m n (range ∷ ranges) le h = (omega (arith, h.0, le), above_lower m n ranges le h.1)

are_above : (least : ℕ) (runs : List (Range ℕ)) → RunsFrom least runs → AreAbove least (ranges_in runs)
are_above least [] h = tt
are_above least (run ∷ runs) h =
    let others =
    above_lower least (run.end + 1) (ranges_in runs) (omega (arith, h.0, h.1)) (are_above (run.end + 1) runs h.2) in
    above_last least (ranges_in runs) (ends_of run) others h.0

apart_last : (ranges : List (ℕ × ℕ)) (range : ℕ × ℕ) → AreApart ranges → AreAbove (range.1 + 2) ranges
    → range.0 ≤ range.1 → AreApart (ranges ++ range ∷ [])
apart_last [] range h above le = le
apart_last (first ∷ []) range h above le = (h, above.0, le)
apart_last (first ∷ second ∷ ranges) range h above le = (h.0, h.1, apart_last (second ∷ ranges) range h.2 above.1 le)

runs_apart : (least : ℕ) (runs : List (Range ℕ)) → RunsFrom least runs → AreApart (ranges_in runs)
runs_apart least [] h = tt
runs_apart least (run ∷ runs) h =
    let above =
    above_lower ((run.end - 1) + 2) (run.end + 1) (ranges_in runs) (omega (arith, h.1)) (are_above (run.end + 1) runs h.2) in
    apart_last (ranges_in runs) (ends_of run) (runs_apart (run.end + 1) runs h.2) above (omega (arith, h.1))

pub are_apart : (runs : List (Range ℕ)) → IsMaximalRuns runs → AreApart (ranges_in runs)
are_apart runs h = runs_apart 0 runs h

ordered : (range : ℕ × ℕ) (ranges : List (ℕ × ℕ)) → AreApart (range ∷ ranges) → range.0 ≤ range.1
ordered range [] h = h
ordered range (below ∷ ranges) h = h.0

-- below the first of such ranges there are no more than its least number
pub few_below : (range : ℕ × ℕ) (ranges : List (ℕ × ℕ)) → AreApart (range ∷ ranges) → length ranges ≤ range.0
few_below range [] h = omega arith
few_below range (below ∷ ranges) h = omega (arith, few_below below ranges h.2, ordered below ranges h.2, h.1)

-- ---- the first range ends at the greatest number

either_of : (b c : Bool) → (b || c) ≡ true → (b ≡ true) ⊎ (c ≡ true)
either_of true c e = inl refl
either_of false c e = inr e

up_to : (range : ℕ × ℕ) (n : ℕ) → is_within range n ≡ true → n ≤ range.1
up_to range n e = grind (arith, nat_tests)

last_within : (range : ℕ × ℕ) (b : Bool) → range.0 ≤ range.1 → (is_within range range.1 || b) ≡ true
last_within range b le = grind (arith, nat_tests)

at_most : (range : ℕ × ℕ) (ranges : List (ℕ × ℕ)) (n : ℕ) → AreApart (range ∷ ranges) → is_in (range ∷ ranges) n ≡ true
    → n ≤ range.1
at_most range [] n h e =
    elim (either_of (is_within range n) false e) [
      | inl here ↦ up_to range n here
      | inr none ↦ absurd cc
    ]
at_most range (below ∷ ranges) n h e =
    elim (either_of (is_within range n) (is_in (below ∷ ranges) n) e) [
      | inl here ↦ up_to range n here
      | inr further ↦ omega (arith, at_most below ranges n h.2 further, h.0, h.1)
    ]

greatest_first : (runs : List (Range ℕ)) (ranges : List (ℕ × ℕ)) → 0 < length ranges → AreApart ranges
    → ((n : ℕ) → is_in ranges n ≡ member runs n) → IsGreatest runs (greatest_in ranges)
greatest_first runs [] some h same = absurd (omega (arith, some))
greatest_first runs (range ∷ ranges) some h same = record {
  present = sym (same range.1) ∙ last_within range (is_in ranges range.1) (ordered range ranges h);
  greatest = λ n e. at_most range ranges n h (same n ∙ e);
}

has_some : (runs : List (Range ℕ)) → runs ≢ [] → 0 < length (ranges_in runs)
has_some [] some = absurd (some refl)
has_some (run ∷ runs) some = omega (arith, length-append (ranges_in runs) (ends_of run ∷ []))

pub is_greatest : (runs : List (Range ℕ)) → runs ≢ [] → IsMaximalRuns runs
    → IsGreatest runs (greatest_in (ranges_in runs))
is_greatest runs some h =
    greatest_first runs (ranges_in runs) (has_some runs some) (are_apart runs h) (λ n. are_members runs n h)

-- ---- a set of numbers below a bound

-- its greatest run, and how many there are below that
pub record Bounded (runs : List (Range ℕ)) (run : Range ℕ) : Type 0 where
  pub some : run.start < run.end
  pub greatest : run.end - 1 < 2 ^ 62
  pub few : length runs < 2 ^ 62

pub bounded : (runs whole : List (Range ℕ)) (run : Range ℕ) → whole ≡ runs ++ run ∷ [] → IsMaximalRuns whole
    → ((n : ℕ) → member whole n ≡ true → n < 2 ^ 62) → Bounded runs run
bounded runs whole run e h all =
    let ranges : ranges_in whole ≡ ends_of run ∷ ranges_in runs = ap ranges_in e ∙ ranges_in-last runs run in
    let maximal : IsMaximalRuns (runs ++ run ∷ []) = subst IsMaximalRuns e h in
    let apart : AreApart (ends_of run ∷ ranges_in runs) = subst AreApart ranges (are_apart whole h) in
    let first : IsGreatest whole (greatest_in (ends_of run ∷ ranges_in runs)) =
    greatest_first whole (ends_of run ∷ ranges_in runs) (omega arith) apart
    (λ n. ap (λ (l : List (ℕ × ℕ)). is_in l n) (sym ranges) ∙ are_members whole n h) in
    let some = (before_last 0 runs run maximal).1 in
    let greatest : run.end - 1 < 2 ^ 62 = all (run.end - 1) first.present in
    let few = few_below (ends_of run) (ranges_in runs) apart in
    record { some = some; greatest = greatest; few = omega (arith, few, some, greatest, length-ranges_in runs) }
