-- A change of the runs in an array, made by one move and a write.
use Rattle.std.proofs.Common.{◌≡◌, ℕ, ◌+◌, ◌-◌, ◌≤◌, Bool, List, ◌++◌, length, take, drop, sym, ap, ◌∙◌, append_assoc, arith}
use Rattle.std.specs.List.{copy_within}
use Rattle.std.proofs.Math.Seq.{paste, take-add, take-append_seam, drop-append_seam}
use Rattle.std.proofs.lemmas.List.{length-append, length-take, length-drop, take-append-drop, take-append-le, take-take, drop-take, drop-drop}
use Rattle.std.proofs.lemmas.List.Edits.{paste_none, take-paste, drop-paste}
use Rattle.std.specs.declared.ops.Range.{Range}
use Rattle.quic_ranges.specs.Runs.{IsRunsOf}
use Rattle.quic_ranges.proofs.RunsLemmas.{IsRunsOf-unique}
use Rattle.quic_c_entries.specs.declared.words.CRange.{CRange}
use Rattle.quic_c_entries.specs.declared.change.Splice.{Splice}
use Rattle.quic_c_entries.specs.Entries.{runs_of}
use Rattle.quic_c_entries.specs.Changes.{FitsRoom, Made, Plans, after_change, words_of}
use Rattle.quic_c_entries.proofs.Placing.{many}

pub take_seam : (xs zs : List CRange) (n : ℕ) → n ≡ length xs → take n (xs ++ zs) ≡ xs
take_seam xs zs n e = ap (λ (k : ℕ). take k (xs ++ zs)) e ∙ take-append_seam xs zs

pub drop_seam : (xs zs : List CRange) (n : ℕ) → n ≡ length xs → drop n (xs ++ zs) ≡ zs
drop_seam xs zs n e = ap (λ (k : ℕ). drop k (xs ++ zs)) e ∙ drop-append_seam xs zs

-- no move is one of nothing
pub moved_none : (old : List CRange) (at from to : ℕ) → to ≤ from → old ≡ copy_within old from to at
moved_none old at from to le =
    let none : to - from ≡ 0 = omega (arith, le) in rw none (paste_none old at (drop from old))

-- nor is one onto itself
pub moved_same : (old : List CRange) (at from to : ℕ) → at ≡ from → from ≤ to → to ≤ length old
    → old ≡ copy_within old from to at
moved_same old at from to same le le' =
    let n : ℕ = to - from in
    let new : List CRange = paste old from (drop from old) n in
    let front : take (from + n) new ≡ take (from + n) old =
    take-paste old from (drop from old) n (omega (arith, le, le')) (omega (arith, le', length-drop from old))
    ∙ sym (take-add from n old) in
    let back : drop (from + n) new ≡ drop (from + n) old =
    drop-paste old from (drop from old) n (omega (arith, le, le')) (omega (arith, le', length-drop from old)) in
    sym (take-append-drop (from + n) old) ∙ ap (λ (l : List CRange). l ++ drop (from + n) old) (sym front)
    ∙ ap (λ (l : List CRange). take (from + n) new ++ l) (sym back) ∙ take-append-drop (from + n) new
    ∙ ap (λ (k : ℕ). copy_within old from to k) (sym same)

-- the runs from `to` on were moved after those that replace others, and these were written
module _ (old ys new vs : List CRange) (before from to after : ℕ) (some : before ≤ length old) (ordered : from ≤ to) (within : to ≤ before)
    (count : after ≡ from + length vs + (before - to)) (room : after ≤ length old)
    (moved : ys ≡ copy_within old to before (from + length vs))
    (is : new ≡ take from ys ++ (vs ++ drop (from + length vs) ys)) where
  kept : take (from + length vs + (before - to)) ys ≡ take (from + length vs) old ++ take (before - to) (drop to old)
  kept = ap (take (from + length vs + (before - to))) moved
      ∙ take-paste old (from + length vs) (drop to old) (before - to) (omega (arith, count, room))
      (omega (arith, some, within, length-drop to old))

  stays : drop (from + length vs + (before - to)) ys ≡ drop (from + length vs + (before - to)) old
  stays = ap (drop (from + length vs + (before - to))) moved
      ∙ drop-paste old (from + length vs) (drop to old) (before - to) (omega (arith, count, room))
      (omega (arith, some, within, length-drop to old))

  in_front : take from ys ≡ take from old
  in_front =
      sym (take-take from (from + length vs + (before - to)) ys (omega arith)) ∙ ap (take from) kept
      ∙ take-append-le from (take (from + length vs) old) (take (before - to) (drop to old))
      (omega (arith, count, room, length-take (from + length vs) old))
      ∙ take-take from (from + length vs) old (omega arith)

  next : take (before - to) (drop (from + length vs) ys) ≡ take (before - to) (drop to old)
  next =
      sym (drop-take (from + length vs) (before - to) ys) ∙ ap (drop (from + length vs)) kept
      ∙ drop_seam (take (from + length vs) old) (take (before - to) (drop to old)) (from + length vs)
      (omega (arith, count, room, length-take (from + length vs) old))

  behind : drop (from + length vs) ys ≡ take (before - to) (drop to old) ++ drop (from + length vs + (before - to)) old
  behind =
      sym (take-append-drop (before - to) (drop (from + length vs) ys))
      ∙ ap (λ (l : List CRange). l ++ drop (before - to) (drop (from + length vs) ys)) next
      ∙ ap (λ (l : List CRange). take (before - to) (drop to old) ++ l) (drop-drop (before - to) (from + length vs) ys ∙ stays)

  parts : new ≡ (take from old ++ (vs ++ take (before - to) (drop to old))) ++ drop after old
  parts =
      is ∙ ap (λ (l : List CRange). l ++ (vs ++ drop (from + length vs) ys)) in_front
      ∙ ap (λ (l : List CRange). take from old ++ (vs ++ l)) behind
      ∙ ap (λ (l : List CRange). take from old ++ l) (sym (append_assoc vs (take (before - to) (drop to old))
      (drop (from + length vs + (before - to)) old)))
      ∙ sym (append_assoc (take from old) (vs ++ take (before - to) (drop to old)) (drop (from + length vs + (before - to)) old))
      ∙ ap (λ (k : ℕ). (take from old ++ (vs ++ take (before - to) (drop to old))) ++ drop k old) (sym count)

  long : after ≡ length (take from old ++ (vs ++ take (before - to) (drop to old)))
  long = omega (
    arith,
    count,
    some,
    ordered,
    within,
    length-append (take from old) (vs ++ take (before - to) (drop to old)),
    length-append vs (take (before - to) (drop to old)),
    length-take from old,
    length-take (before - to) (drop to old),
    length-drop to old,
  )

  moved_runs : take after new ≡ take from (take before old) ++ (vs ++ drop to (take before old))
  moved_runs =
      let one : take from (take before old) ≡ take from old =
      take-take from before old (omega (arith, ordered, within)) in
      let sum : before ≡ to + (before - to) = omega (arith, within) in
      let two : drop to (take before old) ≡ take (before - to) (drop to old) =
      ap (λ (k : ℕ). drop to (take k old)) sum ∙ drop-take to (before - to) old in
      ap (take after) parts
      ∙ take_seam (take from old ++ (vs ++ take (before - to) (drop to old))) (drop after old) after long
      ∙ ap (λ (l : List CRange). l ++ (vs ++ take (before - to) (drop to old))) (sym one)
      ∙ ap (λ (l : List CRange). take from (take before old) ++ (vs ++ l)) (sym two)

  moved_behind : drop after new ≡ drop after old
  moved_behind = ap (drop after) parts ∙ drop_seam (take from old ++ (vs ++ take (before - to) (drop to old))) (drop after old) after long

  moved_length : length new ≡ length old
  moved_length = omega (
    arith,
    ap length parts,
    length-append
        (take from old ++ (vs ++ take (before - to) (drop to old))) (drop after old),
    long,
    length-drop after old,
    room,
  )

pub made : (old ys new : List CRange) (before after more : ℕ) (change : Splice) → before ≤ length old
    → FitsRoom (take before old) change → more ≡ length (words_of change.by)
    → after ≡ change.from + more + (before - change.to) → after ≤ length old
    → ys ≡ copy_within old change.to before (change.from + more)
    → new ≡ take change.from ys ++ (words_of change.by ++ drop (change.from + length (words_of change.by)) ys)
    → Made old before change new after
made old ys new before after more change some fits more_is count room moved is =
    let ordered = fits.ordered in
    let in' = fits.within in
    let within : change.to ≤ before = omega (arith, in', length-take before old) in
    let vs = words_of change.by in
    let count' : after ≡ change.from + length vs + (before - change.to) = omega (arith, count, more_is) in
    let moved' : ys ≡ copy_within old change.to before (change.from + length vs) = rw (← more_is) moved in
    record {
      runs = moved_runs old ys new vs before change.from change.to after some ordered within count' room moved' is;
      within = omega (arith, room, moved_length old ys new vs before change.from change.to after some ordered within count' room moved' is);
      behind = moved_behind old ys new vs before change.from change.to after some ordered within count' room moved' is;
    }

-- ---- whether there is room

-- a change that makes one more run does so whichever list the new set has
pub one_more : (test : ℕ → Bool) (words : List CRange) (change : Splice) (count : ℕ) → Plans test words change
    → length (after_change words change) ≡ count + 1 → (runs : List (Range ℕ)) → IsRunsOf test runs
    → length runs ≡ count + 1
one_more test words change count plan more runs h =
    ap length (IsRunsOf-unique test runs (runs_of (after_change words change)) h plan.runs.runs)
    ∙ many (after_change words change) ∙ more
