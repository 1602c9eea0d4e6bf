-- Changes of the entries that a set names.
use Rattle.std.proofs.Common.{◌≡◌, ℕ, ◌+◌, ◌-◌, ◌≤◌, List, [], ◌++◌, length, take, drop, sym, ap, ◌∙◌, zero-add, arith}
use Rattle.std.specs.List.{copy_within}
use Rattle.std.proofs.Math.Seq.{paste, take-append-add, drop-append-add}
use Rattle.std.proofs.lemmas.List.{append-nil, length-append, length-take, length-take-le, length-drop, take_at, drop_at, take_all, drop_all, drop-take, drop-drop}
use Rattle.std.proofs.lemmas.List.Edits.{take-paste, drop-paste}
use borrow.Rule.Slice.PartMut.{put_mid, post_of, mid_of}
use Rattle.quic_c_entries.specs.declared.words.CRange.{CRange}
use Rattle.quic_c_entries.specs.declared.change.Splice.{Splice}
use Rattle.quic_c_entries.specs.Changes.{FitsRoom, Made, after_change, words_of}
use Rattle.quic_c_runs.specs.declared.words.CRuns.{CRuns}
use Rattle.quic_c_runs.specs.Sets.{ChangesOnly, entries_at}
use Rattle.quic_c_runs.specs.Moves.{MadeAt}

-- ---- at the front

-- what replaces the first entries of a set ends where they did
module _ (old new vs : List CRange) (first count to at after : ℕ) (within : first + count ≤ length old) (some : to ≤ count)
    (place : at + length vs ≡ first + to) (counted : after ≡ length vs + (count - to))
    (is : new ≡ take at old ++ (vs ++ drop (at + length vs) old)) where
  front_length : length (take at old) ≡ at
  front_length = length-take-le at old (omega (arith, within, some, place))

  from_there : drop at new ≡ vs ++ drop (first + to) old
  from_there =
      ap (drop at) is ∙ drop_at (take at old) (vs ++ drop (at + length vs) old) at front_length
      ∙ ap (λ (n : ℕ). vs ++ drop n old) place

  front_runs : take after (drop at new) ≡ vs ++ drop to (take count (drop first old))
  front_runs =
      let sum : count ≡ to + (count - to) = omega (arith, some) in
      let left : drop to (take count (drop first old)) ≡ take (count - to) (drop (first + to) old) =
      ap (λ (n : ℕ). drop to (take n (drop first old))) sum ∙ drop-take to (count - to) (drop first old)
      ∙ ap (take (count - to)) (drop-drop to first old) in
      ap (take after) from_there ∙ ap (λ (n : ℕ). take n (vs ++ drop (first + to) old)) counted
      ∙ take-append-add vs (drop (first + to) old) (count - to) ∙ ap (λ (l : List CRange). vs ++ l) (sym left)

  front_within : at + after ≤ length new
  front_within = omega (
    arith,
    within,
    some,
    place,
    counted,
    front_length,
    ap length is,
    length-append (take at old) (vs ++ drop (at + length vs) old),
    length-append vs (drop (at + length vs) old),
    length-drop (at + length vs) old,
  )

  front_before : take at new ≡ take at old
  front_before = ap (take at) is ∙ take_at (take at old) (vs ++ drop (at + length vs) old) at front_length

  front_behind : drop (at + after) new ≡ drop (at + after) old
  front_behind =
      let end : first + to + (count - to) ≡ at + after = omega (arith, some, place, counted) in
      sym (drop-drop after at new) ∙ ap (drop after) from_there
      ∙ ap (λ (n : ℕ). drop n (vs ++ drop (first + to) old)) counted
      ∙ drop-append-add vs (drop (first + to) old) (count - to) ∙ drop-drop (count - to) (first + to) old
      ∙ ap (λ (n : ℕ). drop n old) end

pub made_at_front : (old new : List CRange) (before : CRuns) (change : Splice) (at after : ℕ)
    → before.first + before.count ≤ length old → FitsRoom (entries_at old before) change → change.from ≡ 0
    → at + length (words_of change.by) ≡ before.first + change.to
    → after ≡ length (words_of change.by) + (before.count - change.to)
    → new ≡ take at old ++ (words_of change.by ++ drop (at + length (words_of change.by)) old)
    → MadeAt old before change new (record { first = at; count = after })
made_at_front old new before change at after within fits zero place counted is =
    let in' = fits.within in
    let some : change.to ≤ before.count = omega (arith, in', length-take before.count (drop before.first old)) in
    let vs = words_of change.by in
    let entries = entries_at old before in
    record {
      runs = front_runs old new vs before.first before.count change.to at after within some place counted is
          ∙ ap (λ (n : ℕ). take n entries ++ (vs ++ drop change.to entries)) (sym zero);
      only = record {
        within = front_within old new vs before.first before.count change.to at after within some place counted is;
        before = front_before old new vs before.first before.count change.to at after within some place counted is;
        behind = front_behind old new vs before.first before.count change.to at after within some place counted is;
      };
    }

-- ---- behind the front

-- the entries from an index on, which a call was given
pub part_is : (old : List CRange) (first : ℕ) → mid_of first (length old - first) old ≡ drop first old
part_is old first = take_all (length old - first) (drop first old) (omega (arith, length-drop first old))

-- the array, once that call wrote them
pub part_put : (old part : List CRange) (first : ℕ)
    → put_mid first (length old - first) old part ≡ take first old ++ part
part_put old part first =
    let none : post_of first (length old - first) old ≡ [] =
    drop_all (length old - first) (drop first old) (omega (arith, length-drop first old)) in
    ap (λ (l : List CRange). take first old ++ (part ++ l)) none
    ∙ ap (λ (l : List CRange). take first old ++ l) (append-nil part)

pub made_behind : (old part new : List CRange) (before : CRuns) (change : Splice) (after : ℕ)
    → before.first ≤ length old → Made (drop before.first old) before.count change part after
    → new ≡ take before.first old ++ part → MadeAt old before change new (record { first = before.first; count = after })
made_behind old part new before change after within made is =
    let first = before.first in
    let long : length (take first old) ≡ first = length-take-le first old within in
    let there : drop first new ≡ part = ap (drop first) is ∙ drop_at (take first old) part first long in
    let room = made.within in
    record {
      runs = ap (take after) there ∙ made.runs;
      only = record {
        within = omega (arith, room, long, ap length is, length-append (take first old) part);
        before = ap (take first) is ∙ take_at (take first old) part first long;
        behind = sym (drop-drop after first new) ∙ ap (drop after) there ∙ made.behind ∙ drop-drop after first old;
      };
    }

-- ---- the entries were moved to the front

pub moved_there : (old new : List CRange) (first count : ℕ) → first + count ≤ length old
    → new ≡ copy_within old first (first + count) 0 → take count new ≡ take count (drop first old)
moved_there old new first count within is =
    let long : first + count - first ≡ count = omega arith in
    let start : count ≡ 0 + count = omega arith in
    let pasted : new ≡ paste old 0 (drop first old) count = is ∙ ap (paste old 0 (drop first old)) long in
    ap (take count) pasted ∙ ap (λ (n : ℕ). take n (paste old 0 (drop first old) count)) start
    ∙ take-paste old 0 (drop first old) count (omega arith) (omega (arith, within, length-drop first old))

pub moved_behind : (old new : List CRange) (first count : ℕ) → first + count ≤ length old
    → new ≡ copy_within old first (first + count) 0 → drop count new ≡ drop count old
moved_behind old new first count within is =
    let long : first + count - first ≡ count = omega arith in
    let start : count ≡ 0 + count = omega arith in
    let pasted : new ≡ paste old 0 (drop first old) count = is ∙ ap (paste old 0 (drop first old)) long in
    ap (drop count) pasted ∙ ap (λ (n : ℕ). drop n (paste old 0 (drop first old) count)) start
    ∙ drop-paste old 0 (drop first old) count (omega arith) (omega (arith, within, length-drop first old))
    ∙ ap (λ (n : ℕ). drop n old) (sym start)

-- a change that needs one more entry was made there
pub made_moved : (old moved new : List CRange) (before set after : CRuns) (change : Splice)
    → MadeAt moved set change new after → set.first ≡ 0 → set.count ≡ before.count
    → take before.count moved ≡ entries_at old before → drop before.count moved ≡ drop before.count old
    → after.first ≡ 0 → length (after_change (entries_at old before) change) ≡ before.count + 1
    → MadeAt old before change new after
made_moved old moved new before set after change made front counted there behind begins more =
    let within = made.only.within in
    let same : entries_at moved set ≡ entries_at old before =
    ap (λ (n : ℕ). take set.count (drop n moved)) front ∙ ap (λ (n : ℕ). take n moved) counted ∙ there in
    let runs : entries_at new after ≡ after_change (entries_at old before) change =
    made.runs ∙ ap (λ (l : List CRange). after_change l change) same in
    let end : after.first + after.count ≡ before.count + 1 = omega (
      arith,
      within,
      begins,
      more,
      ap length runs,
      length-take after.count (drop after.first new),
      length-drop after.first new,
    ) in
    let others : drop (before.count + 1) moved ≡ drop (before.count + 1) old =
    sym (drop-drop 1 before.count moved) ∙ ap (drop 1) behind ∙ drop-drop 1 before.count old in
    record {
      runs = runs;
      only = record {
        within = within;
        before = ap (λ (n : ℕ). take n new) begins ∙ sym (ap (λ (n : ℕ). take n old) begins);
        behind = made.only.behind ∙ ap (λ (n : ℕ). drop n moved) end ∙ others ∙ sym (ap (λ (n : ℕ). drop n old) end);
      };
    }
