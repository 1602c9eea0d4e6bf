-- Ranges that are filled one after the other.
use Rattle.std.proofs.Common.{◌≡◌, ℕ, ◌+◌, ◌-◌, ◌<◌, ◌≤◌, List, ◌∷◌, ◌++◌, length, take, drop, set, ◌∙◌, inr, arith}
use Rattle.std.specs.Prelude.{◌⊎◌, ◌^◌, []}
use Rattle.quic_frame_fields.specs.declared.frame.fault.Fault.{Fault}
use Rattle.std.proofs.lemmas.List.{take_more_set, drop-set-lt}
use Rattle.std.proofs.Math.ListN.{length-set}
use Rattle.std.proofs.lemmas.Grind.{drop_more_same}
use Rattle.quic_c_words.specs.declared.words.CRange.{CRange}
use Rattle.quic_c_words.specs.declared.words.CRangeIter.{CRangeIter}
use Rattle.quic_c.specs.Ranges.{CutRange, GivesRange, TakesRange}
use Rattle.quic_c.specs.Filling.{Shows, FillsRanges, StepsOver, HasNoRange}
use Rattle.quic_c.proofs.Filling.{shows-append}
use Rattle.quic_c.proofs.Places.{end_of_end}
use Rattle.quic_c.proofs.RangeSteps.{iter_at, next_within, none_there, range_given, range_words}

-- the words for ranges in the last bytes of a payload
abbrev pub left_at : List ℕ → List ℕ → ℕ → ℕ → CRangeIter
left_at payload bytes left largest = iter_at (length payload - length bytes) left largest

-- So many entries are filled, up to the ranges that are left.
pub record RangeFilling (old : CRangeIter) (payload : List ℕ) (before : List CRange) (bytes : List ℕ)
    (left largest : ℕ) (after : List CRange) (count : ℕ) : Type 0 where
  pub few : count ≤ length after
  pub all : length after ≡ length before
  pub short : length bytes ≤ length payload
  pub is_end : drop (length payload - length bytes) payload ≡ bytes
  pub small : largest < 2 ^ 62
  pub shows : Shows (StepsOver payload) old (take count after) (left_at payload bytes left largest)
  pub kept : drop count after ≡ drop count before

-- what a step over the bytes that are left means for the words
pub range_of_left : (payload : List ℕ) (left largest least next : ℕ) (bytes rest : List ℕ)
    → length bytes ≤ length payload → drop (length payload - length bytes) payload ≡ bytes → 0 < left
    → largest < 2 ^ 62 → TakesRange largest (left - 1) bytes least next rest → length rest < length bytes
    → drop (length bytes - length rest) bytes ≡ rest
    → GivesRange (left_at payload bytes left largest) payload (left_at payload rest (left - 1) next)
    (range_words least (largest + 1))
range_of_left payload left largest least next bytes rest short is_end some small takes shorter tail =
    range_given payload (length payload - length bytes) left largest least next rest (omega arith) some small
    (rw is_end takes) (rw is_end shorter) (rw is_end tail)

-- the bytes that are left don't begin with a range
pub none_of_left : (payload : List ℕ) (left largest : ℕ) (bytes : List ℕ) (reason : Fault)
    → drop (length payload - length bytes) payload ≡ bytes → 0 < left
    → CutRange largest (left - 1) bytes reason → HasNoRange (left_at payload bytes left largest) payload
none_of_left payload left largest bytes reason is_end some cut =
    inr (none_there (left_at payload bytes left largest) payload reason some (rw is_end cut))

pub ranges_go_on : (old : CRangeIter) (payload : List ℕ) (before : List CRange) (bytes : List ℕ) (left largest : ℕ)
    (after : List CRange) (count : ℕ) (rest : List ℕ) (least next : ℕ)
    → RangeFilling old payload before bytes left largest after count → count < length after → 0 < left
    → TakesRange largest (left - 1) bytes least next rest → length rest < length bytes
    → drop (length bytes - length rest) bytes ≡ rest
    → RangeFilling old payload before rest (left - 1) next (set after count (range_words least (largest + 1))) (count + 1)
ranges_go_on old payload before bytes left largest after count rest least next s room some takes shorter tail =
    let entry : CRange = range_words least (largest + 1) in
    let front : take (count + 1) (set after count entry) ≡ take count after ++ entry ∷ [] =
    take_more_set after count entry room in
    let short = s.short in
    let small = s.small in
    let gives =
    range_of_left payload left largest least next bytes rest short s.is_end some small takes shorter tail in
    let below = next_within largest (left - 1) bytes least next rest takes in
    record {
      few = simp length-set (omega arith);
      all = simp length-set s.all;
      short = omega arith;
      is_end = end_of_end payload (length payload - length bytes) rest (omega arith) (rw s.is_end (omega arith))
          (rw s.is_end tail);
      small = omega arith;
      shows = rw front (shows-append (StepsOver payload) old (take count after) (left_at payload bytes left largest)
          entry (left_at payload rest (left - 1) next) s.shows gives);
      kept = drop-set-lt (count + 1) after count entry (omega arith) ∙ drop_more_same after before count s.kept;
    }

pub ranges_end : (old : CRangeIter) (payload : List ℕ) (before : List CRange) (bytes : List ℕ) (left largest : ℕ)
    (after : List CRange) (count : ℕ) → RangeFilling old payload before bytes left largest after count
    → (count ≡ length before) ⊎ HasNoRange (left_at payload bytes left largest) payload
    → FillsRanges old payload before (left_at payload bytes left largest) after count
ranges_end old payload before bytes left largest after count s full =
    record { few = rw (← s.all) s.few; shows = s.shows; kept = s.kept; full = full }
