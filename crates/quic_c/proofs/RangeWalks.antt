-- The loops of callers that walk over the ranges of an ACK.
use Rattle.std.proofs.Common.{◌≡◌, ℕ, ◌+◌, ◌<◌, ◌≤◌, List, [], ◌∷◌, ◌++◌, length, map, take, drop, set, refl, sym, ap, subst, ◌∙◌, append_assoc, inl, inr, arith}
use Rattle.std.specs.Prelude.{◌⊎◌, ℤ, pos}
use Rattle.std.proofs.lemmas.List.{append-nil, length-append, length-drop, length-take-le, length-map, map-append, drop-drop, take_at, take_more_set, drop-set-lt}
use Rattle.std.proofs.Math.ListN.{length-set}
use Rattle.std.proofs.Math.Seq.{take-add}
use Rattle.std.proofs.lemmas.Grind.{drop_more_same}
use Rattle.quic_frame_fields.specs.declared.frame.ack.Ack.{Ack}
use Rattle.quic_frame_fields.specs.Acks.{ranges_acked}
use Rattle.quic_frames.specs.declared.frame.Frame.TheVariants as frames
use Rattle.quic_frames.specs.Meaning.{meaning_of}
use Rattle.quic_frames.specs.declared.frame.rules.Rules.{Rules}
use Rattle.quic_c_words.specs.declared.words.CFrame.{CFrame}
use Rattle.quic_c_words.specs.declared.words.CFrameIter.{CFrameIter}
use Rattle.quic_c_words.specs.declared.words.CRange.{CRange}
use Rattle.quic_c_words.specs.declared.words.CRangeIter.{CRangeIter}
use Rattle.quic_c.specs.Answers.{GivesFrameWords}
use Rattle.quic_c.specs.Filling.{FillsRanges, Shows, StepsOver}
use Rattle.quic_c.specs.Ranges.{GivesHead, GivesRange, HasLeft, LacksHead, LacksRange, frame_of_words}
use Rattle.quic_results.specs.declared.results.Failure.TheVariants as failure
use Rattle.quic_results.specs.Results.{failed}
use Rattle.quic_c.specs.Walks.{StoresRanges, range_entry}
use Rattle.quic_c.proofs.AckRanges.{HasAck, has_ack}
use Rattle.quic_c.proofs.Walking.{Behind}

-- ---- where it begins

ack_there : (rules : Rules) (old new : CFrameIter) (payload : List ℕ) (frame : CFrame) (ack : Ack)
    → (given : GivesFrameWords rules old payload new frame) → given.frame ≡ frames.Ack ack
    → HasAck ack (frame_of_words frame payload)
ack_there rules old new payload frame ack given is =
    let f = given.finds in
    let begin : frame.begin ≡ old.offset = ap (λ (w : CFrame). w.begin) given.words in
    let end : frame.end ≡ new.offset = ap (λ (w : CFrame). w.end) given.words in
    rw (begin, end) (has_ack _ f.found ack _ f.stands.encoded (f.says ∙ ap meaning_of is))

pub ranges_left : (rules : Rules) (old new : CFrameIter) (payload : List ℕ) (frame : CFrame) (ack : Ack)
    (begun : CRangeIter) → (given : GivesFrameWords rules old payload new frame) → given.frame ≡ frames.Ack ack
    → GivesHead frame payload begun → HasLeft begun payload (ranges_acked ack)
ranges_left rules old new payload frame ack begun given is head =
    let a = ack_there rules old new payload frame ack given is in
    subst (HasLeft begun payload) a.ranges (head.ack ack.largest a.blocks a.rest a.begins)

pub head_there : (rules : Rules) (old new : CFrameIter) (payload : List ℕ) (frame : CFrame) (ack : Ack)
    → (given : GivesFrameWords rules old payload new frame) → given.frame ≡ frames.Ack ack
    → LacksHead frame payload → ⊥
head_there rules old new payload frame ack given is lacks =
    let begin : frame.begin ≡ old.offset = ap (λ (w : CFrame). w.begin) given.words in
    let end : frame.end ≡ new.offset = ap (λ (w : CFrame). w.end) given.words in
    let some = given.finds.stands.some in
    let within = given.finds.stands.within in
    let a = ack_there rules old new payload frame ack given is in
    elim lacks [
      | inl less ↦ omega (arith, less, begin, end, some)
      | inr others ↦ elim others [
        | inl past ↦ omega (arith, past, end, within)
        | inr none ↦ none ack.largest _ _ (record {
          type = a.begins.type;
          is_ack = a.begins.is_ack;
          delay = a.begins.delay;
          header = a.begins.header;
          parts = a.begins.parts;
          numbers = a.begins.numbers;
        })
      ]
    ]

-- ---- on the way

-- The entries are those of the ranges that were passed, and the others are left.
record Passes (payload : List ℕ) (every : List (ℕ × ℕ)) (ranges : CRangeIter) (entries : List CRange) : Type 0 where
  passed : List (ℕ × ℕ)
  left : List (ℕ × ℕ)
  parts : every ≡ passed ++ left
  behind : HasLeft ranges payload left
  are : entries ≡ map range_entry passed

pass_one : (payload : List ℕ) (every : List (ℕ × ℕ)) (old new : CRangeIter) (entries : List CRange) (entry : CRange)
    → Passes payload every old entries → GivesRange old payload new entry
    → Passes payload every new (entries ++ entry ∷ [])
pass_one payload every old new entries entry p g =
    let r = g.ranges p.left p.behind in
    let range : ℕ × ℕ = (entry.start, old.largest) in
    let is : entry ≡ range_entry range =
    ap (λ (n : ℕ). record { start = entry.start; end = n }) g.above in
    record {
      passed = p.passed ++ range ∷ [];
      left = r.0;
      parts = p.parts ∙ ap (λ (l : List (ℕ × ℕ)). p.passed ++ l) r.1 ∙ sym (append_assoc p.passed (range ∷ []) r.0);
      behind = r.2;
      are = ap (λ (l : List CRange). l ++ entry ∷ []) p.are
          ∙ ap (λ (e : CRange). map range_entry p.passed ++ e ∷ []) is
          ∙ sym (map-append range_entry p.passed (range ∷ []));
    }

pass_all : (payload : List ℕ) (every : List (ℕ × ℕ)) (old new : CRangeIter) (entries more : List CRange)
    → Passes payload every old entries → Shows (StepsOver payload) old more new
    → Passes payload every new (entries ++ more)
pass_all payload every old new entries [] p s =
    subst (Passes payload every new) (sym (append-nil entries))
    (subst (λ (r : CRangeIter). Passes payload every r entries) s p)
pass_all payload every old new entries (entry ∷ more) p s =
    subst (Passes payload every new) (append_assoc entries (entry ∷ []) more)
    (pass_all payload every s.0 new (entries ++ entry ∷ []) more (pass_one payload every old s.0 entries entry p s.1) s.2)

-- So many entries were stored; if an ACK's ranges were left when this began, they are the first of these.
pub record RangeWalk (begun : CRangeIter) (payload : List ℕ) (before : List CRange) (ranges : CRangeIter)
    (after : List CRange) (count : ℕ) : Type 0 where
  pub few : count ≤ length after
  pub all : length after ≡ length before
  pub kept : drop count after ≡ drop count before
  passes : (every : List (ℕ × ℕ)) → HasLeft begun payload every → Passes payload every ranges (take count after)

pub range_walk_begins : (begun : CRangeIter) (payload : List ℕ) (before : List CRange)
    → RangeWalk begun payload before begun before 0
range_walk_begins begun payload before = record {
  few = omega arith;
  all = refl;
  kept = refl;
  passes = λ every left. record { passed = []; left = every; parts = refl; behind = left; are = refl };
}

pub range_walk_next : (begun : CRangeIter) (payload : List ℕ) (before : List CRange) (old new : CRangeIter)
    (after : List CRange) (count : ℕ) (entry : CRange) → RangeWalk begun payload before old after count
    → count < length after → GivesRange old payload new entry
    → RangeWalk begun payload before new (set after count entry) (count + 1)
range_walk_next begun payload before old new after count entry w room g =
    let front : take (count + 1) (set after count entry) ≡ take count after ++ entry ∷ [] =
    take_more_set after count entry room in
    record {
      few = simp length-set (omega arith);
      all = simp length-set w.all;
      kept = drop-set-lt (count + 1) after count entry (omega arith) ∙ drop_more_same after before count w.kept;
      passes = λ every left. rw front (pass_one payload every old new (take count after) entry (w.passes every left) g);
    }

pub range_walk_more : (begun : CRangeIter) (payload : List ℕ) (before : List CRange) (old new : CRangeIter)
    (after here entries stored : List CRange) (count more : ℕ) → RangeWalk begun payload before old after count
    → Behind after count here entries stored → FillsRanges old payload here new entries more
    → RangeWalk begun payload before new stored (count + more)
range_walk_more begun payload before old new after here entries stored count more w b f =
    let front : take (count + more) stored ≡ take count after ++ take more entries =
    take-add count more stored ∙ ap (λ (l : List CRange). take count stored ++ take more l) b.back
    ∙ ap (λ (l : List CRange). l ++ take more entries) b.front in
    record {
      few = omega (arith, f.few, ap length b.was, length-drop count after, b.size, w.few);
      all = b.size ∙ w.all;
      kept = sym (drop-drop more count stored) ∙ ap (drop more) b.back ∙ f.kept ∙ ap (drop more) (b.was ∙ w.kept)
          ∙ drop-drop more count before;
      passes = λ every left.
          rw front (pass_all payload every old new (take count after) (take more entries) (w.passes every left) f.shows);
    }

-- ---- where it stops

stores : (begun : CRangeIter) (payload : List ℕ) (before : List CRange) (ranges : CRangeIter)
    (after stored : List CRange) (count : ℕ) (last : ℤ) (every : List (ℕ × ℕ))
    → (w : RangeWalk begun payload before ranges after count) → (left : HasLeft begun payload every)
    → take count stored ≡ take count after → drop count stored ≡ drop count after
    → ((last ≡ pos 0) × (ranges.left ≡ 0)) ⊎ ((last ≡ pos 1) × (length after ≤ count))
    → StoresRanges every before count last stored
stores begun payload before ranges after stored count last every w left front back why =
    let p = w.passes every left in
    let size : length p.passed ≡ count =
    sym (length-map p.passed range_entry) ∙ sym (ap length p.are) ∙ length-take-le count after w.few in
    let first : take count every ≡ p.passed = ap (take count) p.parts ∙ take_at p.passed p.left count size in
    let sizes : length every ≡ length p.passed + length p.left = ap length p.parts ∙ length-append p.passed p.left in
    record {
      few = omega (arith, w.few, w.all);
      are = front ∙ p.are ∙ ap (map range_entry) (sym first);
      kept = back ∙ w.kept;
      why = elim why [
        | inl end ↦ inl (end.0, omega (arith, sizes, size, p.behind.count, end.1))
        | inr full ↦ inr (full.0, omega (arith, full.1, w.few, w.all), omega (arith, sizes, size))
      ];
    }

pub stores_full : (begun : CRangeIter) (payload : List ℕ) (before : List CRange) (ranges : CRangeIter)
    (after : List CRange) (count : ℕ) (every : List (ℕ × ℕ)) → RangeWalk begun payload before ranges after count
    → HasLeft begun payload every → length after ≤ count → StoresRanges every before count (pos 1) after
stores_full begun payload before ranges after count every w left full =
    stores begun payload before ranges after after count (pos 1) every w left refl refl (inr (refl, full))

pub stores_end : (begun : CRangeIter) (payload : List ℕ) (before : List CRange) (ranges : CRangeIter)
    (after stored : List CRange) (count : ℕ) (last : ℤ) (every : List (ℕ × ℕ))
    → RangeWalk begun payload before ranges after count → HasLeft begun payload every → stored ≡ after
    → last ≡ pos 0 → ranges.left ≡ 0 → StoresRanges every before count last stored
stores_end begun payload before ranges after stored count last every w left same end none =
    stores begun payload before ranges after stored count last every w left (ap (take count) same) (ap (drop count) same)
    (inl (end, none))

-- ranges that are left can be read
pub still_there : (begun : CRangeIter) (payload : List ℕ) (before : List CRange) (ranges : CRangeIter)
    (after : List CRange) (count : ℕ) (every : List (ℕ × ℕ)) → RangeWalk begun payload before ranges after count
    → HasLeft begun payload every → ((others : List (ℕ × ℕ)) → HasLeft ranges payload others → ⊥) → ⊥
still_there begun payload before ranges after count every w left none =
    let p = w.passes every left in none p.left p.behind

-- a call doesn't return 1
pub range_stops : (begun : CRangeIter) (payload : List ℕ) (before : List CRange) (ranges : CRangeIter)
    (after stored : List CRange) (count : ℕ) (result : ℤ) (every : List (ℕ × ℕ))
    → RangeWalk begun payload before ranges after count → HasLeft begun payload every
    → (result ≡ pos 0) ⊎ (result ≡ failed failure.Place) → (result ≡ pos 0 → ranges.left ≡ 0)
    → (result ≡ failed failure.Place → LacksRange ranges payload) → stored ≡ after
    → StoresRanges every before count result stored
range_stops begun payload before ranges after stored count result every w left (inl end) ends lacks same =
    stores_end begun payload before ranges after stored count result every w left same end (ends end)
range_stops begun payload before ranges after stored count result every w left (inr place) ends lacks same =
    absurd (still_there begun payload before ranges after count every w left (lacks place).none)

pub but_first : (P Q : Type 0) → P ⊎ Q → (P → ⊥) → Q
but_first P Q (inl p) none = absurd (none p)
but_first P Q (inr q) none = q

pub but_room : (result : ℤ) → (result ≡ pos 0) ⊎ (result ≡ failed failure.NoRoom) ⊎ (result ≡ failed failure.Place)
    → (result ≡ failed failure.NoRoom → ⊥) → (result ≡ pos 0) ⊎ (result ≡ failed failure.Place)
but_room result (inl end) room = inl end
but_room result (inr (inl full)) room = absurd (room full)
but_room result (inr (inr place)) room = inr place
