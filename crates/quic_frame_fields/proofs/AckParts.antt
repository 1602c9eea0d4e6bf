-- The parts of an ACK, as its encoders write them.
use Rattle.std.proofs.Common.{◌≡◌, ℕ, ◌+◌, ◌-◌, ◌<◌, ◌^◌, Bool, true, List, [], ◌∷◌, ◌++◌, length, refl, sym, ap, subst, ◌∙◌, append_assoc, arith}
use Rattle.std.specs.Prelude.{Option, Some, None, Result, Ok, Err, take}
use Rattle.std.proofs.lemmas.List.{append-nil, length-append}
use Rattle.std.specs.declared.ops.Range.{Range}
use Rattle.quic_base.specs.Varint.{shortest_varint}
use Rattle.quic_ranges.specs.Runs.{IsMaximalRuns, member}
use Rattle.quic_frame_fields.specs.declared.frame.ack.EcnCounts.{EcnCounts}
use Rattle.quic_frame_fields.specs.Field.{Number, Ranges}
use Rattle.quic_frame_fields.specs.Table.{Ack}
use Rattle.quic_frame_fields.specs.Payload.{Meaning}
use Rattle.quic_frame_fields.specs.Parts.{frame_of, counts_of}
use Rattle.quic_frame_fields.specs.Sets.{ends_of, ranges_in, ack_of, ack_type, count_numbers}
use Rattle.quic_frame_fields.specs.Shortest.{shortest_below, shortest_frame}
use Rattle.quic_base.specs.Codec.{IsBegun, KeepsRoom}
use Rattle.quic_base.specs.Writing.{Writes}
use Rattle.quic_frame_fields.specs.Numbers.{AreNumeric, shortest_varints}
use Rattle.quic_frame_fields.specs.Putting.{Flushes}
use Rattle.quic_base.proofs.Encoders.{Wrote, writes_last, writes_within}
use Rattle.quic_frame_fields.proofs.Sets.{bounded, ranges_in-last, length-ranges_in, HasBelow, has_below}

pub ack_parts : (last : Bool) (greatest delay : ℕ) (range : ℕ × ℕ) (ranges : List (ℕ × ℕ)) (counts : Option EcnCounts)
    → shortest_frame last (frame_of Ack (Number greatest ∷ Number delay ∷ Ranges (range ∷ ranges) ∷ counts_of counts))
    ≡ shortest_varints (ack_type counts ∷ greatest ∷ delay ∷ length ranges ∷ (range.1 - range.0) ∷ [])
    ++ (shortest_below range.0 ranges ++ shortest_varints (count_numbers counts))
unfolding shortest_frame
ack_parts last greatest delay range ranges None = simp (append_assoc, append-nil)
ack_parts last greatest delay range ranges (Some counts) = simp (append_assoc, append-nil)

-- ---- the runs of a set, the greatest first

-- what was written of all the bytes, and the runs that are left below another one
pub record WroteRuns (all : List ℕ) (above : Range ℕ) (left : List (Range ℕ)) (written : List ℕ) (spare : ℕ)
    (written' : List ℕ) (spare' : ℕ) : Type 0 where
  pub before : List ℕ
  pub wrote : Wrote before written spare written' spare'
  pub parts : all ≡ before ++ shortest_below above.start (ranges_in left)
  pub maximal : IsMaximalRuns (left ++ above ∷ [])
  pub bound : above.start < 2 ^ 62

abbrev pub run_numbers : Range ℕ → Range ℕ → List ℕ
run_numbers above run = (above.start - run.end - 1) ∷ (run.end - 1 - run.start) ∷ []

-- the next run to be written
pub record NextRun (all before : List ℕ) (above : Range ℕ) (run : Range ℕ) (runs : List (Range ℕ)) : Type 0 where
  pub below : HasBelow runs run above
  pub numeric : AreNumeric (run_numbers above run)
  pub parts : all ≡ before ++ (shortest_varints (run_numbers above run) ++ shortest_below run.start (ranges_in runs))

pub next_run : (all : List ℕ) (above run : Range ℕ) (runs left : List (Range ℕ)) (w w1 : List ℕ) (s s1 : ℕ)
    (x : WroteRuns all above left w s w1 s1)
    → left ≡ runs ++ run ∷ []
    → NextRun all x.before above run runs
next_run all above run runs left w w1 s s1 x e =
    let below = has_below runs left run above e x.maximal in
    let bytes = shortest_below run.start (ranges_in runs) in
    let gap : above.start - ((run.end - 1) + 2) ≡ above.start - run.end - 1 = omega (arith, below.some) in
    let one : shortest_below above.start (ranges_in left) ≡ shortest_varint (above.start - ((run.end - 1) + 2))
    ++ (shortest_varint (run.end - 1 - run.start) ++ bytes) =
    ap (λ (l : List (Range ℕ)). shortest_below above.start (ranges_in l)) e
    ∙ ap (shortest_below above.start) (ranges_in-last runs run) in
    let two : shortest_varint (above.start - ((run.end - 1) + 2))
    ++ (shortest_varint (run.end - 1 - run.start) ++ bytes) ≡ shortest_varints (run_numbers above run) ++ bytes =
    rw gap (simp (append_assoc, append-nil)) in
    record {
      below = below;
      numeric = (omega (arith, x.bound), (omega (arith, below.apart, x.bound), tt));
      parts = x.parts ∙ ap (λ (l : List ℕ). x.before ++ l) (one ∙ two);
    }

-- an ACK of a set, by its greatest run and the runs below that
pub record SetParts (delay : ℕ) (whole runs : List (Range ℕ)) (run : Range ℕ) (counts : Option EcnCounts) (ty count : ℕ) : Type 0 where
  pub numeric : AreNumeric (ty ∷ (run.end - 1) ∷ delay ∷ count ∷ (run.end - 1 - run.start) ∷ [])
  pub parts : (last : Bool) → shortest_frame last (ack_of delay whole counts)
      ≡ shortest_varints (ty ∷ (run.end - 1) ∷ delay ∷ count ∷ (run.end - 1 - run.start) ∷ [])
      ++ (shortest_below run.start (ranges_in runs) ++ shortest_varints (count_numbers counts))

pub small_type : (counts : Option EcnCounts) → ack_type counts < 2 ^ 62
small_type None = omega arith
small_type (Some counts) = omega arith

pub set_parts : (delay : ℕ) (whole runs : List (Range ℕ)) (run : Range ℕ) (counts : Option EcnCounts) (ty size : ℕ)
    → whole ≡ runs ++ run ∷ [] → ty ≡ ack_type counts → size ≡ length whole → delay < 2 ^ 62
    → IsMaximalRuns whole → ((n : ℕ) → member whole n ≡ true → n < 2 ^ 62)
    → SetParts delay whole runs run counts ty (size - 1)
set_parts delay whole runs run counts ty size e ty_is size_is delay_fits maximal all =
    let b = bounded runs whole run e maximal all in
    let count : size - 1 ≡ length (ranges_in runs) =
    omega (arith, size_is, ap length e, length-append runs (run ∷ []), length-ranges_in runs) in
    let ranges : ranges_in whole ≡ ends_of run ∷ ranges_in runs = ap ranges_in e ∙ ranges_in-last runs run in
    record {
      numeric = (
        omega (arith, ty_is, small_type counts),
        (
          b.greatest,
          (delay_fits, (omega (arith, count, length-ranges_in runs, b.few), (omega (arith, b.greatest), tt))),
        ),
      );
      parts = λ last. rw (ranges, ty_is, count) (ack_parts last (run.end - 1) delay (ends_of run) (ranges_in runs) counts);
    }

-- ---- what is read from an ACK

same_counts : (some others : Option EcnCounts) → counts_of some ≡ counts_of others → some ≡ others
same_counts None None e = refl
same_counts None (Some others) e = absurd cc
same_counts (Some some) None e = absurd cc
same_counts (Some some) (Some others) e =
    let one : some.ect0 ≡ others.ect0 = cc in
    let two : some.ect1 ≡ others.ect1 = cc in
    let three : some.ce ≡ others.ce = cc in
    ap (λ (n : ℕ). Some (counts n some.ect1 some.ce)) one ∙ ap (λ (n : ℕ). Some (counts others.ect0 n some.ce)) two
    ∙ ap (λ (n : ℕ). Some (counts others.ect0 others.ect1 n)) three
  where
    counts : ℕ → ℕ → ℕ → EcnCounts
    counts ect0 ect1 ce = record { ect0 = ect0; ect1 = ect1; ce = ce }

pub same_ack : (greatest delay greatest' delay' : ℕ) (ranges ranges' : List (ℕ × ℕ)) (counts counts' : Option EcnCounts)
    → frame_of Ack (Number greatest ∷ Number delay ∷ Ranges ranges ∷ counts_of counts)
    ≡ frame_of Ack (Number greatest' ∷ Number delay' ∷ Ranges ranges' ∷ counts_of counts')
    → (ranges ≡ ranges') × (delay ≡ delay') × (counts ≡ counts')
same_ack greatest delay greatest' delay' ranges ranges' counts counts' e =
    let values = ap (λ (m : Meaning). m.values) e in
    let one : ranges ≡ ranges' = cc in
    let two : delay ≡ delay' = cc in
    let others : counts_of counts ≡ counts_of counts' = cc in
    (one, two, same_counts counts counts' others)

-- ---- runs that are put together in a chunk

-- what was written of all the bytes, what is held after it, and the runs that are left below another one
pub record HoldsRuns (all held : List ℕ) (above : Range ℕ) (left : List (Range ℕ)) (written : List ℕ) (spare : ℕ)
    (written' : List ℕ) (spare' : ℕ) : Type 0 where
  pub before : List ℕ
  pub wrote : Wrote before written spare written' spare'
  pub parts : all ≡ (before ++ held) ++ shortest_below above.start (ranges_in left)
  pub maximal : IsMaximalRuns (left ++ above ∷ [])
  pub bound : above.start < 2 ^ 62

-- as if what is held were written
as_written : (all held : List ℕ) (above : Range ℕ) (left : List (Range ℕ)) (w w1 : List ℕ) (s s1 : ℕ)
    → (x : HoldsRuns all held above left w s w1 s1)
    → WroteRuns all above left [] 0 (x.before ++ held) 0
as_written all held above left w w1 s s1 x =
    record {
      before = x.before ++ held;
      wrote = record { stands = refl; room = omega arith };
      parts = x.parts;
      maximal = x.maximal;
      bound = x.bound;
    }

pub next_held : (all held : List ℕ) (above run : Range ℕ) (runs left : List (Range ℕ)) (w w1 : List ℕ) (s s1 : ℕ)
    (x : HoldsRuns all held above left w s w1 s1)
    → left ≡ runs ++ run ∷ []
    → NextRun all (x.before ++ held) above run runs
unfolding as_written
next_held all held above run runs left w w1 s s1 x e =
    next_run all above run runs left [] (x.before ++ held) 0 0 (as_written all held above left w w1 s s1 x) e

-- a beginning of what was held was appended, and the next run is written after the rest
pub holds_more : (all held held' : List ℕ) (above run : Range ℕ) (runs left : List (Range ℕ)) (w w1 w2 : List ℕ) (s s1 s2 : ℕ)
    → HoldsRuns all held above left w s w1 s1 → left ≡ runs ++ run ∷ []
    → (b : IsBegun w1 held w2) → KeepsRoom w1 s1 w2 s2 → held' ≡ b.left ++ shortest_varints (run_numbers above run)
    → HoldsRuns all held' run runs w s w2 s2
holds_more all held held' above run runs left w w1 w2 s s1 s2 x e b room is =
    let n = next_held all held above run runs left w w1 s s1 x e in
    let bytes : List ℕ = shortest_below run.start (ranges_in runs) in
    let numbers : List ℕ = shortest_varints (run_numbers above run) in
    let stands : w2 ≡ w ++ (x.before ++ b.done) =
    b.stands ∙ ap (λ (l : List ℕ). l ++ b.done) x.wrote.stands ∙ append_assoc w x.before b.done in
    let kept = x.wrote.room in
    let moved : (x.before ++ (b.done ++ b.left)) ++ (numbers ++ bytes) ≡ ((x.before ++ b.done) ++ (b.left ++ numbers)) ++ bytes =
    simp (append_assoc) in
    record {
      before = x.before ++ b.done;
      wrote = record { stands = stands; room = omega (arith, kept, room) };
      parts = n.parts ∙ ap (λ (l : List ℕ). (x.before ++ l) ++ (numbers ++ bytes)) b.whole ∙ moved
          ∙ ap (λ (l : List ℕ). ((x.before ++ b.done) ++ l) ++ bytes) (sym is);
      maximal = n.below.maximal;
      bound = omega (arith, n.below.some, n.below.apart, x.bound);
    }

-- appending what was held failed
pub holds_refused : {D E : Type 0} (r : Result (Unit {0}) E) (refused : Result (Unit {0}) D) (d : D) (error : E)
    (all held : List ℕ) (above : Range ℕ) (left : List (Range ℕ)) (w w1 w2 : List ℕ) (s s1 s2 : ℕ)
    → HoldsRuns all held above left w s w1 s1 → Writes r held w1 s1 w2 s2 → r ≡ Err error → refused ≡ Err d
    → Writes refused all w s w2 s2
holds_refused r refused d error all held above left w w1 w2 s s1 s2 x y is was =
    let bytes : List ℕ = shortest_below above.start (ranges_in left) in
    writes_within r refused d x.before held bytes all w w1 w2 s s1 s2 error (x.parts ∙ append_assoc x.before held bytes) x.wrote y is was

-- what is held is the rest
pub holds_last : {E : Type 0} (r : Result (Unit {0}) E) (all held : List ℕ) (above : Range ℕ) (left : List (Range ℕ))
    (w w1 w2 : List ℕ) (s s1 s2 : ℕ)
    → HoldsRuns all held above left w s w1 s1 → left ≡ [] → Writes r held w1 s1 w2 s2 → Writes r all w s w2 s2
holds_last r all held above left w w1 w2 s s1 s2 x none y =
    let whole : all ≡ x.before ++ held =
    x.parts ∙ ap (λ (l : List (Range ℕ)). (x.before ++ held) ++ shortest_below above.start (ranges_in l)) none
    ∙ append-nil (x.before ++ held) in
    subst (λ (l : List ℕ). Writes r l w s w2 s2) (sym whole) (writes_last r x.before held w w1 w2 s s1 s2 x.wrote y)

-- nothing of what is held was appended, or all of it, or, if that failed, a beginning
pub keeps_held : {E : Type 0} (at : ℕ) (chunk w : List ℕ) (s : ℕ) → Flushes {E = E} (Ok at) at chunk w s w s
keeps_held at chunk w s = record {
  begun = record { done = []; left = take at chunk; whole = refl; stands = sym (append-nil w) };
  left = refl;
  full = tt;
  room = omega arith;
}

pub flushes_held : {E : Type 0} (at : ℕ) (chunk w w1 : List ℕ) (s s1 : ℕ) → Wrote (take at chunk) w s w1 s1
    → Flushes {E = E} (Ok 0) at chunk w s w1 s1
flushes_held at chunk w w1 s s1 x = record {
  begun = record { done = take at chunk; left = []; whole = sym (append-nil (take at chunk)); stands = x.stands };
  left = refl;
  full = tt;
  room = x.room;
}

pub refuses_held : {E : Type 0} (e : E) (at : ℕ) (chunk w w1 : List ℕ) (s s1 : ℕ)
    → Flushes {E = E} (Err e) at chunk w s w1 s1 → Writes {E = E} (Err e) (take at chunk) w s w1 s1
refuses_held e at chunk w w1 s s1 x = record { ok = tt; err = x.begun; full = x.full; room = x.room }

-- the front is held, and the counts follow what is written of the runs
pub writes_in_two : {E : Type 0} (r : Result (Unit {0}) E) (all front held below counts w w1 : List ℕ) (s s1 : ℕ)
    → all ≡ front ++ (below ++ counts) → held ≡ front
    → Writes r ((held ++ below) ++ counts) w s w1 s1 → Writes r all w s w1 s1
writes_in_two r all front held below counts w w1 s s1 parts is x =
    subst (λ (l : List ℕ). Writes r l w s w1 s1) (sym (parts ∙ sym (append_assoc front below counts)
    ∙ ap (λ (l : List ℕ). (l ++ below) ++ counts) (sym is))) x
