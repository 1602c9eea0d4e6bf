-- A payload has one reading, and that reading as a list of items.
use Rattle.std.proofs.Common.{◌≡◌, ℕ, ◌+◌, ◌≤◌, List, [], ◌∷◌, ◌++◌, length, map, Bool, Option, None, Result, Err, refl, sym, ap, ◌∙◌, arith}
use Rattle.std.proofs.lemmas.List.{length-append, length-map}
use Rattle.quic_base.specs.Number.{AreBytes}
use Rattle.quic_base.specs.One.{ExactlyOne}
use Rattle.quic_frame_fields.specs.declared.frame.fault.Fault.{Fault}
use Rattle.quic_frame_fields.specs.declared.frame.fault.Fault.TheVariants.{UnexpectedEnd, InvalidFrameId, Malformed, LongType}
use Rattle.quic_frame_fields.specs.Payload.{TypedFrame, Reading, Complete, FailsAfter, IsReadingAfter, item_count}
use Rattle.quic_frame_fields.specs.Reading.{Invalid, invalid, reason_text, items_of}
use Rattle.quic_frames.specs.Walk.{given, unplaced}
use Rattle.quic_frames.proofs.Items.{frames_are_items, broken_are_items, items_are_few, has_reading}

abbrev Reported : Type 0
Reported = Result TypedFrame Invalid

-- the items of a reading
abbrev pub items_in : Reading → List Reported
items_in (Complete found) = map given found
items_in (FailsAfter found type reason) = map given found ++ Err (invalid type reason) ∷ []

pub are_items : (strict : Bool) (start : ℕ) (before : Option ℕ) (bytes : List ℕ) (reading : Reading) → AreBytes bytes
    → IsReadingAfter strict before bytes reading → map unplaced (items_of strict start before bytes) ≡ items_in reading
are_items strict start before bytes (Complete found) fits is = frames_are_items strict found start before bytes is
are_items strict start before bytes (FailsAfter found type reason) fits is =
    broken_are_items strict found start before bytes type reason fits is

-- ---- readings with the same items are the same

-- The texts of the reasons have different lengths.
same_reason : (reason other : Fault) → reason_text reason ≡ reason_text other → reason ≡ other
same_reason UnexpectedEnd UnexpectedEnd e = refl
same_reason InvalidFrameId InvalidFrameId e = refl
same_reason Malformed Malformed e = refl
same_reason LongType LongType e = refl
same_reason reason other e = absurd (omega (arith, ap length e))

pub same_error : (some others : List TypedFrame) (i j : Invalid)
    → map given some ++ Err i ∷ [] ≡ map given others ++ Err j ∷ [] → (some ≡ others) × (i ≡ j)
same_error [] [] i j e = (refl, cc)
same_error [] (other ∷ others) i j e = cc
same_error (first ∷ some) [] i j e = cc
same_error (first ∷ some) (other ∷ others) i j e =
    let rest : map given some ++ Err i ∷ [] ≡ map given others ++ Err j ∷ [] = cc in
    let same = same_error some others i j rest in
    let head : first ≡ other = cc in
    (cc (head, same.0), same.1)

same_frames : (some others : List TypedFrame) → map given some ≡ map given others → some ≡ others
same_frames [] [] e = refl
same_frames [] (other ∷ others) e = absurd cc
same_frames (first ∷ some) [] e = absurd cc
same_frames (first ∷ some) (other ∷ others) e =
    let head : first ≡ other = cc in
    let tails : map given some ≡ map given others = cc in
    cc (head, same_frames some others tails)

pub no_error : (some others : List TypedFrame) (i : Invalid) → map given some ≡ map given others ++ Err i ∷ [] → ⊥
no_error [] [] i e = cc
no_error [] (other ∷ others) i e = cc
no_error (first ∷ some) [] i e = cc
no_error (first ∷ some) (other ∷ others) i e =
    let tails : map given some ≡ map given others ++ Err i ∷ [] = cc in no_error some others i tails

same_reading : (some other : Reading) → items_in some ≡ items_in other → some ≡ other
same_reading (Complete some) (Complete others) e = let same = same_frames some others e in cc same
same_reading (Complete some) (FailsAfter others type reason) e = absurd (no_error some others (invalid type reason) e)
same_reading (FailsAfter some type reason) (Complete others) e =
    absurd (no_error others some (invalid type reason) (sym e))
same_reading (FailsAfter some type reason) (FailsAfter others other reason') e =
    let same = same_error some others (invalid type reason) (invalid other reason') e in
    let types : type ≡ other = ap (λ (i : Invalid). i.type) same.1 in
    let reasons = same_reason reason reason' (ap (λ (i : Invalid). i.reason) same.1) in
    cc (same.0, types, reasons)

pub one_reading : (strict : Bool) (before : Option ℕ) (bytes : List ℕ) → AreBytes bytes
    → ExactlyOne (IsReadingAfter strict before bytes)
one_reading strict before bytes fits =
    let it = has_reading strict before bytes fits in
    record {
      it = it.0;
      is = it.1;
      only = λ other is. same_reading other it.0 (sym (are_items strict 0 before bytes other fits is)
          ∙ are_items strict 0 before bytes it.0 fits it.1);
    }

pub one_list : (strict : Bool) (some others : List TypedFrame) (bytes : List ℕ)
    → IsReadingAfter strict None bytes (Complete some) → IsReadingAfter strict None bytes (Complete others)
    → some ≡ others
one_list strict some others bytes s o =
    same_frames some others (sym (frames_are_items strict some 0 None bytes s)
    ∙ frames_are_items strict others 0 None bytes o)

-- ---- how many items there are

count_is : (reading : Reading) → length (items_in reading) ≡ item_count reading
count_is (Complete found) = length-map found given
count_is (FailsAfter found type reason) =
    length-append (map given found) (Err (invalid type reason) ∷ []) ∙ ap (λ (n : ℕ). n + 1) (length-map found given)

pub few_items : (strict : Bool) (bytes : List ℕ) (reading : Reading) → AreBytes bytes
    → IsReadingAfter strict None bytes reading → item_count reading ≤ length bytes
few_items strict bytes reading fits is =
    let items = items_of strict 0 None bytes in
    let same = ap length (sym (are_items strict 0 None bytes reading fits is)) ∙ length-map items unplaced in
    omega (arith, same, count_is reading, items_are_few strict 0 None bytes fits)
