-- What bytes that come later can't change.
use Rattle.std.proofs.Common.{◌≡◌, ◌≢◌, ℕ, zero, suc, ◌+◌, ◌-◌, Bool, true, false, cond, ltb, eqb, List, [], ◌∷◌, ◌++◌, length, map, Option, None, Some, Result, Ok, Err, refl, sym, ap, subst, ◌∙◌, append_assoc, inl, inr, arith}
use Rattle.std.specs.Prelude.{◌||◌}
use Rattle.std.proofs.lemmas.List.{length-append}
use Rattle.quic_base.specs.Number.{AreBytes}
use Rattle.quic_base.proofs.PublicLaws.{front_bytes, back_bytes}
use Rattle.quic_frame_fields.specs.declared.frame.fault.Fault.{Fault}
use Rattle.quic_frame_fields.specs.declared.frame.fault.Fault.TheVariants.{UnexpectedEnd, InvalidFrameId, Malformed, LongType}
use Rattle.quic_frame_fields.specs.Field.{Value, Field, Varint, Counted, Id, Uint64, Bytes16, Blocks, Rest, Implied, Ordered, is_ordered, greatest_of, NumberStops, BelowStops, BlocksStop, StopsWithin}
use Rattle.quic_frame_fields.specs.Payload.{TypedFrame, AreFrames, AreClosed, last_type, BeginsWithType, IsNoFrame, IsBroken, Reading, Complete, FailsAfter, IsReadingAfter, IsReadingOf, followed_by}
use Rattle.quic_frames.specs.Placed.{Placed, ArePlaced, found_in}
use Rattle.quic_base.specs.Reading.{◌>>=◌}
use Rattle.quic_frame_fields.specs.Reading.{id_at, field_at, of_ranges}
use Rattle.quic_frame_fields.proofs.Steps.{true_is_not_false}
use Rattle.quic_frame_fields.proofs.Blocks.{blocks_stop}
use Rattle.quic_frame_fields.proofs.Fields.{field_fails, field_stops, stops_again}
use Rattle.quic_frames.proofs.Readings.{one_reading}

-- ---- a field that stops

number_lasts : (bytes more : List ℕ) (reason : Fault) (is_large : ℕ → Bool) (After Later : ℕ → List ℕ → Type 0)
    → reason ≢ UnexpectedEnd → ((n : ℕ) (left : List ℕ) → After n left → Later n (left ++ more))
    → NumberStops bytes reason is_large After → NumberStops (bytes ++ more) reason is_large Later
number_lasts bytes more reason is_large After Later known lasts (inl s) = absurd (known s.1)
number_lasts bytes more reason is_large After Later known lasts (inr (inl s)) =
    inr (inl (s.0, s.1, s.2 ++ more, ap (λ (l : List ℕ). l ++ more) s.3 ∙ append_assoc s.1 s.2 more, s.4, s.5))
number_lasts bytes more reason is_large After Later known lasts (inr (inr s)) =
    inr (inr (s.0, s.1, s.2 ++ more, ap (λ (l : List ℕ). l ++ more) s.3 ∙ append_assoc s.1 s.2 more, s.4, (s.5.0, lasts s.0 s.2 s.5.1)))

below_lasts : (count low : ℕ) (bytes more : List ℕ) (reason : Fault) → reason ≢ UnexpectedEnd
    → BelowStops count low bytes reason → BelowStops count low (bytes ++ more) reason
below_lasts zero low bytes more reason known s = absurd s
below_lasts (suc count) low bytes more reason known s =
    number_lasts bytes more reason (λ gap. ltb low (gap + 2)) _ _ known
    (λ gap left t. number_lasts left more reason (λ block. ltb (low - (gap + 2)) block) _ _ known
    (λ block others u. below_lasts count (low - (gap + 2) - block) others more reason known u) t) s

blocks_last : (greatest : ℕ) (bytes more : List ℕ) (reason : Fault) → reason ≢ UnexpectedEnd
    → BlocksStop greatest bytes reason → BlocksStop greatest (bytes ++ more) reason
blocks_last greatest bytes more reason known s =
    number_lasts bytes more reason (λ count. false) _ _ known
    (λ count left t. number_lasts left more reason (λ block. ltb greatest block) _ _ known
    (λ block others u. below_lasts count (greatest - block) others more reason known u) t) s

-- a test that finds the fault before the bytes end
tested_last : (b : Bool) (e : Fault) → e ≡ cond b Malformed UnexpectedEnd → e ≢ UnexpectedEnd
    → (b ≡ true) × (e ≡ Malformed)
tested_last true e is known = (refl, is)
tested_last false e is known = absurd (known is)

ordered_last : (b : Bool) (bytes more : List ℕ) (e : Fault)
    → cond b (let r : Result (List Value × List ℕ) Fault = Ok ([], bytes) in r) (Err Malformed) ≡ Err e
    → cond b (let r : Result (List Value × List ℕ) Fault = Ok ([], bytes ++ more) in r) (Err Malformed) ≡ Err e
ordered_last true bytes more e h = absurd cc
ordered_last false bytes more e h = h

field_lasts : (field : Field) (before : List Value) (bytes more : List ℕ) (e : Fault) → AreBytes (bytes ++ more)
    → e ≢ UnexpectedEnd → field_at field before bytes ≡ Err e → field_at field before (bytes ++ more) ≡ Err e
unfolding id_at
field_lasts Varint before bytes more e fits known h =
    absurd (known (field_fails Varint before bytes e h (front_bytes bytes more fits)).0)
field_lasts Counted before bytes more e fits known h =
    absurd (known (field_fails Counted before bytes e h (front_bytes bytes more fits)).0)
field_lasts Id before [] more e fits known h =
    absurd (known (field_fails Id before [] e h (front_bytes [] more fits)).0)
field_lasts Id before (n ∷ bytes) more e fits known h =
    let t =
    tested_last (eqb n 0 || ltb 20 n) e (field_fails Id before (n ∷ bytes) e h (front_bytes (n ∷ bytes) more fits)).0 known in
    rw (t.0, t.1) refl
field_lasts Uint64 before bytes more e fits known h =
    absurd (known (field_fails Uint64 before bytes e h (front_bytes bytes more fits)).0)
field_lasts Bytes16 before bytes more e fits known h =
    absurd (known (field_fails Bytes16 before bytes e h (front_bytes bytes more fits)).0)
field_lasts Blocks before bytes more e fits known h =
    let s = (field_fails Blocks before bytes e h (front_bytes bytes more fits)).0 in
    ap (λ r. r >>= of_ranges (greatest_of before)) (blocks_stop (greatest_of before) (bytes ++ more) e fits
    (blocks_last (greatest_of before) bytes more e known s))
field_lasts Rest before bytes more e fits known h = absurd cc
field_lasts (Implied n) before bytes more e fits known h = absurd cc
field_lasts Ordered before bytes more e fits known h = ordered_last (is_ordered before) bytes more e h

fields_last : (fields : List Field) (before : List Value) (bytes more : List ℕ) (e : Fault) → AreBytes (bytes ++ more)
    → e ≢ UnexpectedEnd → StopsWithin fields before bytes e → StopsWithin fields before (bytes ++ more) e
fields_last [] before bytes more e fits known s = absurd s
fields_last (field ∷ fields) before bytes more e fits known (inl s) =
    inl (field_stops field before (bytes ++ more) e fits (field_lasts field before bytes more e fits known
    (stops_again field before bytes e (front_bytes bytes more fits) s)))
fields_last (field ∷ fields) before bytes more e fits known (inr s) =
    let parts : bytes ++ more ≡ s.1 ++ (s.2 ++ more) = ap (λ (l : List ℕ). l ++ more) s.3 ∙ append_assoc s.1 s.2 more in
    inr (
      s.0,
      s.1,
      s.2 ++ more,
      parts,
      s.4,
      fields_last fields (before ++ s.0) s.2 more e
          (back_bytes s.1 (s.2 ++ more) (subst AreBytes parts fits)) known s.5,
    )

-- ---- an invalid frame

begins_on : (strict : Bool) (bytes more : List ℕ) (t : ℕ) (P Q : List ℕ → Type 0) → AreBytes (bytes ++ more)
    → ((back : List ℕ) → AreBytes (back ++ more) → P back → Q (back ++ more)) → BeginsWithType strict bytes t P
    → BeginsWithType strict (bytes ++ more) t Q
begins_on strict bytes more t P Q fits lasts u =
    let parts : bytes ++ more ≡ u.front ++ (u.back ++ more) =
    ap (λ (l : List ℕ). l ++ more) u.parts ∙ append_assoc u.front u.back more in
    record {
      front = u.front;
      back = u.back ++ more;
      parts = parts;
      encoded = u.encoded;
      then = lasts u.back (back_bytes u.front (u.back ++ more) (subst AreBytes parts fits)) u.then;
    }

no_frame_lasts : (strict : Bool) (before : Option ℕ) (bytes more : List ℕ) (type : Option ℕ) (reason : Fault)
    → AreBytes (bytes ++ more) → reason ≢ UnexpectedEnd → IsNoFrame strict before bytes type reason
    → IsNoFrame strict before (bytes ++ more) type reason
no_frame_lasts strict before bytes more type reason fits known (inl a) = absurd (known a.3)
no_frame_lasts strict before bytes more type reason fits known (inr (inl a)) =
    let u = a.1 in
    inr (inl (
      a.0,
      record {
        counts = u.counts;
        front = u.front;
        back = u.back ++ more;
        parts = ap (λ (l : List ℕ). l ++ more) u.parts ∙ append_assoc u.front u.back more;
        encoded = u.encoded;
        long = u.long;
      },
      a.2,
      a.3,
    ))
no_frame_lasts strict before bytes more type reason fits known (inr (inr (inl a))) =
    inr (inr (inl (a.0, begins_on strict bytes more a.0 _ _ fits (λ back bounds none. none) a.1, a.2, a.3)))
no_frame_lasts strict before bytes more type reason fits known (inr (inr (inr a))) =
    inr (inr (inr (
      a.0,
      begins_on strict bytes more a.0 _ _ fits
          (λ back bounds s. (s.0, s.1, fields_last s.0.fields [] back more reason bounds known s.2)) a.1,
      a.2,
    )))

-- An error that isn't a cut stays, whatever follows.
pub error_lasts : (strict : Bool) (found : List TypedFrame) (bytes more : List ℕ) (type : Option ℕ) (reason : Fault)
    → AreBytes (bytes ++ more) → reason ≢ UnexpectedEnd → IsBroken strict None found bytes type reason
    → IsBroken strict None found (bytes ++ more) type reason
error_lasts strict found bytes more type reason fits known b =
    let parts : bytes ++ more ≡ b.front ++ (b.back ++ more) =
    ap (λ (l : List ℕ). l ++ more) b.parts ∙ append_assoc b.front b.back more in
    record {
      front = b.front;
      back = b.back ++ more;
      parts = parts;
      frames = b.frames;
      closed = b.closed;
      no_frame = no_frame_lasts strict (last_type None found) b.back more type reason
          (back_bytes b.front (b.back ++ more) (subst AreBytes parts fits)) known b.no_frame;
    }

never_both : (strict : Bool) (some others : List TypedFrame) (bytes : List ℕ) (type : Option ℕ) (reason : Fault)
    → AreBytes bytes → AreFrames strict some bytes → IsBroken strict None others bytes type reason → {P : Type 0} → P
never_both strict some others bytes type reason fits s b =
    let one = one_reading strict None bytes fits in
    let same : Complete some ≡ FailsAfter others type reason =
    one.only (Complete some) s ∙ sym (one.only (FailsAfter others type reason) b) in
    absurd (cc same)

-- A front of a payload without an error is cut, if it has one.
pub only_cut : (strict : Bool) (found others : List TypedFrame) (bytes more : List ℕ) (type : Option ℕ) (reason : Fault)
    → AreBytes (bytes ++ more) → AreFrames strict found (bytes ++ more) → IsBroken strict None others bytes type reason
    → reason ≡ UnexpectedEnd
only_cut strict found others bytes more type UnexpectedEnd fits s b = refl
only_cut strict found others bytes more type InvalidFrameId fits s b =
    never_both strict found others (bytes ++ more) type InvalidFrameId fits s
    (error_lasts strict others bytes more type InvalidFrameId fits (λ e. cc) b)
only_cut strict found others bytes more type Malformed fits s b =
    never_both strict found others (bytes ++ more) type Malformed fits s
    (error_lasts strict others bytes more type Malformed fits (λ e. cc) b)
only_cut strict found others bytes more type LongType fits s b =
    never_both strict found others (bytes ++ more) type LongType fits s
    (error_lasts strict others bytes more type LongType fits (λ e. cc) b)

-- ---- frames

frames_then : (strict : Bool) (found others : List TypedFrame) (bytes more : List ℕ) → AreFrames strict found bytes
    → AreClosed found → AreFrames strict others more → AreFrames strict (found ++ others) (bytes ++ more)
frames_then strict [] others bytes more are closed follow = rw are follow
frames_then strict (f ∷ found) others bytes more are closed follow = (
  are.0,
  are.1 ++ more,
  ap (λ (l : List ℕ). l ++ more) are.2 ∙ append_assoc are.0 are.1 more,
  are.3,
  (λ opens. absurd (true_is_not_false (sym opens ∙ closed.0))),
  frames_then strict found others are.1 more are.5 closed.1 follow,
)

closed_then : (found others : List TypedFrame) → AreClosed found → AreClosed others → AreClosed (found ++ others)
closed_then [] others closed follow = follow
closed_then (f ∷ found) others closed follow = (closed.0, closed_then found others closed.1 follow)

last_then : (before : Option ℕ) (found others : List TypedFrame)
    → last_type before (found ++ others) ≡ last_type (last_type before found) others
last_then before [] others = refl
last_then before (f ∷ found) others = last_then (Some f.type) found others

-- Frames that aren't open are read again, and then what follows.
pub frames_stay : (strict : Bool) (found : List TypedFrame) (bytes more : List ℕ) (rest : Reading)
    → IsReadingOf strict bytes (Complete found) → AreClosed found
    → IsReadingAfter strict (last_type None found) more rest
    → IsReadingOf strict (bytes ++ more) (followed_by found rest)
frames_stay strict found bytes more (Complete others) are closed follow =
    frames_then strict found others bytes more are closed follow
frames_stay strict found bytes more (FailsAfter others type reason) are closed b = record {
  front = bytes ++ b.front;
  back = b.back;
  parts = ap (λ (l : List ℕ). bytes ++ l) b.parts ∙ sym (append_assoc bytes b.front b.back);
  frames = frames_then strict found others bytes b.front are closed b.frames;
  closed = closed_then found others closed b.closed;
  no_frame = subst (λ (t : Option ℕ). IsNoFrame strict t b.back type reason)
      (sym (last_then None found others)) b.no_frame;
}

-- Their offsets don't change.
pub places_stay : (strict : Bool) (start : ℕ) (frames others : List Placed) (bytes more : List ℕ)
    → ArePlaced strict start frames bytes → AreClosed (map found_in frames)
    → ArePlaced strict (start + length bytes) others more
    → ArePlaced strict start (frames ++ others) (bytes ++ more)
places_stay strict start [] others bytes more are closed follow =
    let at : start + length bytes ≡ start = omega (arith, ap length are) in
    rw are (subst (λ (n : ℕ). ArePlaced strict n others more) at follow)
places_stay strict start (p ∷ frames) others bytes more are closed follow =
    let at : start + length bytes ≡ p.stop + length are.1 =
    omega (arith, ap length are.2, length-append are.0 are.1, are.6) in (
      are.0,
      are.1 ++ more,
      ap (λ (l : List ℕ). l ++ more) are.2 ∙ append_assoc are.0 are.1 more,
      are.3,
      (λ opens. absurd (true_is_not_false (sym opens ∙ closed.0))),
      are.5,
      are.6,
      places_stay strict p.stop frames others are.1 more are.7 closed.1
          (subst (λ (n : ℕ). ArePlaced strict n others more) at follow),
    )
