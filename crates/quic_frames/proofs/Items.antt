-- Payloads, and the items that come of them.
use Rattle.std.proofs.Common.{◌≡◌, ◌≢◌, ℕ, zero, suc, ◌+◌, ◌-◌, ◌<◌, ◌≤◌, Bool, true, false, List, [], ◌∷◌, ◌++◌, length, map, Option, Some, None, Result, Ok, Err, refl, sym, ap, subst, ◌∙◌, append_assoc, inl, inr, arith}
use Rattle.std.proofs.lemmas.List.{append-nil, length-append}
use Rattle.quic_base.specs.Number.{AreBytes}
use Rattle.quic_base.proofs.PublicLaws.{back_bytes}
use Rattle.quic_frame_fields.specs.declared.frame.fault.Fault.{Fault}
use Rattle.quic_frame_fields.specs.Table.{is_open}
use Rattle.quic_frame_fields.specs.Payload.{TypedFrame, IsFrame, AreFrames, last_type, BeginsWithType, IsNoFrame, IsBroken, Reading, Complete, FailsAfter, IsReadingAfter}
use Rattle.quic_frame_fields.specs.Reading.{Invalid, invalid, found_at, Item, Whole, Broken, items_after, items_from, items_of}
use Rattle.quic_frames.specs.Walk.{unplaced, given}
use Rattle.quic_frame_fields.proofs.Steps.{true_is_not_false}
use Rattle.quic_frame_fields.proofs.Varints.{varint_some}
use Rattle.quic_frames.proofs.Frames.{TakesFound, found_takes, found_again, found_fails, no_frame_again}

abbrev Reported : Type 0
Reported = Result TypedFrame Invalid

pub frame_some : (strict : Bool) (found : TypedFrame) (bytes : List ℕ) → IsFrame strict found bytes → 0 < length bytes
frame_some strict found bytes frame =
    let some = varint_some found.type frame.type_bytes frame.type_encoded.encoded in
    omega (arith, ap length frame.parts, length-append frame.type_bytes frame.field_bytes)

pub is_some_bytes : (bytes : List ℕ) → 0 < length bytes → bytes ≢ []
is_some_bytes [] lt e = absurd (omega (arith, lt))
is_some_bytes (b ∷ bytes) lt e = cc

pub some_length : (bytes : List ℕ) → bytes ≢ [] → 1 ≤ length bytes
some_length [] some = absurd (some refl)
some_length (b ∷ bytes) some = omega arith

-- where a frame ends that begins at an offset
abbrev pub end_of : ℕ → List ℕ → List ℕ → ℕ
end_of start bytes rest = start + (length bytes - length rest)

pub items_ok : (strict : Bool) (n start : ℕ) (before : Option ℕ) (bytes : List ℕ) (x : TypedFrame × List ℕ) → bytes ≢ []
    → found_at strict before bytes ≡ Ok x
    → items_from strict (suc n) start before bytes ≡ Whole start (end_of start bytes x.1) x.0
    ∷ items_from strict n (end_of start bytes x.1) (Some x.0.type) x.1
unfolding items_from
items_ok strict n start before [] x some e = absurd (some refl)
items_ok strict n start before (b ∷ bytes) x some e =
    ap (items_after (items_from strict n) start (length (b ∷ bytes))) e

items_err : (strict : Bool) (n start : ℕ) (before : Option ℕ) (bytes : List ℕ) (i : Invalid) → bytes ≢ []
    → found_at strict before bytes ≡ Err i → items_from strict (suc n) start before bytes ≡ Broken i ∷ []
unfolding items_from
items_err strict n start before [] i some e = absurd (some refl)
items_err strict n start before (b ∷ bytes) i some e =
    ap (items_after (items_from strict n) start (length (b ∷ bytes))) e

pub items_none : (strict : Bool) (n start : ℕ) (before : Option ℕ) → items_from strict n start before [] ≡ []
unfolding items_from
items_none strict zero start before = refl
items_none strict (suc n) start before = refl

pub nothing : (bytes : List ℕ) → length bytes ≤ 0 → bytes ≡ []
nothing [] le = refl
nothing (b ∷ bytes) le = absurd (omega (arith, le))

-- what reading says of bytes that are left
pub data Reads (strict : Bool) (before : Option ℕ) (bytes : List ℕ) : Type 0 where
  ends : bytes ≡ [] → Reads strict before bytes
  finds : (x : TypedFrame × List ℕ) → bytes ≢ [] → found_at strict before bytes ≡ Ok x → Reads strict before bytes
  fails : (i : Invalid) → bytes ≢ [] → found_at strict before bytes ≡ Err i → Reads strict before bytes

result_of : (strict : Bool) (before : Option ℕ) (bytes : List ℕ) (r : Result (TypedFrame × List ℕ) Invalid) → bytes ≢ []
    → found_at strict before bytes ≡ r → Reads strict before bytes
result_of strict before bytes (Ok x) some e = finds x some e
result_of strict before bytes (Err i) some e = fails i some e

pub reads : (strict : Bool) (before : Option ℕ) (bytes : List ℕ) → Reads strict before bytes
reads strict before [] = ends refl
reads strict before (b ∷ bytes) =
    result_of strict before (b ∷ bytes) (found_at strict before (b ∷ bytes)) (λ e. cc) refl

-- what a frame leaves is shorter, and bytes
record Shorter (bytes rest : List ℕ) : Type 0 where
  less : length rest < length bytes
  fits : AreBytes rest

shorter : (strict : Bool) (before : Option ℕ) (bytes : List ℕ) (x : TypedFrame × List ℕ) → AreBytes bytes
    → found_at strict before bytes ≡ Ok x → Shorter bytes x.1
shorter strict before bytes x fits e =
    let t = found_takes strict before bytes x fits e in
    let some = frame_some strict x.0 t.front t.frame in
    record {
      less = omega (arith, ap length t.parts, length-append t.front x.1, some);
      fits = back_bytes t.front x.1 (subst AreBytes t.parts fits);
    }

-- as many steps as bytes are enough
items_enough : (strict : Bool) (n m start : ℕ) (before : Option ℕ) (bytes : List ℕ) → AreBytes bytes → length bytes ≤ n
    → length bytes ≤ m → items_from strict n start before bytes ≡ items_from strict m start before bytes
items_enough strict zero m start before bytes fits le _ =
    let e = nothing bytes le in rw (e, items_none strict zero start before, items_none strict m start before) refl
items_enough strict (suc n) zero start before bytes fits _ le =
    let e = nothing bytes le in rw (e, items_none strict (suc n) start before, items_none strict zero start before) refl
items_enough strict (suc n) (suc m) start before bytes fits le_n le_m =
    elim (reads strict before bytes) [
      | ends e ↦ rw (e, items_none strict (suc n) start before, items_none strict (suc m) start before) refl
      | finds x some e ↦
          let less = shorter strict before bytes x fits e in
          let lt = less.less in
          let stop = end_of start bytes x.1 in
          let others =
          items_enough strict n m stop (Some x.0.type) x.1 less.fits (omega (arith, lt)) (omega (arith, lt)) in
          items_ok strict n start before bytes x some e ∙ ap (λ (l : List Item). Whole start stop x.0 ∷ l) others
          ∙ sym (items_ok strict m start before bytes x some e)
      | fails i some e ↦ items_err strict n start before bytes i some e ∙ sym (items_err strict m start before bytes i some e)
    ]

items_few : (strict : Bool) (n start : ℕ) (before : Option ℕ) (bytes : List ℕ) → AreBytes bytes → length bytes ≤ n
    → length (items_from strict n start before bytes) ≤ length bytes
items_few strict zero start before bytes fits le =
    let e = nothing bytes le in rw (e, items_none strict zero start before) (omega arith)
items_few strict (suc n) start before bytes fits le =
    elim (reads strict before bytes) [
      | ends e ↦ rw (e, items_none strict (suc n) start before) (omega arith)
      | finds x some e ↦
          let less = shorter strict before bytes x fits e in
          let lt = less.less in
          let others = items_few strict n (end_of start bytes x.1) (Some x.0.type) x.1 less.fits (omega (arith, lt)) in
          rw (items_ok strict n start before bytes x some e) (omega (arith, others, lt))
      | fails i some e ↦ rw (items_err strict n start before bytes i some e) (some_length bytes some)
    ]

-- the frames that a payload means are its items
frames_give : (strict : Bool) (ps : List TypedFrame) (n start : ℕ) (before : Option ℕ) (bytes : List ℕ)
    → length bytes ≤ n → AreFrames strict ps bytes
    → map unplaced (items_from strict n start before bytes) ≡ map given ps
frames_give strict [] n start before bytes le s = rw (s, items_none strict n start before) refl
frames_give strict (p ∷ ps) zero start before bytes le s =
    let some = frame_some strict p s.0 s.3 in
    absurd (omega (arith, le, some, ap length s.2, length-append s.0 s.1))
frames_give strict (p ∷ ps) (suc n) start before bytes le s =
    let some = frame_some strict p s.0 s.3 in
    let here = ap (found_at strict before) s.2 ∙ found_again strict before p s.0 s.1 s.3 s.4 in
    let sizes : length bytes ≡ length s.0 + length s.1 = ap length s.2 ∙ length-append s.0 s.1 in
    let others =
    frames_give strict ps n (end_of start bytes s.1) (Some p.type) s.1 (omega (arith, le, sizes, some)) s.5 in
    ap (map unplaced) (items_ok strict n start before bytes (p, s.1) (is_some_bytes bytes (omega (arith, sizes, some))) here)
    ∙ ap (λ (l : List Reported). Ok p ∷ l) others

begins_some : (strict : Bool) (bytes : List ℕ) (t : ℕ) (P : List ℕ → Type 0) → BeginsWithType strict bytes t P
    → bytes ≢ []
begins_some strict bytes t P u =
    let some = varint_some t u.front u.encoded.encoded in is_some_bytes bytes
    (omega (arith, some, ap length u.parts, length-append u.front u.back))

pub no_frame_some : (strict : Bool) (before : Option ℕ) (bytes : List ℕ) (type : Option ℕ) (reason : Fault)
    → IsNoFrame strict before bytes type reason → bytes ≢ []
no_frame_some strict before bytes type reason (inl a) = a.0
no_frame_some strict before bytes type reason (inr (inl a)) =
    let some = varint_some a.0 a.1.front a.1.encoded in is_some_bytes bytes
    (omega (arith, some, ap length a.1.parts, length-append a.1.front a.1.back))
no_frame_some strict before bytes type reason (inr (inr (inl a))) = begins_some strict bytes a.0 _ a.1
no_frame_some strict before bytes type reason (inr (inr (inr a))) = begins_some strict bytes a.0 _ a.1

pub stops_at : (strict : Bool) (n start : ℕ) (before : Option ℕ) (bytes : List ℕ) (i : Invalid) → length bytes ≤ n
    → bytes ≢ [] → found_at strict before bytes ≡ Err i → items_from strict n start before bytes ≡ Broken i ∷ []
stops_at strict zero start before bytes i le some e = absurd (some (nothing bytes le))
stops_at strict (suc m) start before bytes i le some e = items_err strict m start before bytes i some e

-- the frames before what is none, and what is reported for it, are the items
broken_gives : (strict : Bool) (ps : List TypedFrame) (n start : ℕ) (before : Option ℕ) (bytes : List ℕ) (type : Option ℕ) (reason : Fault)
    → AreBytes bytes → length bytes ≤ n → IsBroken strict before ps bytes type reason
    → map unplaced (items_from strict n start before bytes) ≡ map given ps ++ Err (invalid type reason) ∷ []
broken_gives strict [] n start before bytes type reason fits le s =
    let whole : bytes ≡ s.back = s.parts ∙ ap (λ (l : List ℕ). l ++ s.back) s.frames in
    let none : IsNoFrame strict before bytes type reason =
    subst (λ (l : List ℕ). IsNoFrame strict before l type reason) (sym whole) s.no_frame in
    let some = no_frame_some strict before bytes type reason none in
    let e = no_frame_again strict before bytes type reason fits none in
    ap (map unplaced) (stops_at strict n start before bytes (invalid type reason) le some e)
broken_gives strict (p ∷ ps) zero start before bytes type reason fits le s =
    let f : AreFrames strict (p ∷ ps) s.front = s.frames in
    let some = frame_some strict p f.0 f.3 in
    absurd (omega (arith, le, some, ap length s.parts, length-append s.front s.back, ap length f.2, length-append f.0 f.1))
broken_gives strict (p ∷ ps) (suc m) start before bytes type reason fits le s =
    let f : AreFrames strict (p ∷ ps) s.front = s.frames in
    let left = f.1 ++ s.back in
    let some = frame_some strict p f.0 f.3 in
    let regrouped : bytes ≡ f.0 ++ left =
    s.parts ∙ ap (λ (l : List ℕ). l ++ s.back) f.2 ∙ append_assoc f.0 f.1 s.back in
    let sizes : length bytes ≡ length f.0 + length left = ap length regrouped ∙ length-append f.0 left in
    let here =
    ap (found_at strict before) regrouped
    ∙ found_again strict before p f.0 left f.3 (λ opens. absurd (true_is_not_false (sym opens ∙ s.closed.0))) in
    let others = broken_gives strict ps m (end_of start bytes left) (Some p.type) left type reason
    (back_bytes f.0 left (subst AreBytes regrouped fits)) (omega (arith, le, sizes, some))
    (record { front = f.1; back = s.back; parts = refl; frames = f.5; closed = s.closed.1; no_frame = s.no_frame }) in
    ap (map unplaced) (items_ok strict m start before bytes (p, left) (is_some_bytes bytes (omega (arith, sizes, some))) here)
    ∙ ap (λ (l : List Reported). Ok p ∷ l) others

-- ---- each payload has a reading

back_is_nil : (front back : List ℕ) → front ++ back ≡ [] → back ≡ []
back_is_nil [] back e = e
back_is_nil (b ∷ front) back e = absurd cc

-- what is broken is something
pub broken_some : (strict : Bool) (before : Option ℕ) (ps : List TypedFrame) (bytes : List ℕ) (type : Option ℕ) (reason : Fault)
    → IsBroken strict before ps bytes type reason → bytes ≢ []
broken_some strict before ps bytes type reason s none =
    no_frame_some strict (last_type before ps) s.back type reason s.no_frame (back_is_nil s.front s.back (sym s.parts ∙ none))

closed_or : (b : Bool) (left : List ℕ) → (b ≡ true → left ≡ []) → left ≢ [] → b ≡ false
closed_or true left opens some = absurd (some (opens refl))
closed_or false left opens some = refl

-- a frame before a reading of what follows it
push : (strict : Bool) (before : Option ℕ) (bytes : List ℕ) (x : TypedFrame × List ℕ) → TakesFound strict x.0 bytes x.1
    → (r : Reading) → IsReadingAfter strict (Some x.0.type) x.1 r
    → (all : Reading) × IsReadingAfter strict before bytes all
push strict before bytes x t (Complete others) s = (Complete (x.0 ∷ others), (t.front, x.1, t.parts, t.frame, t.opens, s))
push strict before bytes x t (FailsAfter others type reason) s =
    let not_done : x.1 ≢ [] =
    λ h. no_frame_some strict (last_type (Some x.0.type) others) s.back type reason s.no_frame
    (back_is_nil s.front s.back (sym s.parts ∙ h)) in (
      FailsAfter (x.0 ∷ others) type reason,
      record {
        front = t.front ++ s.front;
        back = s.back;
        parts = t.parts ∙ ap (λ (l : List ℕ). t.front ++ l) s.parts ∙ sym (append_assoc t.front s.front s.back);
        frames = (t.front, s.front, refl, t.frame, (λ opens. absurd (not_done (t.opens opens))), s.frames);
        closed = (closed_or (is_open x.0.type) x.1 t.opens not_done, s.closed);
        no_frame = s.no_frame;
      },
    )

reading_in : (strict : Bool) (n : ℕ) (before : Option ℕ) (bytes : List ℕ) → AreBytes bytes → length bytes ≤ n
    → (reading : Reading) × IsReadingAfter strict before bytes reading
reading_in strict zero before bytes fits le = (Complete [], nothing bytes le)
reading_in strict (suc n) before bytes fits le =
    elim (reads strict before bytes) [
      | ends e ↦ (Complete [], e)
      | finds x some e ↦
          let less = shorter strict before bytes x fits e in
          let lt = less.less in
          let others = reading_in strict n (Some x.0.type) x.1 less.fits (omega (arith, lt)) in
          push strict before bytes x (found_takes strict before bytes x fits e) others.0 others.1
      | fails i some e ↦
          let reported = found_fails strict before bytes i fits some e in (
            FailsAfter [] reported.type reported.reason,
            record {
              front = [];
              back = bytes;
              parts = refl;
              frames = refl;
              closed = tt;
              no_frame = reported.no_frame;
            },
          )
    ]

pub has_reading : (strict : Bool) (before : Option ℕ) (bytes : List ℕ) → AreBytes bytes
    → (reading : Reading) × IsReadingAfter strict before bytes reading
has_reading strict before bytes fits = reading_in strict (length bytes) before bytes fits (omega arith)

-- ---- the items of a payload

pub frames_are_items : (strict : Bool) (ps : List TypedFrame) (start : ℕ) (before : Option ℕ) (bytes : List ℕ)
    → AreFrames strict ps bytes → map unplaced (items_of strict start before bytes) ≡ map given ps
unfolding items_of
frames_are_items strict ps start before bytes s =
    frames_give strict ps (length bytes) start before bytes (omega arith) s

pub broken_are_items : (strict : Bool) (ps : List TypedFrame) (start : ℕ) (before : Option ℕ) (bytes : List ℕ)
    (type : Option ℕ) (reason : Fault)
    → AreBytes bytes → IsBroken strict before ps bytes type reason
    → map unplaced (items_of strict start before bytes) ≡ map given ps ++ Err (invalid type reason) ∷ []
unfolding items_of
broken_are_items strict ps start before bytes type reason fits s =
    broken_gives strict ps (length bytes) start before bytes type reason fits (omega arith) s

pub items_are_few : (strict : Bool) (start : ℕ) (before : Option ℕ) (bytes : List ℕ) → AreBytes bytes
    → length (items_of strict start before bytes) ≤ length bytes
unfolding items_of
items_are_few strict start before bytes fits = items_few strict (length bytes) start before bytes fits (omega arith)

pub items_found : (strict : Bool) (start : ℕ) (before : Option ℕ) (bytes : List ℕ) (x : TypedFrame × List ℕ)
    → AreBytes bytes → bytes ≢ [] → found_at strict before bytes ≡ Ok x
    → items_of strict start before bytes ≡ Whole start (end_of start bytes x.1) x.0
    ∷ items_of strict (end_of start bytes x.1) (Some x.0.type) x.1
unfolding items_of
items_found strict start before bytes x fits some e =
    let less = shorter strict before bytes x fits e in
    let lt = less.less in
    let more : suc (length bytes - 1) ≡ length bytes = omega (arith, lt) in
    let stop = end_of start bytes x.1 in
    let enough =
    items_enough strict (length bytes - 1) (length x.1) stop (Some x.0.type) x.1 less.fits (omega (arith, lt)) (omega arith) in
    ap (λ (n : ℕ). items_from strict n start before bytes) (sym more)
    ∙ items_ok strict (length bytes - 1) start before bytes x some e
    ∙ ap (λ (l : List Item). Whole start stop x.0 ∷ l) enough

pub items_broken : (strict : Bool) (start : ℕ) (before : Option ℕ) (bytes : List ℕ) (i : Invalid) → bytes ≢ []
    → found_at strict before bytes ≡ Err i → items_of strict start before bytes ≡ Broken i ∷ []
unfolding items_of
items_broken strict start before bytes i some e =
    stops_at strict (length bytes) start before bytes i (omega arith) some e

pub no_items : (strict : Bool) (start : ℕ) (before : Option ℕ) → items_of strict start before [] ≡ []
unfolding items_of
no_items strict start before = items_none strict 0 start before

-- nothing is left exactly when no bytes are left
some_of : (strict : Bool) (start : ℕ) (before : Option ℕ) (bytes : List ℕ) → AreBytes bytes → Reads strict before bytes
    → items_of strict start before bytes ≡ [] → bytes ≡ []
some_of strict start before bytes fits (ends e) none = e
some_of strict start before bytes fits (finds x some e) none =
    absurd (let h = items_found strict start before bytes x fits some e in cc)
some_of strict start before bytes fits (fails i some e) none =
    absurd (let h = items_broken strict start before bytes i some e in cc)

pub all_read : (strict : Bool) (start : ℕ) (before : Option ℕ) (bytes : List ℕ) → AreBytes bytes
    → items_of strict start before bytes ≡ [] → bytes ≡ []
all_read strict start before bytes fits none = some_of strict start before bytes fits (reads strict before bytes) none

-- ---- frames that begin others

abbrev found_of : TypedFrame × List ℕ → Result (TypedFrame × List ℕ) Invalid
found_of x = Ok x

left_is : (f g : TypedFrame) (x y : List ℕ) → found_of (f, x) ≡ found_of (g, y) → x ≡ y
left_is f g x y e =
    ap (λ (p : TypedFrame × List ℕ). p.1) (let same : (let q : TypedFrame × List ℕ = (f, x) in q) ≡ (g, y) = cc in same)

-- a frame that is not open begins no other
pub begins_none : (strict : Bool) (f g : TypedFrame) (a b x : List ℕ) → is_open f.type ≡ false → IsFrame strict f a
    → IsFrame strict g b → b ≡ a ++ x → a ≡ b
begins_none strict f g a b x closed first second e =
    let one = found_again strict None f a x first (λ opens. absurd (true_is_not_false (sym opens ∙ closed))) in
    let two = found_again strict None g b [] second (λ _. refl) in
    let same : found_of (f, x) ≡ found_of (g, []) =
    sym one ∙ ap (found_at strict None) (sym e ∙ sym (append-nil b)) ∙ two in
    let rest : x ≡ [] = left_is f g x [] same in
    sym (e ∙ ap (λ (l : List ℕ). a ++ l) rest ∙ append-nil a)

-- ---- what is read if types must be in their shortest encodings

frame_relaxed : (strict : Bool) (found : TypedFrame) (bytes : List ℕ) → IsFrame strict found bytes
    → IsFrame false found bytes
frame_relaxed strict found bytes f = record {
  type_bytes = f.type_bytes;
  field_bytes = f.field_bytes;
  parts = f.parts;
  type_encoded = record { encoded = f.type_encoded.encoded; shortest = λ e. absurd (true_is_not_false (sym e)) };
  row = f.row;
  in_table = f.in_table;
  name = f.name;
  fields = f.fields;
}

pub frames_relaxed : (strict : Bool) (found : List TypedFrame) (bytes : List ℕ) → AreFrames strict found bytes
    → AreFrames false found bytes
frames_relaxed strict [] bytes s = s
frames_relaxed strict (f ∷ found) bytes s =
    (s.0, s.1, s.2, frame_relaxed strict f s.0 s.3, s.4, frames_relaxed strict found s.1 s.5)
