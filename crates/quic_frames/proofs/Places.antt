-- Where frames are in a payload, as an iterator reads it.
use Rattle.std.proofs.Common.{◌≡◌, ◌≢◌, ℕ, ◌+◌, ◌-◌, ◌<◌, ◌≤◌, Bool, true, false, eqb, List, [], ◌∷◌, ◌++◌, length, take, drop, Option, Some, None, Ok, Err, refl, sym, ap, subst, ◌∙◌, append_assoc, inl, inr, arith}
use Rattle.std.specs.Prelude.{◌⊎◌, slice_range, if◌then◌else◌}
use Rattle.std.proofs.lemmas.List.{append-nil, length-append, length-drop, length-take, take_at, take-append-drop, drop_at, take_rest}
use Rattle.std.proofs.lemmas.Bool.Decides.{nat_tests}
use Rattle.quic_base.specs.Number.{AreBytes}
use Rattle.quic_frames.specs.declared.frame.Frame.{Frame}
use Rattle.quic_errors.specs.declared.invalid_frame.InvalidFrame.{InvalidFrame}
use Rattle.quic_frame_fields.specs.Field.{Value, Number, Bytes, Ranges, Field, IsField, AreFields}
use Rattle.quic_frame_fields.specs.Field as kinds
use Rattle.quic_frame_fields.specs.Table.{is_open}
use Rattle.quic_frame_fields.specs.Payload.{TypedFrame, IsFrame}
use Rattle.quic_frame_fields.specs.Reading.{found_at}
use Rattle.quic_frame_fields.proofs.AckPlaces.{stand_in_frame}
use Rattle.quic_frames.specs.declared.frame.Frame.TheVariants as frames
use Rattle.quic_frames.specs.Found.{found_as, HasItsBlocksBehind}
use Rattle.quic_frames.specs.InRange.{HasNoTypeZero}
use Rattle.quic_frames.specs.IterState.{IterState}
use Rattle.quic_frames.specs.Walk.{bytes_left, rest_of, invalid_of, bytes_of_value, last_bytes, Stands, StandsAsRead, Finds, Fails, IsSpent}
use Rattle.quic_frames.proofs.Finding.{found_padding}
use Rattle.quic_frames.proofs.Frames.{TakesFound, found_takes, found_fails}
use Rattle.quic_frames.proofs.Items.{frame_some, no_frame_some, some_length}

-- ---- the last bytes of a frame

last_bytes-push : (before : Option (List ℕ)) (values : List Value) (value : Value)
    → last_bytes before (values ++ value ∷ []) ≡ bytes_of_value value
last_bytes-push before [] value = refl
last_bytes-push before (first ∷ values) value = last_bytes-push (bytes_of_value first) values value

-- what a field adds
data Adds (values : List Value) (bytes : List ℕ) : Type 0 where
  adds_none : values ≡ [] → bytes ≡ [] → Adds values bytes
  adds_other : (value : Value) → bytes_of_value value ≡ None → values ≡ value ∷ [] → Adds values bytes
  adds_bytes : (front back : List ℕ) → values ≡ Bytes back ∷ [] → bytes ≡ front ++ back → Adds values bytes

field_adds : (field : Field) (before values : List Value) (bytes : List ℕ) → IsField field before values bytes
    → Adds values bytes
field_adds kinds.Varint before values bytes s = adds_other (Number s.0) refl s.1
field_adds kinds.Counted before values bytes s = adds_bytes s.0 s.1 s.2 s.4
field_adds kinds.Id before values bytes s = adds_bytes (length s.0 ∷ []) s.0 s.1 s.4
field_adds kinds.Uint64 before values bytes s = adds_other (Number s.0) refl s.1
field_adds kinds.Bytes16 before values bytes s = adds_bytes [] bytes s.0 refl
field_adds kinds.Blocks before values bytes s = adds_other (Ranges (s.2 ∷ s.3)) refl s.4
field_adds kinds.Rest before values bytes s = adds_bytes [] bytes s refl
field_adds (kinds.Implied n) before values bytes s = adds_other (Number n) refl s.0
field_adds kinds.Ordered before values bytes s = adds_none s.0 s.1

abbrev EndsIn : List Value → List ℕ → List ℕ → Type 0
EndsIn before bytes last =
    ((last_bytes None before ≡ Some last) × (bytes ≡ [])) ⊎ ((front : List ℕ) × (bytes ≡ front ++ last))

none_is_some : (o : Option (List ℕ)) (last : List ℕ) → o ≡ None → o ≡ Some last → ⊥
none_is_some o last none some = cc

some_is : (a b : List ℕ) → bytes_of_value (Bytes a) ≡ Some b → a ≡ b
some_is a b e = cc

all_end_in : (fields : List Field) (before after : List Value) (bytes last : List ℕ)
    → AreFields fields before after bytes → last_bytes None after ≡ Some last → EndsIn before bytes last
all_end_in [] before after bytes last s e = inl (sym (ap (last_bytes None) s.0) ∙ e, s.1)
all_end_in (field ∷ fields) before after bytes last s e =
    elim (all_end_in fields (before ++ s.0) after s.2 last s.5 e) [
      | inr found ↦ inr (s.1 ++ found.0, s.3 ∙ ap (λ (l : List ℕ). s.1 ++ l) found.1 ∙ sym (append_assoc s.1 found.0 last))
      | inl here ↦
          let whole : bytes ≡ s.1 = s.3 ∙ ap (λ (l : List ℕ). s.1 ++ l) here.1 ∙ append-nil s.1 in
          elim (field_adds field before s.0 s.1 s.4) [
            | adds_none none nothing ↦ inl (
              sym (ap (last_bytes None)
                  (ap (λ (l : List Value). before ++ l) none ∙ append-nil before)) ∙ here.0,
              whole ∙ nothing,
            )
            | adds_other value none is ↦
                let e1 : last_bytes None (before ++ value ∷ []) ≡ Some last =
                ap (λ (l : List Value). last_bytes None (before ++ l)) (sym is) ∙ here.0 in
                absurd (none_is_some (bytes_of_value value) last none (sym (last_bytes-push None before value) ∙ e1))
            | adds_bytes front back is parts ↦
                let e1 : last_bytes None (before ++ Bytes back ∷ []) ≡ Some last =
                ap (λ (l : List Value). last_bytes None (before ++ l)) (sym is) ∙ here.0 in
                let same : back ≡ last = some_is back last (sym (last_bytes-push None before (Bytes back)) ∙ e1) in
                inr (front, whole ∙ parts ∙ ap (λ (l : List ℕ). front ++ l) same)
          ]
    ]

-- ---- offsets

middle_is : (a b c : List ℕ) (start stop : ℕ) → length a ≡ start → length a + length b ≡ stop
    → slice_range (a ++ (b ++ c)) start stop ≡ b
middle_is a b c start stop begins stops =
    let long : length b ≡ stop - start = omega arith in
    rw (drop_at a (b ++ c) start begins, take_at b c (stop - start) long) refl

-- a payload cut at an offset and at the end of the frame there
record Cut (strict : Bool) (payload : List ℕ) (offset stop : ℕ) (found : TypedFrame) (rest : List ℕ) : Type 0 where
  first : List ℕ
  front : List ℕ
  whole : payload ≡ first ++ (front ++ rest)
  begins : length first ≡ offset
  ends : length first + length front ≡ stop
  stop_is : stop ≡ length payload - length rest
  within : stop ≤ length payload
  some : offset < stop
  frame : IsFrame strict found front
  opens : is_open found.type ≡ true → rest ≡ []

cut_at : (strict : Bool) (payload : List ℕ) (offset : ℕ) (found : TypedFrame) (rest : List ℕ) → offset ≤ length payload
    → TakesFound strict found (drop offset payload) rest
    → Cut strict payload offset (length payload - length rest) found rest
cut_at strict payload offset found rest le t =
    let first : List ℕ = take offset payload in
    let whole : payload ≡ first ++ (t.front ++ rest) =
    sym (take-append-drop offset payload) ∙ ap (λ (l : List ℕ). take offset payload ++ l) t.parts in
    let begins : length first ≡ offset = omega (arith, length-take offset payload) in
    let sizes : length payload ≡ length first + (length t.front + length rest) =
    ap length whole ∙ length-append first (t.front ++ rest)
    ∙ ap (λ (n : ℕ). length first + n) (length-append t.front rest) in
    let some = frame_some strict found t.front t.frame in
    record {
      first = first;
      front = t.front;
      whole = whole;
      begins = begins;
      ends = omega (arith, sizes);
      stop_is = refl;
      within = omega arith;
      some = omega (arith, sizes, begins, some);
      frame = t.frame;
      opens = t.opens;
    }

cut_stands : (strict : Bool) (payload : List ℕ) (offset stop : ℕ) (found : TypedFrame) (rest : List ℕ)
    → Cut strict payload offset stop found rest → Stands strict payload offset stop found
cut_stands strict payload offset stop found rest c =
    let here : slice_range payload offset stop ≡ c.front =
    ap (λ (l : List ℕ). slice_range l offset stop) c.whole
    ∙ middle_is c.first c.front rest offset stop c.begins c.ends in
    record {
      some = c.some;
      within = c.within;
      encoded = subst (λ (l : List ℕ). IsFrame strict found l) (sym here) c.frame;
      borrowed = λ bytes e.
          elim (all_end_in c.frame.row.fields [] found.frame.values c.frame.field_bytes bytes c.frame.fields e) [
            | inl none ↦ absurd (let h = none.0 in cc)
            | inr f ↦
                let before = c.first ++ (c.frame.type_bytes ++ f.0) in
                let front_is : c.front ≡ (c.frame.type_bytes ++ f.0) ++ bytes =
                c.frame.parts ∙ ap (λ (l : List ℕ). c.frame.type_bytes ++ l) f.1
                ∙ sym (append_assoc c.frame.type_bytes f.0 bytes) in
                let all : payload ≡ before ++ (bytes ++ rest) =
                c.whole ∙ ap (λ (l : List ℕ). c.first ++ (l ++ rest)) front_is
                ∙ ap (λ (l : List ℕ). c.first ++ l) (append_assoc (c.frame.type_bytes ++ f.0) bytes rest)
                ∙ sym (append_assoc c.first (c.frame.type_bytes ++ f.0) (bytes ++ rest)) in
                let sizes : length c.front ≡ length (c.frame.type_bytes ++ f.0) + length bytes =
                ap length front_is ∙ length-append (c.frame.type_bytes ++ f.0) bytes in
                let before_len : length before ≡ length c.first + length (c.frame.type_bytes ++ f.0) =
                length-append c.first (c.frame.type_bytes ++ f.0) in
                ap (λ (l : List ℕ). slice_range l (stop - length bytes) stop) all
                ∙ middle_is before bytes rest (stop - length bytes) stop (omega (arith, sizes, before_len, c.ends))
                (omega (arith, sizes, before_len, c.ends))
          ];
    }

-- the bytes from an offset on, as the code cuts them
pub rest_is : (payload : List ℕ) (offset : ℕ)
    → take (length payload - offset) (drop offset payload) ≡ drop offset payload
rest_is payload offset = take_rest payload offset

-- ---- steps of an iterator

-- the blocks of an ACK are in the bytes that are read
stand_as_read : (type : ℕ) (frame : Frame) (bytes front left : List ℕ) → AreBytes bytes → bytes ≡ front ++ left
    → HasItsBlocksBehind type frame bytes left → StandsAsRead type frame front
stand_as_read type (frames.Ack a) bytes front left fits cut h =
    stand_in_frame type a bytes h.0 front left fits h.1 h.2 cut
stand_as_read type frame bytes front left fits cut h = tt

abbrev pub at_place : Bool → List ℕ → ℕ → Option ℕ → IterState
at_place strict payload offset last =
    record { strict = strict; payload = payload; offset = offset; last = last; is_broken = false }

-- a frame at the offset
pub finds : (strict : Bool) (payload : List ℕ) (offset : ℕ) (last : Option ℕ) (ty : ℕ) (frame : Frame) (rest : List ℕ)
    → HasNoTypeZero frame × HasItsBlocksBehind ty frame (drop offset payload) rest → AreBytes (drop offset payload)
    → offset ≤ length payload → offset < length payload
    → found_at strict last (drop offset payload) ≡ Ok (found_as ty frame, rest)
    → Finds (at_place strict payload offset last) frame (at_place strict payload (length payload - length rest) (Some ty))
finds strict payload offset last ty frame rest apart fits le some e =
    let found = found_as ty frame in
    let bytes = drop offset payload in
    let stop = length payload - length rest in
    let t = found_takes strict last bytes (found, rest) fits e in
    let c = cut_at strict payload offset found rest le t in
    let size : length bytes ≡ length payload - offset = length-drop offset payload in
    let long : length t.front ≡ stop - offset =
    omega (arith, ap length t.parts, length-append t.front rest, size, le) in
    let here : slice_range payload offset stop ≡ t.front =
    ap (take (stop - offset)) t.parts ∙ take_at t.front rest (stop - offset) long in
    record {
      goes_on = refl;
      octets = fits;
      found = found;
      says = refl;
      distinct = apart.0;
      comes = refl;
      stands = cut_stands strict payload offset stop found rest c;
      blocks = subst (λ (l : List ℕ). StandsAsRead ty frame l) (sym here) (stand_as_read ty frame bytes t.front rest fits t.parts apart.1);
      ends = λ opens. omega (arith, ap length (t.opens opens));
    }

-- the same of a walk whose parts are given separately
abbrev pub walk : Bool → List ℕ → ℕ → Option ℕ → Bool → IterState
walk strict payload offset last is_broken =
    record { strict = strict; payload = payload; offset = offset; last = last; is_broken = is_broken }

pub is_not_broken : (strict : Bool) (payload : List ℕ) (offset : ℕ) (last : Option ℕ) (b : Bool) (old : IterState)
    → walk strict payload offset last b ≡ old → b ≡ false → at_place strict payload offset last ≡ old
is_not_broken strict payload offset last b old e f = ap (walk strict payload offset last) (sym f) ∙ e

some_bytes : (payload : List ℕ) (offset : ℕ)
    → eqb (length (take (length payload - offset) (drop offset payload))) 0 ≡ false → offset < length payload
some_bytes payload offset e =
    let size : length (take (length payload - offset) (drop offset payload)) ≡ length payload - offset =
    ap length (rest_is payload offset) ∙ length-drop offset payload in
    let some : eqb (length payload - offset) 0 ≡ false = rw size at e in
    grind (arith, nat_tests)

pub fewer_left : (strict : Bool) (payload : List ℕ) (offset : ℕ) (last : Option ℕ) (found : TypedFrame) (rest : List ℕ)
    → AreBytes (take (length payload - offset) (drop offset payload))
    → found_at strict last (take (length payload - offset) (drop offset payload)) ≡ Ok (found, rest)
    → length rest ≤ length payload
fewer_left strict payload offset last found rest fits e =
    let t = found_takes strict last _ (found, rest) fits e in
    let sizes = ap length t.parts ∙ length-append t.front rest in
    let size : length (take (length payload - offset) (drop offset payload)) ≡ length payload - offset =
    ap length (rest_is payload offset) ∙ length-drop offset payload in
    omega (arith, sizes, size)

pub finds_here : (strict : Bool) (payload : List ℕ) (offset : ℕ) (last : Option ℕ) (b : Bool) (old : IterState) (ty : ℕ)
    (frame : Frame) (rest : List ℕ)
    → HasNoTypeZero frame → HasItsBlocksBehind ty frame (take (length payload - offset) (drop offset payload)) rest
    → walk strict payload offset last b ≡ old → b ≡ false → offset ≤ length payload
    → eqb (length (take (length payload - offset) (drop offset payload))) 0 ≡ false
    → AreBytes (take (length payload - offset) (drop offset payload))
    → found_at strict last (take (length payload - offset) (drop offset payload)) ≡ Ok (found_as ty frame, rest)
    → Finds old frame (walk strict payload (length payload - length rest) (Some ty) b)
finds_here strict payload offset last b old ty frame rest apart blocks v f le some fits e =
    let cut = rest_is payload offset in
    let here =
    finds strict payload offset last ty frame rest (
      apart,
      subst (λ (l : List ℕ). HasItsBlocksBehind ty frame l rest) cut blocks,
    ) (subst AreBytes cut fits) le
    (some_bytes payload offset some) (ap (found_at strict last) (sym cut) ∙ e) in
    subst (λ (o : IterState). Finds o frame (walk strict payload (length payload - length rest) (Some ty) b))
    (is_not_broken strict payload offset last b old v f)
    (subst (λ (c : Bool). Finds (at_place strict payload offset last) frame
    (walk strict payload (length payload - length rest) (Some ty) c)) (sym f) here)

-- a byte of PADDING, the same
pub padding_here : (strict : Bool) (payload : List ℕ) (offset : ℕ) (last : Option ℕ) (b : Bool) (old : IterState)
    → walk strict payload offset last b ≡ old → b ≡ false → offset ≤ length payload
    → eqb (length (take (length payload - offset) (drop offset payload))) 0 ≡ false
    → AreBytes (take (length payload - offset) (drop offset payload))
    → take (length payload - offset) (drop offset payload) ≡ 0 ∷ drop 1 (take (length payload - offset) (drop offset payload))
    → Finds old frames.Padding (walk strict payload (offset + 1) (Some 0) b)
padding_here strict payload offset last b old v f le some fits front =
    let bytes = take (length payload - offset) (drop offset payload) in
    let rest = drop 1 bytes in
    let size : length bytes ≡ length payload - offset =
    ap length (rest_is payload offset) ∙ length-drop offset payload in
    let one = ap length front in
    let less = some_bytes payload offset some in
    let place : length payload - length rest ≡ offset + 1 = omega (arith, size, one, le, less) in
    subst (λ (n : ℕ). Finds old frames.Padding (walk strict payload n (Some 0) b)) place
    (finds_here strict payload offset last b old 0 frames.Padding rest tt tt v f le some fits
    (found_padding strict last bytes rest front))

-- no frame at the offset
pub breaks_here : (strict : Bool) (payload : List ℕ) (offset : ℕ) (last : Option ℕ) (b : Bool) (old : IterState)
    (error : InvalidFrame)
    → walk strict payload offset last b ≡ old → b ≡ false
    → eqb (length (take (length payload - offset) (drop offset payload))) 0 ≡ false
    → AreBytes (take (length payload - offset) (drop offset payload))
    → found_at strict last (take (length payload - offset) (drop offset payload)) ≡ Err (invalid_of error)
    → Fails old error (walk strict payload offset last true)
breaks_here strict payload offset last b old error v f some fits e =
    let cut = rest_is payload offset in
    let less = some_bytes payload offset some in
    let octets = subst AreBytes cut fits in
    let left_some : drop offset payload ≢ [] = λ h. absurd (omega (arith, ap length h, length-drop offset payload, less)) in
    let told = found_fails strict last (drop offset payload) (invalid_of error) octets left_some
    (ap (found_at strict last) (sym cut) ∙ e) in
    subst (λ (o : IterState). Fails o error (walk strict payload offset last true))
    (is_not_broken strict payload offset last b old v f)
    (record {
      lacks = record {
        goes_on = refl;
        type = told.type;
        reason = told.reason;
        no_frame = told.no_frame;
        says = told.is_reported;
      };
      octets = octets;
      comes = refl;
    })

pub is_broken_here : (strict : Bool) (payload : List ℕ) (offset : ℕ) (last : Option ℕ) (b : Bool) (old : IterState)
    → walk strict payload offset last b ≡ old → b ≡ true → IsSpent old
is_broken_here strict payload offset last b old v t = inl (ap (λ (s : IterState). s.is_broken) (sym v) ∙ t)

pub is_over_here : (strict : Bool) (payload : List ℕ) (offset : ℕ) (last : Option ℕ) (b : Bool) (old : IterState)
    → walk strict payload offset last b ≡ old → offset ≤ length payload
    → eqb (length (take (length payload - offset) (drop offset payload))) 0 ≡ true → IsSpent old
is_over_here strict payload offset last b old v le none =
    let size : length (take (length payload - offset) (drop offset payload)) ≡ length payload - offset =
    ap length (rest_is payload offset) ∙ length-drop offset payload in
    let end : offset ≡ length payload =
    let n : length payload - offset ≡ 0 = zero_left (length payload - offset) (rw size at none) in omega (arith, n, le) in
    inr (ap (λ (s : IterState). s.offset) (sym v) ∙ end ∙ ap (λ (s : IterState). length s.payload) v)
  where
    zero_left : (n : ℕ) → eqb n 0 ≡ true → n ≡ 0
    zero_left n e = grind (arith, nat_tests)

-- ---- fewer bytes are left

pub finds_fewer : (old new : IterState) (frame : Frame) → Finds old frame new → bytes_left new < bytes_left old
finds_fewer old new frame f =
    let some = f.stands.some in
    let within = f.stands.within in
    let same : bytes_left new ≡ length old.payload - new.offset =
    ap (λ (s : IterState). if s.is_broken then 0 else length s.payload - new.offset) f.comes
    ∙ ap (λ (b : Bool). if b then 0 else length old.payload - new.offset) f.goes_on in
    let before : bytes_left old ≡ length old.payload - old.offset =
    ap (λ (b : Bool). if b then 0 else length old.payload - old.offset) f.goes_on in
    omega (arith, same, before, some, within)

pub fails_fewer : (old new : IterState) (error : InvalidFrame) → Fails old error new → bytes_left new < bytes_left old
fails_fewer old new error f =
    let l = f.lacks in
    let some = some_length (rest_of old) (no_frame_some old.strict old.last (rest_of old) l.type l.reason l.no_frame) in
    let before : bytes_left old ≡ length old.payload - old.offset =
    ap (λ (b : Bool). if b then 0 else length old.payload - old.offset) l.goes_on in
    let after : bytes_left new ≡ 0 = ap bytes_left f.comes in
    omega (arith, before, after, some, length-drop old.offset old.payload)
