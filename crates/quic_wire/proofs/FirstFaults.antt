-- The error by RFC 9000's rules is that of the first thing that isn't allowed.
use Rattle.std.proofs.Common.{◌≡◌, ℕ, zero, suc, ◌+◌, ◌<◌, List, [], ◌∷◌, ◌++◌, map, length, Bool, true, false, None, Some, Option, refl, sym, ap, ◌∙◌, subst, arith, inl, inr, append_assoc}
use Rattle.std.specs.Prelude.{◌⊎◌, All, if◌then◌else◌}
use Rattle.std.proofs.lemmas.Bool.Decides.{nat_tests}
use Rattle.std.proofs.lemmas.List.{append-nil, length-append}
use Rattle.std.proofs.lemmas.List.Elements.{All-head, All-tail}
use Rattle.quic_frame_fields.specs.Field.{Field, Value, Number, Bytes, Varint, StopsWithin}
use Rattle.quic_frame_fields.specs.Payload.{TypedFrame, AreClosed, AreFrames, BeginsWithType, Complete, FailsAfter, IsFrame, IsNoFrame, IsReadingOf, Reading, last_type}
use Rattle.quic_frame_fields.specs.Reading.{Invalid, invalid}
use Rattle.quic_frame_fields.specs.Table.{Name, Row, Crypto, NewToken, Stream, MaxStreams, StreamsBlocked, AckFrequency, ImmediateAck, ack_frequency_row, is_open, row, row_of}
use Rattle.quic_frame_fields.specs.declared.frame.fault.Fault.{Fault}
use Rattle.quic_frame_fields.specs.declared.frame.fault.Fault.TheVariants.{InvalidFrameId, LongType, Malformed, UnexpectedEnd}
use Rattle.quic_frame_fields.proofs.Steps.{true_is_not_false}
use Rattle.quic_frames.specs.Least.{frame_in}
use Rattle.quic_frames.specs.Rules.{Checked, IsCheckedOf, IsCheckedReading, breach_by, breach_of, breach_text, broken_if, fault_by, invalid_by, is_of_ack_frequency, is_unknown_by, reported_by}
use Rattle.quic_frames.specs.declared.frame.rules.Breach.{Breach}
use Rattle.quic_frames.specs.declared.frame.rules.Breach.TheVariants as breaches
use Rattle.quic_frames.proofs.Items.{frame_some}
use Rattle.quic_wire.specs.Rfc.{AreAllowed, IsAllowed, IsRfcError, IsRfcFault, cut_type, field, long_type, not_allowed, reason_for, rfc_rules, unknown_type, with_error}
use Rattle.quic_wire.proofs.Allowed.{all_allowed, keeps}

-- ---- types of the extension

of_extension : (t : ℕ) → is_of_ack_frequency t ≡ true → (t ≡ 0x1f) ⊎ (t ≡ 0xaf)
of_extension t e = grind (arith, nat_tests)

named : (t n : ℕ) (r it : Row) → t ≡ n → row_of n ≡ Some it → row_of t ≡ Some r → it ≡ r
named t n r it e known is =
    let here : Some it ≡ Some r = sym known ∙ ap row_of (sym e) ∙ is in cc

none_allowed : (name : Name) (values : List Value) → (name ≡ ImmediateAck) ⊎ (name ≡ AckFrequency)
    → AreAllowed false name values → ⊥
none_allowed name values (inl e) allowed =
    let no = subst (λ (n : Name). AreAllowed false n values) e allowed in cc
none_allowed name values (inr e) allowed =
    let no = subst (λ (n : Name). AreAllowed false n values) e allowed in cc

pub name_of_extension : (t : ℕ) (r : Row) → row_of t ≡ Some r → is_of_ack_frequency t ≡ true
    → (r.name ≡ ImmediateAck) ⊎ (r.name ≡ AckFrequency)
name_of_extension t r is e = elim (of_extension t e) [
  | inl one ↦ inl (ap (λ (x : Row). x.name) (sym (named t 0x1f r (row ImmediateAck []) one refl is)))
  | inr other ↦ inr (ap (λ (x : Row). x.name) (sym (named t 0xaf r ack_frequency_row other refl is)))
]

-- the type of an allowed frame is known
by_test : (found : TypedFrame) (bytes : List ℕ) → IsFrame true found bytes → IsAllowed false found.frame
    → (test : Bool) → is_of_ack_frequency found.type ≡ test → test ≡ false
by_test found bytes f allowed true e =
    let named = name_of_extension found.type f.row f.in_table e in
    absurd (none_allowed f.row.name found.frame.values named
    (subst (λ (n : Name). AreAllowed false n found.frame.values) f.name allowed))
by_test found bytes f allowed false e = refl

known_type : (negotiated : Bool) (found : TypedFrame) (bytes : List ℕ) → IsFrame true found bytes
    → IsAllowed negotiated found.frame → is_unknown_by (rfc_rules negotiated) (Some found.type) ≡ false
known_type true found bytes f allowed = refl
known_type false found bytes f allowed = by_test found bytes f allowed (is_of_ack_frequency found.type) refl

pub last_known : (negotiated : Bool) (before : Option ℕ) (found : List TypedFrame) (bytes : List ℕ)
    → is_unknown_by (rfc_rules negotiated) before ≡ false → AreFrames true found bytes
    → All (IsAllowed negotiated) (map frame_in found)
    → is_unknown_by (rfc_rules negotiated) (last_type before found) ≡ false
last_known negotiated before [] bytes known are all = known
last_known negotiated before (found ∷ others) bytes known are all =
    last_known negotiated (Some found.type) others are.1
    (known_type negotiated found are.0 are.3 (All-head (IsAllowed negotiated) found.frame (map frame_in others) all))
    are.5 (All-tail (IsAllowed negotiated) found.frame (map frame_in others) all)

-- ---- why no frame begins

abbrev FaultOf : Bool → Option ℕ → List ℕ → Option ℕ → Fault → Type 0
FaultOf negotiated before bytes type reason =
    IsRfcFault negotiated before bytes (invalid type (fault_by (rfc_rules negotiated) type reason))

abbrev varints : ℕ → List Field
varints zero = []
varints (suc n) = Varint ∷ varints n

only_end : (n : ℕ) (before : List Value) (bytes : List ℕ) (reason : Fault) → StopsWithin (varints n) before bytes reason
    → reason ≡ UnexpectedEnd
only_end zero before bytes reason stops = absurd stops
only_end (suc n) before bytes reason (inl stops) = stops.why
only_end (suc n) before bytes reason (inr more) = only_end n (before ++ more.0) more.2 reason more.5

pub ends_there : (t : ℕ) (r : Row) (bytes : List ℕ) (reason : Fault) → row_of t ≡ Some r → is_of_ack_frequency t ≡ true
    → StopsWithin r.fields [] bytes reason → reason ≡ UnexpectedEnd
ends_there t r bytes reason is e stops = elim (of_extension t e) [
  | inl one ↦
      let same = named t 0x1f r (row ImmediateAck []) one refl is in
      absurd (subst (λ (x : Row). StopsWithin x.fields [] bytes reason) (sym same) stops)
  | inr other ↦
      let same = named t 0xaf r ack_frequency_row other refl is in
      only_end 4 [] bytes reason (subst (λ (x : Row). StopsWithin x.fields [] bytes reason) (sym same) stops)
]

pub kept_reason : (negotiated : Bool) (type : Option ℕ) (reason : Fault)
    → is_unknown_by (rfc_rules negotiated) type ≡ false → fault_by (rfc_rules negotiated) type reason ≡ reason
kept_reason negotiated type UnexpectedEnd known = rw known refl
kept_reason negotiated type InvalidFrameId known = rw known refl
kept_reason negotiated type Malformed known = rw known refl
kept_reason negotiated type LongType known = refl

same_either : (unknown : Bool) → (if unknown then InvalidFrameId else InvalidFrameId) ≡ InvalidFrameId
same_either true = refl
same_either false = refl

pub unknown_reason : (negotiated : Bool) (type : Option ℕ)
    → fault_by (rfc_rules negotiated) type InvalidFrameId ≡ InvalidFrameId
unknown_reason negotiated type = same_either (is_unknown_by (rfc_rules negotiated) type)

pub unread_reason : (t : ℕ) → is_of_ack_frequency t ≡ true
    → fault_by (rfc_rules false) (Some t) UnexpectedEnd ≡ InvalidFrameId
unread_reason t e = rw e refl

reported : (negotiated : Bool) (before : Option ℕ) (bytes : List ℕ) (type : Option ℕ) (reason other : Fault)
    → fault_by (rfc_rules negotiated) type reason ≡ other → IsRfcFault negotiated before bytes (invalid type other)
    → FaultOf negotiated before bytes type reason
reported negotiated before bytes type reason other e is =
    subst (λ (f : Fault). IsRfcFault negotiated before bytes (invalid type f)) (sym e) is

field_fault : (negotiated : Bool) (before : Option ℕ) (bytes : List ℕ) (t : ℕ) (r : Row) (reason : Fault)
    → row_of t ≡ Some r → BeginsWithType true bytes t (λ fields. StopsWithin r.fields [] fields reason)
    → (test : Bool) → is_of_ack_frequency t ≡ test → FaultOf negotiated before bytes (Some t) reason
field_fault true before bytes t r reason is b test e =
    reported true before bytes (Some t) reason reason (kept_reason true (Some t) reason refl)
    (field t r reason (is, inl refl) b)
field_fault false before bytes t r reason is b false e =
    reported false before bytes (Some t) reason reason (kept_reason false (Some t) reason e)
    (field t r reason (is, inr e) b)
field_fault false before bytes t r reason is b true e =
    let ends : reason ≡ UnexpectedEnd = ends_there t r b.back reason is e b.then in
    let here : fault_by (rfc_rules false) (Some t) reason ≡ InvalidFrameId =
    ap (fault_by (rfc_rules false) (Some t)) ends ∙ unread_reason t e in
    reported false before bytes (Some t) reason InvalidFrameId here
    (unknown_type t (record { front = b.front; back = b.back; parts = b.parts; encoded = b.encoded; then = inr (refl, e) }))

fault_of : (negotiated : Bool) (before : Option ℕ) (bytes : List ℕ) (type : Option ℕ) (reason : Fault)
    → is_unknown_by (rfc_rules negotiated) before ≡ false → IsNoFrame true before bytes type reason
    → FaultOf negotiated before bytes type reason
fault_of negotiated before bytes type reason known (inl cut) =
    let here : FaultOf negotiated before bytes before UnexpectedEnd =
    reported negotiated before bytes before UnexpectedEnd UnexpectedEnd
    (kept_reason negotiated before UnexpectedEnd known) (cut_type cut.0 cut.1) in
    subst (λ (f : Fault). FaultOf negotiated before bytes type f) (sym cut.3)
    (subst (λ (t : Option ℕ). FaultOf negotiated before bytes t UnexpectedEnd) (sym cut.2) here)
fault_of negotiated before bytes type reason known (inr (inl long)) =
    subst (λ (f : Fault). FaultOf negotiated before bytes type f) (sym long.3)
    (subst (λ (t : Option ℕ). FaultOf negotiated before bytes t LongType) (sym long.2) (long_type long.0 long.1))
fault_of negotiated before bytes type reason known (inr (inr (inl none))) =
    let b = none.1 in
    let here : FaultOf negotiated before bytes (Some none.0) InvalidFrameId =
    reported negotiated before bytes (Some none.0) InvalidFrameId InvalidFrameId
    (unknown_reason negotiated (Some none.0))
    (unknown_type none.0
    (record { front = b.front; back = b.back; parts = b.parts; encoded = b.encoded; then = inl b.then })) in
    subst (λ (f : Fault). FaultOf negotiated before bytes type f) (sym none.3)
    (subst (λ (t : Option ℕ). FaultOf negotiated before bytes t InvalidFrameId) (sym none.2) here)
fault_of negotiated before bytes type reason known (inr (inr (inr stops))) =
    let b = stops.1 in
    subst (λ (t : Option ℕ). FaultOf negotiated before bytes t reason) (sym stops.2)
    (field_fault negotiated before bytes stops.0 b.then.0 reason b.then.1
    (record { front = b.front; back = b.back; parts = b.parts; encoded = b.encoded; then = b.then.2 })
    (is_of_ack_frequency stops.0) refl)

-- ---- a frame that isn't allowed

record SplitAt (before : List TypedFrame) (broken : TypedFrame) (bytes : List ℕ) : Type 0 where
  front : List ℕ
  back : List ℕ
  piece : List ℕ
  rest : List ℕ
  parts : bytes ≡ front ++ back
  encoded : AreFrames true before front
  closed : AreClosed before
  cut : back ≡ piece ++ rest
  frame : IsFrame true broken piece
  opens : is_open broken.type ≡ true → rest ≡ []

pub some_left : (front piece rest all : List ℕ) → all ≡ front ++ (piece ++ rest) → 0 < length piece → all ≡ [] → ⊥
some_left front piece rest all parts some none =
    let sizes : length all ≡ length front + (length piece + length rest) =
    ap length parts ∙ length-append front (piece ++ rest) ∙ ap (λ (n : ℕ). length front + n) (length-append piece rest) in
    let zero : length all ≡ 0 = ap length none in
    omega (arith, sizes, zero, some)

is_shut : (test : Bool) → (test ≡ true → ⊥) → test ≡ false
is_shut true never = absurd (never refl)
is_shut false never = refl

split_at : (before : List TypedFrame) (broken : TypedFrame) (others : List TypedFrame) (bytes : List ℕ)
    → AreFrames true (before ++ broken ∷ others) bytes → SplitAt before broken bytes
split_at [] broken others bytes are = record {
  front = [];
  back = bytes;
  piece = are.0;
  rest = are.1;
  parts = refl;
  encoded = refl;
  closed = tt;
  cut = are.2;
  frame = are.3;
  opens = are.4;
}
split_at (first ∷ before) broken others bytes are =
    let s = split_at before broken others are.1 are.5 in
    let left : are.1 ≡ s.front ++ (s.piece ++ s.rest) = s.parts ∙ ap (λ (l : List ℕ). s.front ++ l) s.cut in
    let some = frame_some true broken s.piece s.frame in
    let goes_on : is_open first.type ≡ true → ⊥ =
    λ opens. some_left s.front s.piece s.rest are.1 left some (are.4 opens) in
    let end : is_open first.type ≡ true → s.front ≡ [] = λ opens. absurd (goes_on opens) in
    record {
      front = are.0 ++ s.front;
      back = s.back;
      piece = s.piece;
      rest = s.rest;
      parts = are.2 ∙ ap (λ (l : List ℕ). are.0 ++ l) s.parts ∙ sym (append_assoc are.0 s.front s.back);
      encoded = (are.0, s.front, refl, are.3, end, s.encoded);
      closed = (is_shut (is_open first.type) goes_on, s.closed);
      cut = s.cut;
      frame = s.frame;
      opens = s.opens;
    }

-- of frames that aren't open, also the one that breaks a rule isn't
shut_at : (before : List TypedFrame) (broken : TypedFrame) (others : List TypedFrame)
    → AreClosed (before ++ broken ∷ others) → is_open broken.type ≡ false
shut_at [] broken others closed = closed.0
shut_at (first ∷ before) broken others closed = shut_at before broken others closed.1

broken_is : (is_broken : Bool) (one breach : Breach) → broken_if is_broken one ≡ Some breach → one ≡ breach
broken_is true one breach e = cc
broken_is false one breach e = absurd cc

pub reason_is : (rules_of : Bool) (name : Name) (values : List Value) (breach : Breach)
    → breach_by (rfc_rules rules_of) name values ≡ Some breach → breach_text breach ≡ reason_for name
reason_is negotiated Crypto (Number offset ∷ Bytes sent ∷ []) breach e =
    ap breach_text (sym (broken_is _ breaches.Limit breach e))
reason_is negotiated Stream (fin ∷ id ∷ Number offset ∷ Bytes sent ∷ []) breach e =
    ap breach_text (sym (broken_is _ breaches.Limit breach e))
reason_is negotiated MaxStreams (dir ∷ Number count ∷ []) breach e =
    ap breach_text (sym (broken_is _ breaches.Limit breach e))
reason_is negotiated StreamsBlocked (dir ∷ Number count ∷ []) breach e =
    ap breach_text (sym (broken_is _ breaches.Limit breach e))
reason_is negotiated NewToken (Bytes token ∷ []) breach e =
    ap breach_text (sym (broken_is _ breaches.Token breach e))
reason_is negotiated AckFrequency values breach e =
    ap breach_text (sym (broken_is _ breaches.Extension breach e))
reason_is negotiated ImmediateAck values breach e =
    ap breach_text (sym (broken_is _ breaches.Extension breach e))
reason_is negotiated name values breach e = absurd cc

both : (o : Option Breach) (breach : Breach) → o ≡ None → o ≡ Some breach → ⊥
both o breach none some = cc

breach_fault : (negotiated : Bool) (before : Option ℕ) (bytes front back : List ℕ) (found : TypedFrame)
    (breach : Breach) → bytes ≡ front ++ back → IsFrame true found front
    → (is_open found.type ≡ true → back ≡ []) → breach_of (rfc_rules negotiated) found.frame ≡ Some breach
    → IsRfcFault negotiated before bytes (invalid_by found breach)
breach_fault negotiated before bytes front back found breach parts frame opens breaks =
    let report : List ℕ → Invalid = λ reason. record { type = Some found.type; reason = reason } in
    let refused : IsAllowed negotiated found.frame → ⊥ = λ allowed.
    both (breach_of (rfc_rules negotiated) found.frame) breach
    (keeps negotiated found.frame.name found.frame.values allowed) breaks in
    subst (IsRfcFault negotiated before bytes)
    (ap report (sym (reason_is negotiated found.frame.name found.frame.values breach breaks)))
    (not_allowed found front back parts frame opens refused)

-- ---- a payload

-- Only if nothing follows the frames, the last may be open.
frames_there : (negotiated : Bool) (payload : List ℕ) (reading : Reading) → IsReadingOf true payload reading
    → (front back : List ℕ) × (payload ≡ front ++ back)
    × AreFrames true (reported_by (rfc_rules negotiated) reading).frames front
    × (AreClosed (reported_by (rfc_rules negotiated) reading).frames ⊎ (back ≡ []))
frames_there negotiated payload (Complete found) reads = (payload, [], sym (append-nil payload), reads, inr refl)
frames_there negotiated payload (FailsAfter found type reason) reads =
    (reads.front, reads.back, reads.parts, reads.frames, inl reads.closed)

ends_with_it : (before : List TypedFrame) (broken : TypedFrame) (others : List TypedFrame) (rest back : List ℕ)
    → (is_open broken.type ≡ true → rest ≡ []) → AreClosed (before ++ broken ∷ others) ⊎ (back ≡ [])
    → is_open broken.type ≡ true → rest ++ back ≡ []
ends_with_it before broken others rest back ends (inl closed) opens =
    absurd (true_is_not_false (sym opens ∙ shut_at before broken others closed))
ends_with_it before broken others rest back ends (inr none) opens = ap (λ (l : List ℕ). l ++ back) (ends opens) ∙ none

some_error : (a b : Invalid) → Some a ≡ Some b → a ≡ b
some_error a b e = cc

no_error : (i : Invalid) → Some i ≡ None → ⊥
no_error i e = cc

of_reading : (negotiated : Bool) (frames : List TypedFrame) (payload : List ℕ) (error : Invalid) (reading : Reading)
    → IsReadingOf true payload reading
    → IsCheckedReading (rfc_rules negotiated) reading (with_error frames error)
    → IsRfcError negotiated frames payload error
of_reading negotiated frames payload error (Complete found) reads (inl whole) =
    absurd (no_error error (ap (λ (c : Checked). c.error) whole.1))
of_reading negotiated frames payload error (FailsAfter found type reason) reads (inl whole) =
    let same : found ≡ frames = sym (ap (λ (c : Checked). c.frames) whole.1) in
    let said : invalid type (fault_by (rfc_rules negotiated) type reason) ≡ error =
    some_error _ _ (sym (ap (λ (c : Checked). c.error) whole.1)) in
    let allowed = all_allowed negotiated found whole.0 in
    let known = last_known negotiated None found reads.front refl reads.frames allowed in
    let here = fault_of negotiated (last_type None found) reads.back type reason known reads.no_frame in
    subst (λ (l : List TypedFrame). IsRfcError negotiated l payload error) same
    (record {
      front = reads.front;
      back = reads.back;
      parts = reads.parts;
      encoded = reads.frames;
      closed = reads.closed;
      allowed = allowed;
      fault = subst (IsRfcFault negotiated (last_type None found) reads.back) said here;
    })
of_reading negotiated frames payload error reading reads (inr stops) =
    let there = frames_there negotiated payload reading reads in
    let s = split_at frames stops.broken stops.others there.0
    (subst (λ (l : List TypedFrame). AreFrames true l there.0) stops.parts there.3) in
    let said : invalid_by stops.broken stops.breach ≡ error = some_error _ _ (sym stops.reported) in
    let ends = ends_with_it frames stops.broken stops.others s.rest there.1 s.opens
    (subst (λ (l : List TypedFrame). AreClosed l ⊎ (there.1 ≡ [])) stops.parts there.4) in
    let whole : s.back ++ there.1 ≡ s.piece ++ (s.rest ++ there.1) =
    ap (λ (l : List ℕ). l ++ there.1) s.cut ∙ append_assoc s.piece s.rest there.1 in
    record {
      front = s.front;
      back = s.back ++ there.1;
      parts = there.2 ∙ ap (λ (l : List ℕ). l ++ there.1) s.parts ∙ append_assoc s.front s.back there.1;
      encoded = s.encoded;
      closed = s.closed;
      allowed = all_allowed negotiated frames stops.kept;
      fault = subst (IsRfcFault negotiated (last_type None frames) (s.back ++ there.1)) said
          (breach_fault negotiated (last_type None frames) (s.back ++ there.1) s.piece (s.rest ++ there.1) stops.broken
          stops.breach whole s.frame ends stops.breaks);
    }

pub first_fault : (negotiated : Bool) (frames : List TypedFrame) (payload : List ℕ) (error : Invalid)
    → IsCheckedOf (rfc_rules negotiated) payload (with_error frames error) → IsRfcError negotiated frames payload error
first_fault negotiated frames payload error is = of_reading negotiated frames payload error is.0 is.1 is.2
