-- What isn't allowed first is the error by RFC 9000's rules, after the frames before it.
use Rattle.std.proofs.Common.{◌≡◌, ℕ, List, [], ◌∷◌, ◌++◌, map, Bool, true, false, None, Some, Option, refl, sym, ap, ◌∙◌, subst, inl, inr, append_assoc}
use Rattle.std.specs.Prelude.{◌⊎◌, All}
use Rattle.quic_base.specs.Number.{AreBytes}
use Rattle.quic_base.specs.Varint.{shortest_varint}
use Rattle.quic_base.proofs.PublicLaws.{back_bytes, encoded_bound, encodes_unique}
use Rattle.quic_frame_fields.specs.Field.{Value}
use Rattle.quic_frame_fields.specs.Payload.{TypedFrame, AreClosed, AreFrames, BeginsWithType, Complete, FailsAfter, IsFrame, IsNoFrame, IsReadingAfter, IsReadingOf, Reading, followed_by, last_type}
use Rattle.quic_frame_fields.specs.Reading.{Invalid, invalid}
use Rattle.quic_frame_fields.specs.Table.{Name, Row, AckFrequency, ImmediateAck, is_open, row_of}
use Rattle.quic_frame_fields.specs.declared.frame.fault.Fault.{Fault}
use Rattle.quic_frame_fields.specs.declared.frame.fault.Fault.TheVariants.{InvalidFrameId, LongType, UnexpectedEnd}
use Rattle.quic_frame_fields.proofs.Steps.{true_is_not_false}
use Rattle.quic_frames.specs.Least.{frame_in}
use Rattle.quic_frames.specs.Rules.{Checked, IsCheckedOf, breach_by, breach_of, fault_by, invalid_by, is_of_ack_frequency, is_unknown_by, reported_by}
use Rattle.quic_frames.specs.declared.frame.rules.Breach.{Breach}
use Rattle.quic_frames.specs.declared.frame.rules.Breach.TheVariants as breaches
use Rattle.quic_frames.proofs.CheckedTurns.{Lasts, Reads, reported_followed}
use Rattle.quic_wire.specs.Rfc.{AreAllowed, IsAllowed, IsKnown, IsRfcError, IsRfcFault, IsUnknown, cut_type, field, long_type, not_allowed, reason_for, rfc_rules, unknown_type, with_error}
use Rattle.quic_wire.proofs.Allowed.{all_keep, is_allowed}
use Rattle.quic_wire.proofs.FirstFaults.{ends_there, kept_reason, last_known, name_of_extension, reason_is, some_left, unknown_reason, unread_reason}

-- The payload begins with allowed frames, which aren't open.
record Before (negotiated : Bool) (frames : List TypedFrame) (payload front back : List ℕ) : Type 0 where
  parts : payload ≡ front ++ back
  encoded : AreFrames true frames front
  closed : AreClosed frames
  allowed : All (IsAllowed negotiated) (map frame_in frames)

abbrev EndsWith : Bool → List TypedFrame → List ℕ → Invalid → Type 0
EndsWith negotiated frames payload error = IsCheckedOf (rfc_rules negotiated) payload (with_error frames error)

-- no frame begins after them
at_no_frame : (negotiated : Bool) (frames : List TypedFrame) (payload front back : List ℕ) (type : Option ℕ)
    (reason other : Fault) → Before negotiated frames payload front back
    → IsNoFrame true (last_type None frames) back type reason → fault_by (rfc_rules negotiated) type reason ≡ other
    → EndsWith negotiated frames payload (invalid type other)
at_no_frame negotiated frames payload front back type reason other b none said = (
  FailsAfter frames type reason,
  record {
    front = front;
    back = back;
    parts = b.parts;
    frames = b.encoded;
    closed = b.closed;
    no_frame = none;
  },
  inl (all_keep negotiated frames b.allowed, ap (λ (f : Fault). with_error frames (invalid type f)) (sym said)),
)

-- ---- a frame that isn't allowed

-- a frame that breaks a rule comes after them
at_breach : (negotiated : Bool) (frames : List TypedFrame) (payload front back : List ℕ) (found : TypedFrame)
    (others : List TypedFrame) (breach : Breach) (rest : Reading) → Lasts → Before negotiated frames payload front back
    → IsReadingAfter true (last_type None frames) back rest
    → (reported_by (rfc_rules negotiated) rest).frames ≡ found ∷ others
    → breach_of (rfc_rules negotiated) found.frame ≡ Some breach
    → EndsWith negotiated frames payload (invalid_by found breach)
at_breach negotiated frames payload front back found others breach rest lasts b reads begins breaks = (
  followed_by frames rest,
  subst (λ (l : List ℕ). IsReadingOf true l (followed_by frames rest)) (sym b.parts)
      (lasts true frames front back rest b.encoded b.closed reads),
  inr (record {
    broken = found;
    others = others;
    breach = breach;
    parts = ap (λ (c : Checked). c.frames) (reported_followed (rfc_rules negotiated) frames rest)
        ∙ ap (λ (l : List TypedFrame). frames ++ l) begins;
    kept = all_keep negotiated frames b.allowed;
    breaks = breaks;
    reported = refl;
  }),
)

-- a reading that begins with this frame
abbrev ReadsFirst : Bool → Option ℕ → List ℕ → TypedFrame → Type 0
ReadsFirst negotiated before bytes found = (reading : Reading) × (others : List TypedFrame)
    × IsReadingAfter true before bytes reading × ((reported_by (rfc_rules negotiated) reading).frames ≡ found ∷ others)

-- the frame, and then the reading of what follows it
push : (negotiated : Bool) (before : Option ℕ) (bytes piece rest : List ℕ) (found : TypedFrame) → bytes ≡ piece ++ rest
    → IsFrame true found piece → is_open found.type ≡ false → (reading : Reading)
    → IsReadingAfter true (Some found.type) rest reading → ReadsFirst negotiated before bytes found
push negotiated before bytes piece rest found parts frame closed (Complete others) reads =
    let never : is_open found.type ≡ true → rest ≡ [] = λ opens. absurd (true_is_not_false (sym opens ∙ closed)) in
    (Complete (found ∷ others), others, (piece, rest, parts, frame, never, reads), refl)
push negotiated before bytes piece rest found parts frame closed (FailsAfter others type reason) reads =
    let never : is_open found.type ≡ true → reads.front ≡ [] =
    λ opens. absurd (true_is_not_false (sym opens ∙ closed)) in (
      FailsAfter (found ∷ others) type reason,
      others,
      record {
        front = piece ++ reads.front;
        back = reads.back;
        parts = parts ∙ ap (λ (l : List ℕ). piece ++ l) reads.parts ∙ sym (append_assoc piece reads.front reads.back);
        frames = (piece, reads.front, refl, frame, never, reads.frames);
        closed = (closed, reads.closed);
        no_frame = reads.no_frame;
      },
      refl,
    )

-- What follows a frame that isn't open has a reading, and nothing follows an open one.
reads_first : (negotiated : Bool) (before : Option ℕ) (bytes piece rest : List ℕ) (found : TypedFrame) → Reads
    → AreBytes bytes → bytes ≡ piece ++ rest → IsFrame true found piece → (is_open found.type ≡ true → rest ≡ [])
    → (test : Bool) → is_open found.type ≡ test → ReadsFirst negotiated before bytes found
reads_first negotiated before bytes piece rest found reads fits parts frame ends true opens =
    (Complete (found ∷ []), [], (piece, rest, parts, frame, ends, ends opens), refl)
reads_first negotiated before bytes piece rest found reads fits parts frame ends false closed =
    let after = reads true (Some found.type) rest (back_bytes piece rest (subst AreBytes parts fits)) in
    push negotiated before bytes piece rest found parts frame closed after.it after.is

has_breach : (negotiated : Bool) (name : Name) (values : List Value) → (AreAllowed negotiated name values → ⊥)
    → (found : Option Breach) → breach_by (rfc_rules negotiated) name values ≡ found
    → (breach : Breach) × (breach_by (rfc_rules negotiated) name values ≡ Some breach)
has_breach negotiated name values refused None e = absurd (refused (is_allowed negotiated name values e))
has_breach negotiated name values refused (Some breach) e = (breach, e)

-- The rule that it breaks has this reason, and is looked at once the bytes after it are read without rules.
at_refused : (negotiated : Bool) (frames : List TypedFrame) (payload front back : List ℕ) (found : TypedFrame)
    (piece rest : List ℕ) → Lasts → Reads → AreBytes payload → Before negotiated frames payload front back
    → back ≡ piece ++ rest → IsFrame true found piece → (is_open found.type ≡ true → rest ≡ [])
    → (IsAllowed negotiated found.frame → ⊥)
    → EndsWith negotiated frames payload (record { type = Some found.type; reason = reason_for found.frame.name })
at_refused negotiated frames payload front back found piece rest lasts reads fits b parts frame ends refused =
    let name = found.frame.name in
    let values = found.frame.values in
    let broken = has_breach negotiated name values refused (breach_by (rfc_rules negotiated) name values) refl in
    let first = reads_first negotiated (last_type None frames) back piece rest found reads
    (back_bytes front back (subst AreBytes b.parts fits)) parts frame ends (is_open found.type) refl in
    let report : List ℕ → Invalid = λ reason. record { type = Some found.type; reason = reason } in
    subst (EndsWith negotiated frames payload) (ap report (reason_is negotiated name values broken.0 broken.1))
    (at_breach negotiated frames payload front back found first.1 broken.0 first.0 lasts b first.2 first.3 broken.1)

-- ---- a type of the extension, which wasn't negotiated

abbrev BeginsUnknown : List ℕ → ℕ → Type 0
BeginsUnknown bytes t = BeginsWithType true bytes t (λ fields. IsUnknown false t)

-- a frame that begins there has this type
type_is : (bytes : List ℕ) (t : ℕ) (found : TypedFrame) (piece rest : List ℕ) → BeginsUnknown bytes t
    → bytes ≡ piece ++ rest → IsFrame true found piece → found.type ≡ t
type_is bytes t found piece rest u parts f =
    let whole : f.type_bytes ++ (f.field_bytes ++ rest) ≡ u.front ++ u.back =
    sym (append_assoc f.type_bytes f.field_bytes rest) ∙ ap (λ (l : List ℕ). l ++ rest) (sym f.parts) ∙ sym parts
    ∙ u.parts in
    (encodes_unique found.type t f.type_bytes u.front (f.field_bytes ++ rest) u.back whole f.type_encoded.encoded
    u.encoded.encoded).0

breaks_named : (name : Name) (values : List Value) → (name ≡ ImmediateAck) ⊎ (name ≡ AckFrequency)
    → breach_by (rfc_rules false) name values ≡ Some breaches.Extension
breaks_named name values (inl e) = ap (λ (n : Name). breach_by (rfc_rules false) n values) e
breaks_named name values (inr e) = ap (λ (n : Name). breach_by (rfc_rules false) n values) e

-- and isn't allowed
extension_breaks : (found : TypedFrame) (piece : List ℕ) → IsFrame true found piece
    → is_of_ack_frequency found.type ≡ true → breach_of (rfc_rules false) found.frame ≡ Some breaches.Extension
extension_breaks found piece f e =
    ap (λ (n : Name). breach_by (rfc_rules false) n found.frame.values) f.name
    ∙ breaks_named f.row.name found.frame.values (name_of_extension found.type f.row f.in_table e)

at_extension : (frames : List TypedFrame) (payload front back : List ℕ) (t : ℕ) (found : TypedFrame)
    (others : List TypedFrame) (piece rest : List ℕ) (reading : Reading) → Lasts
    → Before false frames payload front back → BeginsUnknown back t → is_of_ack_frequency t ≡ true
    → back ≡ piece ++ rest → IsFrame true found piece → IsReadingAfter true (last_type None frames) back reading
    → (reported_by (rfc_rules false) reading).frames ≡ found ∷ others
    → EndsWith false frames payload (invalid (Some t) InvalidFrameId)
at_extension frames payload front back t found others piece rest reading lasts b u e parts frame reads begins =
    let same = type_is back t found piece rest u parts frame in
    let broken = extension_breaks found piece frame (ap is_of_ack_frequency same ∙ e) in
    subst (λ (n : ℕ). EndsWith false frames payload (invalid (Some n) InvalidFrameId)) same
    (at_breach false frames payload front back found others breaches.Extension reading lasts b reads begins broken)

-- If no frame begins there, it is because of that type's fields, and the type is reported.
type_reported : (before : Option ℕ) (bytes : List ℕ) (t : ℕ) (type : Option ℕ) (reason : Fault) → BeginsUnknown bytes t
    → is_of_ack_frequency t ≡ true → IsNoFrame true before bytes type reason
    → (type ≡ Some t) × (fault_by (rfc_rules false) (Some t) reason ≡ InvalidFrameId)
type_reported before bytes t type reason u e (inl cut) = absurd (cut.1 t u.front u.back u.parts u.encoded.encoded)
type_reported before bytes t type reason u e (inr (inl long)) =
    let l = long.1 in
    let same =
    encodes_unique long.0 t l.front u.front l.back u.back (sym l.parts ∙ u.parts) l.encoded u.encoded.encoded in
    absurd (l.long (same.1 ∙ u.encoded.shortest refl ∙ ap shortest_varint (sym same.0)))
type_reported before bytes t type reason u e (inr (inr (inl none))) =
    let n = none.1 in
    let same =
    encodes_unique none.0 t n.front u.front n.back u.back (sym n.parts ∙ u.parts) n.encoded.encoded
    u.encoded.encoded in (
      none.2 ∙ ap (λ (x : ℕ). Some x) same.0,
      ap (fault_by (rfc_rules false) (Some t)) none.3 ∙ unknown_reason false (Some t),
    )
type_reported before bytes t type reason u e (inr (inr (inr stops))) =
    let s = stops.1 in
    let same =
    encodes_unique stops.0 t s.front u.front s.back u.back (sym s.parts ∙ u.parts) s.encoded.encoded
    u.encoded.encoded in
    let ends : reason ≡ UnexpectedEnd =
    ends_there stops.0 s.then.0 s.back reason s.then.1 (ap is_of_ack_frequency same.0 ∙ e) s.then.2 in (
      stops.2 ∙ ap (λ (x : ℕ). Some x) same.0,
      ap (fault_by (rfc_rules false) (Some t)) ends ∙ unread_reason t e,
    )

-- Its fields can be read or not: either way its type is unknown.
by_extension : (frames : List TypedFrame) (payload front back : List ℕ) (t : ℕ) → Lasts
    → Before false frames payload front back → BeginsUnknown back t → is_of_ack_frequency t ≡ true
    → (reading : Reading) → IsReadingAfter true (last_type None frames) back reading
    → EndsWith false frames payload (invalid (Some t) InvalidFrameId)
by_extension frames payload front back t lasts b u e (Complete []) none =
    absurd (some_left [] u.front u.back back u.parts (encoded_bound t u.front u.encoded.encoded).1 none)
by_extension frames payload front back t lasts b u e (Complete (found ∷ others)) reads =
    at_extension frames payload front back t found others reads.0 reads.1 (Complete (found ∷ others)) lasts b u e
    reads.2 reads.3 reads refl
by_extension frames payload front back t lasts b u e (FailsAfter [] type reason) reads =
    let whole : back ≡ reads.back = reads.parts ∙ ap (λ (l : List ℕ). l ++ reads.back) reads.frames in
    let none : IsNoFrame true (last_type None frames) back type reason =
    subst (λ (l : List ℕ). IsNoFrame true (last_type None frames) l type reason) (sym whole) reads.no_frame in
    let says = type_reported (last_type None frames) back t type reason u e none in
    subst (λ (x : Option ℕ). EndsWith false frames payload (invalid x InvalidFrameId)) says.0
    (at_no_frame false frames payload front back type reason InvalidFrameId b none
    (ap (λ (x : Option ℕ). fault_by (rfc_rules false) x reason) says.0 ∙ says.1))
by_extension frames payload front back t lasts b u e (FailsAfter (found ∷ others) type reason) reads =
    let f : AreFrames true (found ∷ others) reads.front = reads.frames in
    let parts : back ≡ f.0 ++ (f.1 ++ reads.back) =
    reads.parts ∙ ap (λ (l : List ℕ). l ++ reads.back) f.2 ∙ append_assoc f.0 f.1 reads.back in
    at_extension frames payload front back t found others f.0 (f.1 ++ reads.back)
    (FailsAfter (found ∷ others) type reason) lasts b u e parts f.3 reads refl

-- ---- each fault

no_row : (negotiated : Bool) (frames : List TypedFrame) (payload front back : List ℕ) (t : ℕ)
    → Before negotiated frames payload front back
    → BeginsWithType true back t (λ fields. IsUnknown negotiated t) → row_of t ≡ None
    → EndsWith negotiated frames payload (invalid (Some t) InvalidFrameId)
no_row negotiated frames payload front back t b u none =
    at_no_frame negotiated frames payload front back (Some t) InvalidFrameId InvalidFrameId b
    (inr (inr (inl (
      t,
      record { front = u.front; back = u.back; parts = u.parts; encoded = u.encoded; then = none },
      refl,
      refl,
    )))) (unknown_reason negotiated (Some t))

at_unknown : (negotiated : Bool) (frames : List TypedFrame) (payload front back : List ℕ) (t : ℕ) → Lasts → Reads
    → AreBytes payload → Before negotiated frames payload front back
    → BeginsWithType true back t (λ fields. IsUnknown negotiated t) → IsUnknown negotiated t
    → EndsWith negotiated frames payload (invalid (Some t) InvalidFrameId)
at_unknown negotiated frames payload front back t lasts reads fits b u (inl none) =
    no_row negotiated frames payload front back t b u none
at_unknown true frames payload front back t lasts reads fits b u (inr other) = absurd (true_is_not_false other.0)
at_unknown false frames payload front back t lasts reads fits b u (inr other) =
    let after = reads true (last_type None frames) back (back_bytes front back (subst AreBytes b.parts fits)) in
    by_extension frames payload front back t lasts b u other.1 after.it after.is

known_type : (negotiated : Bool) (t : ℕ) (r : Row) → IsKnown negotiated t r
    → is_unknown_by (rfc_rules negotiated) (Some t) ≡ false
known_type true t r known = refl
known_type false t r (is, inl e) = absurd (true_is_not_false (sym e))
known_type false t r (is, inr e) = e

at_fault : (negotiated : Bool) (frames : List TypedFrame) (payload front back : List ℕ) (reported : Invalid) → Lasts
    → Reads → AreBytes payload → Before negotiated frames payload front back
    → IsRfcFault negotiated (last_type None frames) back reported → EndsWith negotiated frames payload reported
at_fault negotiated frames payload front back reported lasts reads fits b (cut_type some none) =
    -- The type before is reported: that of an allowed frame, so it isn't of the extension unless that was negotiated.
    at_no_frame negotiated frames payload front back (last_type None frames) UnexpectedEnd UnexpectedEnd b
    (inl (some, none, refl, refl))
    (kept_reason negotiated (last_type None frames) UnexpectedEnd
    (last_known negotiated None frames front refl b.encoded b.allowed))
at_fault negotiated frames payload front back reported lasts reads fits b (long_type t long) =
    at_no_frame negotiated frames payload front back (Some t) LongType LongType b
    (inr (inl (t, long, refl, refl))) refl
at_fault negotiated frames payload front back reported lasts reads fits b (unknown_type t u) =
    at_unknown negotiated frames payload front back t lasts reads fits b u u.then
at_fault negotiated frames payload front back reported lasts reads fits b (field t r reason known stops) =
    at_no_frame negotiated frames payload front back (Some t) reason reason b
    (inr (inr (inr (
      t,
      record {
        front = stops.front;
        back = stops.back;
        parts = stops.parts;
        encoded = stops.encoded;
        then = (r, known.0, stops.then);
      },
      refl,
    )))) (kept_reason negotiated (Some t) reason (known_type negotiated t r known))
at_fault negotiated frames payload front back reported lasts reads fits b
    (not_allowed found piece rest parts frame ends refused) =
    at_refused negotiated frames payload front back found piece rest lasts reads fits b parts frame ends refused

pub is_found : Lasts → Reads → (negotiated : Bool) (frames : List TypedFrame) (payload : List ℕ) (error : Invalid)
    → AreBytes payload → IsRfcError negotiated frames payload error
    → IsCheckedOf (rfc_rules negotiated) payload (with_error frames error)
is_found lasts reads negotiated frames payload error fits e =
    at_fault negotiated frames payload e.front e.back error lasts reads fits
    (record { parts = e.parts; encoded = e.encoded; closed = e.closed; allowed = e.allowed }) e.fault
