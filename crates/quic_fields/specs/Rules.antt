-- Where the fields of a frame are that is read by rules (RFC 9000, sections 12.4 and 19).
use Rattle.std.specs.Prelude.{◌≡◌, ◌⊎◌, ℕ, zero, suc, ◌+◌, ◌-◌, List, [], ◌∷◌, ◌++◌, length, take, Option, Some, None, Result, Ok, Err, true, false, if◌then◌else◌}
use Rattle.quic_frame_fields.specs.declared.frame.fault.Fault.{Fault}
use Rattle.quic_frame_fields.specs.declared.frame.fault.Fault.TheVariants.{InvalidFrameId, LongType}
use Rattle.quic_frame_fields.specs.Field.{Field, Number, NoNumber, is_rest}
use Rattle.quic_frame_fields.specs.Payload.{TypedFrame, IsFrame, HasLongType, BeginsWithType}
use Rattle.quic_frame_fields.specs.Reading.{is_long_type, reason_text, varint_at}
use Rattle.quic_frame_fields.specs.Table.{Row, row_of, is_open}
use Rattle.quic_frames.specs.declared.frame.rules.Rules.{Rules}
use Rattle.quic_frames.specs.declared.frame.rules.Breach.{Breach}
use Rattle.quic_frames.specs.Rules.{Keeps, breach_of, breach_text, is_unknown_by}
use Rattle.quic_fields.specs.declared.field.Span.{Span}
use Rattle.quic_fields.specs.declared.rules.Refusal.{Refusal}
use Rattle.quic_fields.specs.declared.rules.Refusal.TheVariants.{NoFrame, Broken}
use Rattle.quic_fields.specs.Stopping.{StopsAtField}
use Rattle.quic_fields.specs.Spans.{span, IsFrameAt, IsNoFrameAt, AreInRow}
use Rattle.quic_fields.specs.Walk.{walk_at, stored, HasSpans}

-- the reason of a refusal, as text
abbrev pub refusal_text : Refusal → List ℕ
refusal_text (NoFrame fault) = reason_text fault
refusal_text (Broken breach) = breach_text breach

-- ---- the type

-- A type comes first that the rules allow: in its shortest encoding if it must be, and not that of an extension that
-- wasn't negotiated.
abbrev pub AllowsType : Rules → List ℕ → Type 0
AllowsType rules bytes =
    (t : ℕ) × BeginsWithType rules.short_types bytes t (λ back. is_unknown_by rules (Some t) ≡ false)

-- A type comes first, and the rules reject it, for this reason.
abbrev pub ForbidsType : Rules → List ℕ → Fault → Type 0
ForbidsType rules bytes reason = (t : ℕ)
    × ((HasLongType rules.short_types bytes t × (reason ≡ LongType))
    ⊎ (BeginsWithType rules.short_types bytes t (λ back. is_unknown_by rules (Some t) ≡ true)
    × (reason ≡ InvalidFrameId)))

-- ---- the field of a rule

-- The index of the last field in a row that has a number: a number, or bytes with their length; if the row ends in
-- bytes without a length, that of the field in front of them.
abbrev pub broken_at : List Field → ℕ
broken_at [] = 1
broken_at (field ∷ []) = 1
broken_at (field ∷ next ∷ fields) = if is_rest next then 1 else 1 + broken_at (next ∷ fields)

-- The frame at the front breaks a rule, and the field with this index is at fault: these are the spans of those before
-- it.
pub record BreaksAt (rules : Rules) (bytes : List ℕ) (spans : List Span) (at : ℕ) (breach : Breach) : Type 0 where
  pub allowed : AllowsType rules bytes
  pub found : TypedFrame
  pub all : List Span
  pub front : List ℕ
  pub back : List ℕ
  pub parts : bytes ≡ front ++ back
  pub frame : IsFrameAt false found all front
  pub opens : is_open found.type ≡ true → back ≡ []
  pub breaks : breach_of rules found.frame ≡ Some breach
  pub index : at ≡ broken_at frame.row.fields
  pub before : spans ≡ take at all

-- No frame that the rules allow begins here, for this reason. The field with this index is at fault, and these are the
-- spans of those before it: the type, if the rules reject it; a field that can't be read; or that of a rule.
abbrev pub IsRefusedAt : Rules → List ℕ → List Span → ℕ → Refusal → Type 0
IsRefusedAt rules bytes spans at (NoFrame reason) =
    (ForbidsType rules bytes reason × (spans ≡ []) × (at ≡ 0))
    ⊎ ((NoNumber bytes ⊎ AllowsType rules bytes) × IsNoFrameAt bytes spans at reason)
IsRefusedAt rules bytes spans at (Broken breach) = BreaksAt rules bytes spans at breach

-- The frame at the front has these spans, and breaks no rule.
pub record IsAllowedAt (rules : Rules) (bytes : List ℕ) (spans : List Span) : Type 0 where
  pub found : TypedFrame
  pub front : List ℕ
  pub back : List ℕ
  pub parts : bytes ≡ front ++ back
  pub frame : IsFrameAt false found spans front
  pub opens : is_open found.type ≡ true → back ≡ []
  pub allowed : AllowsType rules bytes
  pub kept : Keeps rules found

-- The frame at the front has these spans, and the rules allow it.
pub record HasSpansBy (rules : Rules) (payload : List ℕ) (old new : List Span) (count end : ℕ) : Type 0 where
  pub plain : HasSpans payload old new count end
  pub allowed : AllowsType rules payload
  pub kept : Keeps rules plain.found

-- No frame that the rules allow begins the payload, for this reason. The spans of the fields before the one at fault
-- are in the room, as far as it reaches; this is how many they are, and so the index of the field at fault; and that
-- field begins at this offset.
pub record LacksSpansBy (rules : Rules) (payload : List ℕ) (old new : List Span) (count end : ℕ) (reason : Refusal)
    : Type 0 where
  pub spans : List Span
  pub refused : IsRefusedAt rules payload spans count reason
  pub room : new ≡ stored 0 spans old
  pub all : count ≡ length spans
  pub stop : AreInRow 0 spans end

-- So much of the field with this index, which begins at this offset and is at fault, comes before what is at fault in
-- it: nothing if the type is rejected or a rule is broken, and nothing without a fault.
abbrev pub StopsBy : Option Refusal → List ℕ → ℕ → ℕ → ℕ × ℕ → Type 0
StopsBy None bytes index start at = at ≡ (0, 0)
StopsBy (Some (Broken breach)) bytes index start at = at ≡ (0, 0)
StopsBy (Some (NoFrame reason)) bytes index start at = StopsAtField bytes index start reason at

-- ---- as functions, and what single calls find

abbrev pub type_fault_at : Rules → ℕ → Result (ℕ × List ℕ) Fault → Option Fault
type_fault_at rules total (Err e) = None
type_fault_at rules total (Ok x) = if is_long_type rules.short_types x.0 (total - length x.1) then Some LongType
    else if is_unknown_by rules (Some x.0) then Some InvalidFrameId else None

-- the fields of a frame before the one that is at fault in it if it breaks a rule
abbrev pub broken_fields : ℕ → ℕ → List ℕ → Option Row → List Span
broken_fields type width bytes None = []
broken_fields type width bytes (Some r) = span 0 0 (Number type ∷ []) width
    ∷ (walk_at 1 width (take (broken_at r.fields - 1) r.fields) [] bytes).0

abbrev pub broken_type : ℕ → Result (ℕ × List ℕ) Fault → List Span
broken_type total (Err e) = []
broken_type total (Ok x) = broken_fields x.0 (total - length x.1) x.1 (row_of x.0)

abbrev pub broken_walk : List ℕ → List Span
broken_walk bytes = broken_type (length bytes) (varint_at bytes)

-- The frame at the front breaks a rule.
pub record FrontBreaks (rules : Rules) (bytes : List ℕ) (breach : Breach) : Type 0 where
  pub found : TypedFrame
  pub front : List ℕ
  pub back : List ℕ
  pub parts : bytes ≡ front ++ back
  pub frame : IsFrame false found front
  pub opens : is_open found.type ≡ true → back ≡ []
  pub breaks : breach_of rules found.frame ≡ Some breach

-- If a frame is at the front, it breaks no rule.
abbrev pub FrontKeeps : Rules → List ℕ → Type 0
FrontKeeps rules bytes = (found : TypedFrame) (front back : List ℕ) → bytes ≡ front ++ back → IsFrame false found front
    → (is_open found.type ≡ true → back ≡ []) → Keeps rules found
