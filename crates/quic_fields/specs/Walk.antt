-- Reading fields from left to right, as functions: what the code computes. The grammar is in `Spans`.
use Rattle.std.specs.Prelude.{◌≡◌, ℕ, ◌+◌, ◌-◌, List, [], ◌∷◌, ◌++◌, length, Result, Ok, Err, Option, Some, None, true, false, slice_set, ⊤, Bool, nat_le, unwrap_or}
use Rattle.quic_frame_fields.specs.declared.frame.fault.Fault.{Fault}
use Rattle.quic_frame_fields.specs.declared.frame.fault.Fault.TheVariants.{InvalidFrameId}
use Rattle.quic_frame_fields.specs.Field.{Value, Number, Field}
use Rattle.quic_frame_fields.specs.Reading.{field_at, varint_at}
use Rattle.quic_frame_fields.specs.Table.{Row, row_of, is_open}
use Rattle.quic_frame_fields.specs.Payload.{TypedFrame}
use Rattle.quic_fields.specs.declared.field.Span.{Span}
use Rattle.quic_fields.specs.declared.field.Seen.{Seen}
use Rattle.quic_fields.specs.declared.field.Seen.TheVariants.{Nothing, Values}
use Rattle.quic_fields.specs.Spans.{span, number_in, IsFrameAt, IsNoFrameAt, AreInRow}

-- Whether these are numbers, the second of which is at most the first.
abbrev pub are_ordered : Option ℕ → Option ℕ → Bool
are_ordered (Some first) (Some second) = nat_le second first
are_ordered first second = false

-- what later fields need of the values before them, after one more value, a number or not
abbrev pub with_value : Seen → Option ℕ → Seen
with_value Nothing value = Values (unwrap_or value 0) value false
with_value (Values first last ordered) value = Values first value (are_ordered last value)

abbrev pub number_of : Value → Option ℕ
number_of (Number n) = Some n
number_of value = None

-- the same after more values, of which these are the numbers
abbrev pub seen_after_all : Seen → List Value → Seen
seen_after_all seen [] = seen
seen_after_all seen (value ∷ values) = seen_after_all (with_value seen (number_of value)) values

abbrev pub seen_of : List Value → Seen
seen_of before = seen_after_all Nothing before

-- what reading a field returns: its number, what later fields need, and the bytes after it
abbrev pub seen_after : List Value → Result (List Value × List ℕ) Fault → Result (ℕ × Seen × List ℕ) Fault
seen_after before (Ok x) = Ok (number_in x.0, seen_of (before ++ x.0), x.1)
seen_after before (Err e) = Err e

-- the spans of fields, and what follows them or why one can't be read
abbrev pub Walked : Type 0
Walked = List Span × Result (List Value × List ℕ) Fault

abbrev pub after_field : ℕ → ℕ → ℕ → (ℕ → List Value → List ℕ → Walked) → Result (List Value × List ℕ) Fault → Walked
after_field index start total others (Err e) = ([], Err e)
after_field index start total others (Ok x) =
    let n = total - length x.1 in
    let w = others (start + n) x.0 x.1 in (span index start x.0 n ∷ w.0, w.1)

-- the fields in a row, the first with this index and at this offset
abbrev pub walk_at : ℕ → ℕ → List Field → List Value → List ℕ → Walked
walk_at index start [] before bytes = ([], Ok (before, bytes))
walk_at index start (field ∷ fields) before bytes = after_field index start (length bytes)
    (λ end values left. walk_at (index + 1) end fields (before ++ values) left) (field_at field before bytes)

abbrev pub fields_walk : ℕ → ℕ → List ℕ → Option Row → Walked
fields_walk type width bytes None = ([], Err InvalidFrameId)
fields_walk type width bytes (Some r) =
    let w = walk_at 1 width r.fields [] bytes in (span 0 0 (Number type ∷ []) width ∷ w.0, w.1)

abbrev pub type_walk : ℕ → Result (ℕ × List ℕ) Fault → Walked
type_walk total (Err e) = ([], Err e)
type_walk total (Ok x) = fields_walk x.0 (total - length x.1) x.1 (row_of x.0)

-- the frame at the front, its type first
abbrev pub frame_walk : List ℕ → Walked
frame_walk bytes = type_walk (length bytes) (varint_at bytes)

-- a room with these spans from an index on, as far as it reaches
abbrev pub stored : ℕ → List Span → List Span → List Span
stored index [] room = room
stored index (p ∷ ps) room = stored (index + 1) ps (slice_set room index p)

-- where the last of these spans ends
abbrev pub last_end : ℕ → List Span → ℕ
last_end start [] = start
last_end start (p ∷ ps) = last_end p.end ps

-- All fields were read; or this is why one can't be.
abbrev pub EndsAs : Option Fault → Result (List Value × List ℕ) Fault → Type 0
EndsAs None (Ok x) = ⊤
EndsAs None (Err e) = ⊥
EndsAs (Some reason) read = read ≡ Err reason

-- The frame at the front has these spans. They are in the room, as far as it reaches, and this is how many they are and
-- where the frame ends.
pub record HasSpans (payload : List ℕ) (old new : List Span) (count end : ℕ) : Type 0 where
  pub found : TypedFrame
  pub spans : List Span
  pub front : List ℕ
  pub back : List ℕ
  pub parts : payload ≡ front ++ back
  pub frame : IsFrameAt false found spans front
  pub opens : is_open found.type ≡ true → back ≡ []
  pub room : new ≡ stored 0 spans old
  pub all : count ≡ length spans
  pub stop : end ≡ length front

-- No frame begins the payload, for this reason. The spans of the fields before the one at fault are in the room, as far
-- as it reaches; this is how many they are, and so the index of the field at fault; and that field begins at this
-- offset.
pub record LacksSpans (payload : List ℕ) (old new : List Span) (count end : ℕ) (reason : Fault) : Type 0 where
  pub spans : List Span
  pub no_frame : IsNoFrameAt payload spans count reason
  pub room : new ≡ stored 0 spans old
  pub all : count ≡ length spans
  pub stop : AreInRow 0 spans end
