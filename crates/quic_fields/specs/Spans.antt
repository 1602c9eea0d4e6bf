-- Where the fields of a frame are in its bytes (RFC 9000, sections 12.4 and 19).
use Rattle.std.specs.Prelude.{◌≡◌, ℕ, ◌+◌, ◌-◌, List, [], ◌∷◌, ◌++◌, length, Some, None, Bool, false, ◌⊎◌, ◌≤◌, ⊤}
use Rattle.quic_frame_fields.specs.declared.frame.fault.Fault.{Fault}
use Rattle.quic_frame_fields.specs.declared.frame.fault.Fault.TheVariants.{InvalidFrameId, UnexpectedEnd}
use Rattle.quic_frame_fields.specs.Field.{Value, Number, Bytes, Ranges, Field, IsField, Stops, NoNumber}
use Rattle.quic_frame_fields.specs.Table.{Row, row_of}
use Rattle.quic_frame_fields.specs.Payload.{TypedFrame, IsType, BeginsWithType}
use Rattle.quic_fields.specs.declared.field.Span.{Span}

-- the number of a field: its value; of bytes, how many; of ranges, how many are below the first
abbrev pub number_in : List Value → ℕ
number_in [] = 0
number_in (Number n ∷ values) = n
number_in (Bytes bytes ∷ values) = length bytes
number_in (Ranges ranges ∷ values) = length ranges - 1

-- the field with this index, which begins at an offset and has these values in n bytes
abbrev pub span : ℕ → ℕ → List Value → ℕ → Span
span index start values n = record { field = index; start = start; end = start + n; number = number_in values }

-- The bytes, which start at an offset, encode fields of these kinds, and these are their spans: each field begins
-- where the one before it ends. The first has the given index. Before has the values of the fields in front of them,
-- after also theirs.
abbrev pub AreFieldsAt : ℕ → ℕ → List Field → List Value → List Span → List Value → List ℕ → Type 0
AreFieldsAt index start [] before spans after bytes = (spans ≡ []) × (after ≡ before) × (bytes ≡ [])
AreFieldsAt index start (field ∷ fields) before spans after bytes =
    (values : List Value) × (front back : List ℕ) × (others : List Span) × (bytes ≡ front ++ back)
    × IsField field before values front
    × (spans ≡ span index start values (length front) ∷ others)
    × AreFieldsAt (index + 1) (start + length front) fields (before ++ values) others after back

-- The first fields are encoded, and these are their spans; the next one, which has this index, stops.
abbrev pub StopsWithinAt : ℕ → ℕ → List Field → List Value → List Span → List ℕ → ℕ → Fault → Type 0
StopsWithinAt index start [] before spans bytes at reason = ⊥
StopsWithinAt index start (field ∷ fields) before spans bytes at reason =
    (spans ≡ []) × (at ≡ index) × Stops field before bytes reason
    ⊎ ((values : List Value) × (front back : List ℕ) × (others : List Span) × (bytes ≡ front ++ back)
    × IsField field before values front
    × (spans ≡ span index start values (length front) ∷ others)
    × StopsWithinAt (index + 1) (start + length front) fields (before ++ values) others back at reason)

-- The bytes encode the frame, and these are the spans of its fields: the type, and then those of the type's row.
pub record IsFrameAt (strict : Bool) (found : TypedFrame) (spans : List Span) (bytes : List ℕ) : Type 0 where
  pub type_bytes : List ℕ
  pub field_bytes : List ℕ
  pub parts : bytes ≡ type_bytes ++ field_bytes
  pub type_encoded : IsType strict found.type type_bytes
  pub row : Row
  pub in_table : row_of found.type ≡ Some row
  pub name : found.frame.name ≡ row.name
  pub others : List Span
  pub all : spans ≡ span 0 0 (Number found.type ∷ []) (length type_bytes) ∷ others
  pub fields : AreFieldsAt 1 (length type_bytes) row.fields [] others found.frame.values field_bytes

-- No frame begins here, for this reason: the type can't be read, or no frame has it; or the field with this index in
-- the type's row can't be read, and these are the spans of those before it.
abbrev pub IsNoFrameAt : List ℕ → List Span → ℕ → Fault → Type 0
IsNoFrameAt bytes spans at reason =
    ((spans ≡ []) × (at ≡ 0) × NoNumber bytes × (reason ≡ UnexpectedEnd))
    ⊎ ((spans ≡ []) × (at ≡ 0) × ((t : ℕ) × BeginsWithType false bytes t (λ back. row_of t ≡ None))
    × (reason ≡ InvalidFrameId))
    ⊎ ((t : ℕ) × (front back : List ℕ) × (others : List Span) × (bytes ≡ front ++ back) × IsType false t front
    × ((r : Row) × (row_of t ≡ Some r) × (spans ≡ span 0 0 (Number t ∷ []) (length front) ∷ others)
    × StopsWithinAt 1 (length front) r.fields [] others back at reason))

-- Each span begins where the one before it ends: together they are all bytes from one offset to another.
abbrev pub AreInRow : ℕ → List Span → ℕ → Type 0
AreInRow start [] end = start ≡ end
AreInRow start (p ∷ ps) end = (p.start ≡ start) × (p.start ≤ p.end) × AreInRow p.end ps end

-- Their indices count from this one on.
abbrev pub AreNumbered : ℕ → List Span → Type 0
AreNumbered index [] = ⊤
AreNumbered index (p ∷ ps) = (p.field ≡ index) × AreNumbered (index + 1) ps
