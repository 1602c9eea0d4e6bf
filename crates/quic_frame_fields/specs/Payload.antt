-- What a payload means (RFC 9000, section 12.4). The first argument of the relations says whether a type must be in its
-- shortest encoding.
use Rattle.std.specs.Prelude.{◌≡◌, ◌≢◌, ℕ, ◌+◌, List, [], ◌∷◌, ◌++◌, length, Option, Some, None, Bool, true, false, ◌⊎◌}
use Rattle.quic_base.specs.Varint.{Encodes, shortest_varint}
use Rattle.quic_frame_fields.specs.declared.frame.fault.Fault.{Fault}
use Rattle.quic_frame_fields.specs.declared.frame.fault.Fault.TheVariants.{UnexpectedEnd, InvalidFrameId, LongType}
use Rattle.quic_frame_fields.specs.Field.{Value, AreFields, StopsWithin, NoNumber}
use Rattle.quic_frame_fields.specs.Table.{Name, Row, row_of, is_open}

-- A frame: its name, and its values in the order of its row. What the type implies (FIN, the direction) comes first.
pub record Meaning : Type 0 where
  pub name : Name
  pub values : List Value

-- a frame in a payload, with the type that it has there
pub record TypedFrame : Type 0 where
  pub type : ℕ
  pub frame : Meaning

-- The bytes encode a type; if strict, in its shortest encoding.
pub record IsType (strict : Bool) (t : ℕ) (bytes : List ℕ) : Type 0 where
  pub encoded : Encodes t bytes
  pub shortest : strict ≡ true → bytes ≡ shortest_varint t

-- The bytes encode the frame: its type, and then each field of the type's row.
pub record IsFrame (strict : Bool) (found : TypedFrame) (bytes : List ℕ) : Type 0 where
  pub type_bytes : List ℕ
  pub field_bytes : List ℕ
  pub parts : bytes ≡ type_bytes ++ field_bytes
  pub type_encoded : IsType strict found.type type_bytes
  pub row : Row
  pub in_table : row_of found.type ≡ Some row
  pub name : found.frame.name ≡ row.name
  pub fields : AreFields row.fields [] found.frame.values field_bytes

-- The bytes are these frames, and only the last may be open.
abbrev pub AreFrames : Bool → List TypedFrame → List ℕ → Type 0
AreFrames strict [] bytes = bytes ≡ []
AreFrames strict (found ∷ others) bytes =
    (front back : List ℕ) × (bytes ≡ front ++ back) × IsFrame strict found front
    × (is_open found.type ≡ true → back ≡ []) × AreFrames strict others back

-- the last type, if there is one
abbrev pub last_type : Option ℕ → List TypedFrame → Option ℕ
last_type before [] = before
last_type before (found ∷ others) = last_type (Some found.type) others

abbrev pub AreClosed : List TypedFrame → Type 0
AreClosed [] = Unit {0}
AreClosed (found ∷ others) = (is_open found.type ≡ false) × AreClosed others

-- A type comes first, and P holds of the rest.
pub record BeginsWithType (strict : Bool) (bytes : List ℕ) (t : ℕ) (P : List ℕ → Type 0) : Type 0 where
  pub front : List ℕ
  pub back : List ℕ
  pub parts : bytes ≡ front ++ back
  pub encoded : IsType strict t front
  pub then : P back

-- A type comes first, and it isn't in its shortest encoding although it must be.
pub record HasLongType (strict : Bool) (bytes : List ℕ) (t : ℕ) : Type 0 where
  pub counts : strict ≡ true
  pub front : List ℕ
  pub back : List ℕ
  pub parts : bytes ≡ front ++ back
  pub encoded : Encodes t front
  pub long : front ≢ shortest_varint t

-- Why no frame begins here, and the type that is reported: no type can be read, and the one before is reported; or the
-- type must be in its shortest encoding and isn't; or it has no row; or a field of its row can't be read.
abbrev pub IsNoFrame : Bool → Option ℕ → List ℕ → Option ℕ → Fault → Type 0
IsNoFrame strict before bytes type reason =
    ((bytes ≢ []) × NoNumber bytes × (type ≡ before) × (reason ≡ UnexpectedEnd))
    ⊎ ((t : ℕ) × HasLongType strict bytes t × (type ≡ Some t) × (reason ≡ LongType))
    ⊎ ((t : ℕ) × BeginsWithType strict bytes t (λ back. row_of t ≡ None) × (type ≡ Some t) × (reason ≡ InvalidFrameId))
    ⊎ ((t : ℕ) × BeginsWithType strict bytes t
    (λ back. (r : Row) × (row_of t ≡ Some r) × StopsWithin r.fields [] back reason) × (type ≡ Some t))

-- The bytes are these frames, followed by an invalid one.
pub record IsBroken (strict : Bool) (before : Option ℕ) (found : List TypedFrame) (bytes : List ℕ) (type : Option ℕ)
    (reason : Fault) : Type 0 where
  pub front : List ℕ
  pub back : List ℕ
  pub parts : bytes ≡ front ++ back
  pub frames : AreFrames strict found front
  pub closed : AreClosed found
  pub no_frame : IsNoFrame strict (last_type before found) back type reason

-- What a payload is read as: frames to its end; or frames and then an error, with its type and its reason.
pub data Reading : Type 0 where
  Complete : List TypedFrame → Reading
  FailsAfter : List TypedFrame → Option ℕ → Fault → Reading

-- This is the reading of the bytes, after a frame of the given type.
abbrev pub IsReadingAfter : Bool → Option ℕ → List ℕ → Reading → Type 0
IsReadingAfter strict before bytes (Complete found) = AreFrames strict found bytes
IsReadingAfter strict before bytes (FailsAfter found type reason) = IsBroken strict before found bytes type reason

-- This is the reading of a payload.
abbrev pub IsReadingOf : Bool → List ℕ → Reading → Type 0
IsReadingOf strict bytes reading = IsReadingAfter strict None bytes reading

-- these frames, and then this reading
abbrev pub followed_by : List TypedFrame → Reading → Reading
followed_by found (Complete others) = Complete (found ++ others)
followed_by found (FailsAfter others type reason) = FailsAfter (found ++ others) type reason

-- how many items a reading has: its frames, and its error if there is one
abbrev pub item_count : Reading → ℕ
item_count (Complete found) = length found
item_count (FailsAfter found type reason) = length found + 1
