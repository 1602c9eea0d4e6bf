-- The fields of frames: their kinds, and the bytes that encode each (RFC 9000, sections 16 and 19).
use Rattle.std.specs.Prelude.{◌≡◌, ⊤, ℕ, zero, suc, ◌+◌, ◌-◌, ◌≤◌, ◌<◌, List, [], ◌∷◌, ◌++◌, length, nat_lt, nat_le, ◌==◌, ◌||◌, Bool, true, false, if◌then◌else◌, ◌⊎◌}
use Rattle.quic_base.specs.Codec.{NoFront}
use Rattle.quic_base.specs.Number.{IsNumber}
use Rattle.quic_base.specs.Varint.{Encodes}
use Rattle.quic_frame_fields.specs.declared.frame.fault.Fault.{Fault}
use Rattle.quic_frame_fields.specs.declared.frame.fault.Fault.TheVariants.{UnexpectedEnd, Malformed}

pub data Value : Type 0 where
  Number : ℕ → Value
  Bytes : List ℕ → Value
  -- the ranges of an ACK, each by its least and its greatest number, the highest range first
  Ranges : List (ℕ × ℕ) → Value

pub data Field : Type 0 where
  -- a number of any width
  Varint : Field
  -- a number n of any width, and n bytes
  Counted : Field
  -- a byte n from 1 to 20, and n bytes
  Id : Field
  -- a number of eight bytes
  Uint64 : Field
  -- sixteen bytes
  Bytes16 : Field
  -- an ACK's count of further ranges, the first range, and for each further one its gap and its length (section 19.3);
  -- the first value before is the greatest number
  Blocks : Field
  -- all that is left
  Rest : Field
  -- no bytes: the number is given
  Implied : ℕ → Field
  -- no bytes and no value: the last two values before are numbers, the second of which is at most the first
  Ordered : Field

-- a field that takes all remaining bytes
abbrev pub is_rest : Field → Bool
is_rest Rest = true
is_rest _ = false

abbrev pub is_ordered : List Value → Bool
is_ordered (Number first ∷ Number second ∷ []) = nat_le second first
is_ordered (value ∷ values) = is_ordered values
is_ordered [] = false

-- Largest Acknowledged, the first of an ACK's values
abbrev pub greatest_of : List Value → ℕ
greatest_of (Number greatest ∷ values) = greatest
greatest_of _ = 0

-- Bytes that encode ranges below a range whose least number is low: for each, how many numbers are between it and the
-- range above, minus one, and how many numbers it has, minus one (RFC 9000, section 19.3.1).
abbrev pub AreBelow : ℕ → List (ℕ × ℕ) → List ℕ → Type 0
AreBelow low [] bytes = bytes ≡ []
AreBelow low (range ∷ ranges) bytes =
    (gap block others : List ℕ) × (bytes ≡ gap ++ (block ++ others)) × (range.0 ≤ range.1) × (range.1 + 2 ≤ low)
    × Encodes (low - (range.1 + 2)) gap × Encodes (range.1 - range.0) block × AreBelow range.0 ranges others

-- Bytes that encode ranges, of which the first ends at the greatest number: its length, then the ranges below it.
abbrev pub AreBlocks : ℕ → List (ℕ × ℕ) → List ℕ → Type 0
AreBlocks greatest [] bytes = ⊥
AreBlocks greatest (range ∷ ranges) bytes =
    (block others : List ℕ) × (bytes ≡ block ++ others) × (range.1 ≡ greatest) × (range.0 ≤ range.1)
    × Encodes (range.1 - range.0) block × AreBelow range.0 ranges others

-- Each range is below the one before it, and at least one number is between them.
abbrev pub AreApart : List (ℕ × ℕ) → Type 0
AreApart [] = ⊤
AreApart (range ∷ []) = range.0 ≤ range.1
AreApart (range ∷ below ∷ ranges) = (range.0 ≤ range.1) × (below.1 + 2 ≤ range.0) × AreApart (below ∷ ranges)

-- The bytes encode a field of this kind with these values, after fields with the values in before.
abbrev pub IsField : Field → List Value → List Value → List ℕ → Type 0
IsField Varint before values bytes = (n : ℕ) × (values ≡ Number n ∷ []) × Encodes n bytes
IsField Counted before values bytes = (front back : List ℕ) × (values ≡ Bytes back ∷ []) × Encodes (length back) front
    × (bytes ≡ front ++ back)
IsField Id before values bytes = (back : List ℕ) × (values ≡ Bytes back ∷ []) × (0 < length back) × (length back ≤ 20)
    × (bytes ≡ length back ∷ back)
IsField Uint64 before values bytes = (n : ℕ) × (values ≡ Number n ∷ []) × IsNumber 8 n bytes
IsField Bytes16 before values bytes = (values ≡ Bytes bytes ∷ []) × (length bytes ≡ 16)
IsField Blocks before values bytes =
    (front back : List ℕ) × (range : ℕ × ℕ) × (ranges : List (ℕ × ℕ)) × (values ≡ Ranges (range ∷ ranges) ∷ [])
    × (bytes ≡ front ++ back)
    × Encodes (length ranges) front × AreBlocks (greatest_of before) (range ∷ ranges) back
IsField Rest before values bytes = values ≡ Bytes bytes ∷ []
IsField (Implied n) before values bytes = (values ≡ Number n ∷ []) × (bytes ≡ [])
IsField Ordered before values bytes = (values ≡ []) × (bytes ≡ []) × (is_ordered before ≡ true)

-- no prefix of the bytes encodes a number
abbrev pub NoNumber : List ℕ → Type 0
NoNumber bytes = (n : ℕ) → NoFront (Encodes n) bytes

-- A number comes first, and P holds of it and the rest.
abbrev pub Begins : List ℕ → (ℕ → List ℕ → Type 0) → Type 0
Begins bytes P = (n : ℕ) × (front back : List ℕ) × (bytes ≡ front ++ back) × Encodes n front × P n back

-- Why reading stops at a number or after it: the number is cut off; or it is so large that a range would begin below 0;
-- or it is read, and reading stops at what follows.
abbrev pub NumberStops : List ℕ → Fault → (ℕ → Bool) → (ℕ → List ℕ → Type 0) → Type 0
NumberStops bytes reason is_large After =
    (NoNumber bytes × (reason ≡ UnexpectedEnd))
    ⊎ Begins bytes (λ n rest. (is_large n ≡ true) × (reason ≡ Malformed))
    ⊎ Begins bytes (λ n rest. (is_large n ≡ false) × After n rest)

-- why that many ranges below low can't be read
abbrev pub BelowStops : ℕ → ℕ → List ℕ → Fault → Type 0
BelowStops zero low bytes reason = ⊥
BelowStops (suc count) low bytes reason =
    NumberStops bytes reason (λ gap. nat_lt low (gap + 2)) (λ gap rest.
    NumberStops rest reason (λ block. nat_lt (low - (gap + 2)) block)
    (λ block others. BelowStops count (low - (gap + 2) - block) others reason))

-- the same, for a first block and that many ranges below it
abbrev pub RangesStop : ℕ → ℕ → List ℕ → Fault → Type 0
RangesStop count greatest bytes reason = NumberStops bytes reason (λ block. nat_lt greatest block)
    (λ block others. BelowStops count (greatest - block) others reason)

abbrev pub BlocksStop : ℕ → List ℕ → Fault → Type 0
BlocksStop greatest bytes reason = NumberStops bytes reason (λ count. false)
    (λ count rest. RangesStop count greatest rest reason)

-- why a field can't be read here
abbrev pub reason_of : Field → List ℕ → Fault
reason_of Ordered bytes = Malformed
reason_of Id [] = UnexpectedEnd
reason_of Id (n ∷ bytes) = if (n == 0) || nat_lt 20 n then Malformed else UnexpectedEnd
reason_of _ bytes = UnexpectedEnd

abbrev pub IsReason : Field → List Value → List ℕ → Fault → Type 0
IsReason Blocks before bytes reason = BlocksStop (greatest_of before) bytes reason
IsReason field before bytes reason = reason ≡ reason_of field bytes

-- No prefix of the bytes encodes such a field, and why.
pub record Stops (field : Field) (before : List Value) (bytes : List ℕ) (reason : Fault) : Type 0 where
  pub no_front : (values : List Value) (front back : List ℕ) → bytes ≡ front ++ back → IsField field before values front
      → ⊥
  pub why : IsReason field before bytes reason

-- The bytes encode fields of these kinds. Before has the values of the fields in front of them, after also theirs.
abbrev pub AreFields : List Field → List Value → List Value → List ℕ → Type 0
AreFields [] before after bytes = (after ≡ before) × (bytes ≡ [])
AreFields (field ∷ fields) before after bytes =
    (values : List Value) × (front back : List ℕ) × (bytes ≡ front ++ back) × IsField field before values front
    × AreFields fields (before ++ values) after back

-- The first fields are encoded, and the next one stops.
abbrev pub StopsWithin : List Field → List Value → List ℕ → Fault → Type 0
StopsWithin [] before bytes reason = ⊥
StopsWithin (field ∷ fields) before bytes reason =
    Stops field before bytes reason
    ⊎ ((values : List Value) × (front back : List ℕ) × (bytes ≡ front ++ back) × IsField field before values front
    × StopsWithin fields (before ++ values) back reason)
