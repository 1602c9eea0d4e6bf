-- Reading from left to right, as functions: what readers compute. The grammar is in `Field`, `Table` and `Payload`.
use Rattle.std.specs.Prelude.{◌≡◌, ℕ, zero, suc, ◌+◌, ◌-◌, List, [], ◌∷◌, ◌++◌, length, take, drop, Option, Some, None, Result, Ok, Err, Bool, nat_lt, ◌==◌, ◌||◌, ◌&&◌, not, if◌then◌else◌, codes}
use Rattle.quic_base.specs.Number.{num}
use Rattle.quic_base.specs.Varint.{size}
use Rattle.quic_base.specs.Reading.{◌>>=◌, number_at}
use Rattle.quic_frame_fields.specs.declared.frame.fault.Fault.{Fault}
use Rattle.quic_frame_fields.specs.declared.frame.fault.Fault.TheVariants.{UnexpectedEnd, InvalidFrameId, Malformed, LongType}
use Rattle.quic_frame_fields.specs.Field.{Value, Number, Bytes, Ranges, Field, Varint, Counted, Id, Uint64, Bytes16, Blocks, Rest, Implied, Ordered, is_ordered, greatest_of}
use Rattle.quic_frame_fields.specs.Table.{Row, row_of}
use Rattle.quic_frame_fields.specs.Payload.{Meaning, TypedFrame}

-- What a function returned, seen through view, is what reading returns.
abbrev pub Gives : {X Y : Type 0} → (X → Y) → Result X Fault → Result Y Fault → Type 0
Gives view (Ok x) read = read ≡ Ok (view x)
Gives view (Err e) read = read ≡ Err e

abbrev pub or_end : {A : Type 0} → Option A → Result A Fault
or_end None = Err UnexpectedEnd
or_end (Some x) = Ok x

unfoldable pub varint_at : List ℕ → Result (ℕ × List ℕ) Fault
varint_at bytes = or_end (number_at bytes)

unfoldable pub bytes_at : ℕ → List ℕ → Result (List ℕ × List ℕ) Fault
bytes_at n bytes = if nat_lt (length bytes) n then Err UnexpectedEnd else Ok (take n bytes, drop n bytes)

unfoldable pub counted_at : List ℕ → Result (List ℕ × List ℕ) Fault
counted_at bytes = do
  n ← varint_at bytes
  bytes_at n.0 n.1

unfoldable pub id_at : List ℕ → Result (List ℕ × List ℕ) Fault
id_at [] = Err UnexpectedEnd
id_at (n ∷ bytes) = if (n == 0) || nat_lt 20 n then Err Malformed else bytes_at n bytes

unfoldable pub eight_at : List ℕ → Result (ℕ × List ℕ) Fault
eight_at bytes = do
  n ← bytes_at 8 bytes
  Ok (num n.0, n.1)

-- a block of numbers up to the greatest: its least number
unfoldable pub block_at : ℕ → List ℕ → Result (ℕ × List ℕ) Fault
block_at greatest bytes = do
  n ← varint_at bytes
  if nat_lt greatest n.0 then Err Malformed else Ok (greatest - n.0, n.1)

-- the greatest number of the range after a gap
unfoldable pub gap_at : ℕ → List ℕ → Result (ℕ × List ℕ) Fault
gap_at low bytes = do
  n ← varint_at bytes
  if nat_lt low (n.0 + 2) then Err Malformed else Ok (low - (n.0 + 2), n.1)

-- what comes after that many ranges below low
unfoldable pub below_at : ℕ → ℕ → List ℕ → Result (List ℕ) Fault
below_at zero low bytes = Ok bytes
below_at (suc count) low bytes = do
  gap ← gap_at low bytes
  block ← block_at gap.0 gap.1
  below_at count block.0 block.1

unfoldable pub after_blocks : ℕ → ℕ → List ℕ → Result (List ℕ) Fault
after_blocks count greatest bytes = do
  block ← block_at greatest bytes
  below_at count block.0 block.1

unfoldable pub blocks_at : ℕ → List ℕ → Result (List ℕ × List ℕ) Fault
blocks_at greatest bytes = do
  count ← varint_at bytes
  left ← after_blocks count.0 greatest count.1
  Ok (take (length count.1 - length left) count.1, drop (length count.1 - length left) count.1)

-- the range at the front, below a range with the least number low
unfoldable pub range_at : ℕ → List ℕ → Result ((ℕ × ℕ) × List ℕ) Fault
range_at low bytes = do
  gap ← gap_at low bytes
  block ← block_at gap.0 gap.1
  Ok ((block.0, gap.0), block.1)

-- what follows a first range with this least number: the greatest number of the next range, and the blocks of that
-- range and of those below it; 0 if nothing follows
abbrev pub next_range_at : ℕ → List ℕ → Result (ℕ × ℕ × List ℕ) Fault
next_range_at least [] = Ok (least, 0, [])
next_range_at least (b ∷ bytes) = gap_at least (b ∷ bytes) >>= λ gap. Ok (least, gap.0, gap.1)

-- the first range of blocks by its least number, and what follows it
unfoldable pub first_range_at : ℕ → List ℕ → Result (ℕ × ℕ × List ℕ) Fault
first_range_at greatest bytes = do
  block ← block_at greatest bytes
  next_range_at block.0 block.1

abbrev pub range_and : (ℕ → List ℕ → List (ℕ × ℕ)) → Result ((ℕ × ℕ) × List ℕ) Fault → List (ℕ × ℕ)
range_and others (Ok x) = x.0 ∷ others x.0.0 x.1
range_and others (Err e) = []

-- the ranges below low, at most n
unfoldable pub ranges_below : ℕ → ℕ → List ℕ → List (ℕ × ℕ)
ranges_below zero low bytes = []
ranges_below (suc n) low [] = []
ranges_below (suc n) low (b ∷ bytes) = range_and (ranges_below n) (range_at low (b ∷ bytes))

abbrev pub first_and : ℕ → Result (ℕ × List ℕ) Fault → List (ℕ × ℕ)
first_and greatest (Ok x) = (x.0, greatest) ∷ ranges_below (length x.1) x.0 x.1
first_and greatest (Err e) = []

-- the ranges that the blocks of an ACK with this greatest number encode
unfoldable pub ranges_of : ℕ → List ℕ → List (ℕ × ℕ)
ranges_of greatest bytes = first_and greatest (block_at greatest bytes)

-- The bytes are the blocks of an ACK with this greatest number, and nothing else.
abbrev pub IsBlocks : ℕ → List ℕ → Type 0
IsBlocks greatest bytes = after_blocks (length (ranges_of greatest bytes) - 1) greatest bytes ≡ Ok []

-- The same of bytes that may not be blocks: what is left of them.
abbrev pub blocks_left : ℕ → List ℕ → Result (List ℕ) Fault
blocks_left greatest [] = Ok []
blocks_left greatest (b ∷ bytes) = after_blocks (length (ranges_of greatest (b ∷ bytes)) - 1) greatest (b ∷ bytes)

abbrev pub of_ranges : ℕ → List ℕ × List ℕ → Result (List Value × List ℕ) Fault
of_ranges greatest x = Ok (Ranges (ranges_of greatest x.0) ∷ [], x.1)

abbrev pub of_number : ℕ × List ℕ → Result (List Value × List ℕ) Fault
of_number x = Ok (Number x.0 ∷ [], x.1)

abbrev pub of_bytes : List ℕ × List ℕ → Result (List Value × List ℕ) Fault
of_bytes x = Ok (Bytes x.0 ∷ [], x.1)

-- one field, and the bytes after it
abbrev pub field_at : Field → List Value → List ℕ → Result (List Value × List ℕ) Fault
field_at Varint before bytes = varint_at bytes >>= of_number
field_at Counted before bytes = counted_at bytes >>= of_bytes
field_at Id before bytes = id_at bytes >>= of_bytes
field_at Uint64 before bytes = eight_at bytes >>= of_number
field_at Bytes16 before bytes = bytes_at 16 bytes >>= of_bytes
field_at Blocks before bytes = blocks_at (greatest_of before) bytes >>= of_ranges (greatest_of before)
field_at Rest before bytes = Ok (Bytes bytes ∷ [], [])
field_at (Implied n) before bytes = Ok (Number n ∷ [], bytes)
field_at Ordered before bytes = if is_ordered before then Ok ([], bytes) else Err Malformed

-- the fields in a row
abbrev pub fields_at : List Field → List Value → List ℕ → Result (List Value × List ℕ) Fault
fields_at [] before bytes = Ok (before, bytes)
fields_at (field ∷ fields) before bytes = field_at field before bytes >>= λ x. fields_at fields (before ++ x.0) x.1

unfoldable pub row_at : Row → List ℕ → Result (Meaning × List ℕ) Fault
row_at r bytes = fields_at r.fields [] bytes >>= λ x. Ok (record { name = r.name; values = x.0 }, x.1)

abbrev pub in_row : Option Row → List ℕ → Result (Meaning × List ℕ) Fault
in_row None bytes = Err InvalidFrameId
in_row (Some r) bytes = row_at r bytes

-- what follows a type
unfoldable pub frame_at : ℕ → List ℕ → Result (Meaning × List ℕ) Fault
frame_at t bytes = in_row (row_of t) bytes

-- why bytes can't be read: the type and the reason
pub record Invalid : Type 0 where
  pub type : Option ℕ
  pub reason : List ℕ

abbrev pub reason_text : Fault → List ℕ
reason_text UnexpectedEnd = codes "unexpected end"
reason_text InvalidFrameId = codes "invalid frame ID"
reason_text Malformed = codes "malformed"
reason_text LongType = codes "frame type not in shortest form"

abbrev pub invalid : Option ℕ → Fault → Invalid
invalid type reason = record { type = type; reason = reason_text reason }

abbrev pub after_type : ℕ → Result (Meaning × List ℕ) Fault → Result (TypedFrame × List ℕ) Invalid
after_type t (Ok x) = Ok (record { type = t; frame = x.0 }, x.1)
after_type t (Err e) = Err (invalid (Some t) e)

-- a type of that many bytes isn't in its shortest encoding, if it must be
abbrev pub is_long_type : Bool → ℕ → ℕ → Bool
is_long_type strict t width = strict && not (width == size t)

abbrev pub at_type : Bool → Option ℕ → ℕ → Result (ℕ × List ℕ) Fault → Result (TypedFrame × List ℕ) Invalid
at_type strict before total (Ok x) = if is_long_type strict x.0 (total - length x.1)
    then Err (invalid (Some x.0) LongType) else after_type x.0 (frame_at x.0 x.1)
at_type strict before total (Err e) = Err (invalid before e)

-- the frame at the front, given the last type before it
unfoldable pub found_at : Bool → Option ℕ → List ℕ → Result (TypedFrame × List ℕ) Invalid
found_at strict before bytes = at_type strict before (length bytes) (varint_at bytes)

-- an item of a payload: a frame from one offset to another, or the error
pub data Item : Type 0 where
  Whole : (start stop : ℕ) → TypedFrame → Item
  Broken : Invalid → Item

abbrev pub items_after : (ℕ → Option ℕ → List ℕ → List Item) → ℕ → ℕ → Result (TypedFrame × List ℕ) Invalid → List Item
items_after others start total (Err e) = Broken e ∷ []
items_after others start total (Ok x) =
    let stop = start + (total - length x.1) in Whole start stop x.0 ∷ others stop (Some x.0.type) x.1

-- the items of bytes that begin at an offset, at most n, up to one that can't be read
unfoldable pub items_from : Bool → ℕ → ℕ → Option ℕ → List ℕ → List Item
items_from strict zero start before bytes = []
items_from strict (suc n) start before [] = []
items_from strict (suc n) start before (b ∷ bs) = items_after (items_from strict n) start (length (b ∷ bs))
    (found_at strict before (b ∷ bs))

-- all items of bytes that begin at an offset, given the last type before them
unfoldable pub items_of : Bool → ℕ → Option ℕ → List ℕ → List Item
items_of strict start before bytes = items_from strict (length bytes) start before bytes
