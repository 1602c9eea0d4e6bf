-- The field of a frame to be written whose value has no encoding (RFC 9000, sections 16 and 19).
use Rattle.std.specs.Prelude.{◌≡◌, ◌≢◌, ⊤, ℕ, ◌+◌, ◌<◌, ◌≤◌, ◌^◌, ◌%◌, ◌==◌, ◌&&◌, ◌⊎◌, List, [], ◌∷◌, ◌++◌, length, map, take, drop, slice_index_or, nat_lt, nat_le, Bool, true, false, Option, Some, None, if◌then◌else◌}
use Rattle.quic_frame_fields.specs.Field.{Value, Number, Bytes, Field, Varint, Counted, Id, Uint64, Bytes16, Blocks, Rest, Implied, Ordered, IsField, is_ordered}
use Rattle.quic_frame_fields.specs.Shortest.{written_type}
use Rattle.quic_frame_fields.specs.Table.{Name, Row, row_of}
use Rattle.quic_c_words.specs.declared.words.CFrame.{CFrame}
use Rattle.quic_c_words.specs.Slots.{Slot, Nth, Fin, Direction, Data, Token, slots_of, row_of_kind}
use Rattle.quic_c_write.specs.Shapes.{kept_numbers, shape_of, shows_data, token_room, IsSound}

-- a value, by the words of its frame, its data and its token
abbrev pub value_by : ℕ → ℕ → List ℕ → List ℕ → List ℕ → Slot → Value
value_by kind flags numbers content token (Nth i) = Number (slice_index_or numbers i 0)
value_by kind flags numbers content token Fin = Number flags
value_by kind flags numbers content token Direction = Number (kind % 2)
value_by kind flags numbers content token Data = Bytes content
value_by kind flags numbers content token Token = Bytes token

-- the bytes at the place of the data, as far as the payload has them
abbrev pub data_at : CFrame → List ℕ → List ℕ
data_at words bytes = take words.data_len (drop words.data_offset bytes)

-- the same of the token, which follows them
abbrev pub token_at : CFrame → List ℕ → List ℕ
token_at words bytes = take (token_room words.kind) (drop words.data_len (drop words.data_offset bytes))

abbrev pub value_in : CFrame → List ℕ → Slot → Value
value_in words bytes slot =
    value_by words.kind words.flags words.numbers (data_at words bytes) (token_at words bytes) slot

-- The payload has as many bytes of data as the words say.
abbrev pub IsThere : CFrame → List ℕ → Slot → Type 0
IsThere words bytes Data = length (data_at words bytes) ≡ words.data_len
IsThere words bytes slot = ⊤

-- The field, after fields with the values before, can have the value in this word: some bytes encode it.
abbrev pub CanHave : CFrame → List ℕ → Field → List Value → Slot → Type 0
CanHave words bytes field before slot =
    IsThere words bytes slot × ((front : List ℕ) × IsField field before (value_in words bytes slot ∷ []) front)

-- What is found is this index, if the field with it can't have its value; else what is found in the others.
abbrev pub FindsFirst : ℕ → Type 0 → Type 0 → Option ℕ → Type 0
FindsFirst index Has Others found = ((Has → ⊥) × (found ≡ Some index)) ⊎ (Has × Others)

-- The fields of a row, the first with the given index, and the words of their values; an Ordered has none. What is
-- found is the index of the first field that can't have its value, if there is one. Before has the values of the fields
-- in front of them.
abbrev pub FindsFault : CFrame → List ℕ → ℕ → List Field → List Slot → List Value → Option ℕ → Type 0
FindsFault words bytes index [] slots before found = found ≡ None
FindsFault words bytes index (Ordered ∷ fields) slots before found =
    FindsFirst index ((front : List ℕ) × IsField Ordered before [] front)
    (FindsFault words bytes (index + 1) fields slots before found) found
FindsFault words bytes index (field ∷ fields) [] before found = ⊥
FindsFault words bytes index (field ∷ fields) (slot ∷ slots) before found =
    FindsFirst index (CanHave words bytes field before slot)
    (FindsFault words bytes (index + 1) fields slots (before ++ (value_in words bytes slot ∷ [])) found) found

abbrev pub fields_or : Option Row → List Field
fields_or None = []
fields_or (Some r) = r.fields

-- the fields of a frame with this name and these values, as it is written, the last of its payload or not
abbrev pub fields_written : Bool → Name → List Value → List Field
fields_written last name values = fields_or (row_of (written_type last name values))

abbrev pub FindsFaultBy : CFrame → List ℕ → Bool → Option Row → Option ℕ → Type 0
FindsFaultBy words bytes last None found = found ≡ Some 0
FindsFaultBy words bytes last (Some r) found =
    FindsFault words bytes 1 (fields_written last r.name (map (value_in words bytes) (slots_of r.name)))
    (slots_of r.name) [] found

-- What is found is the index of the first field whose value in the words can't be written, or 0, the type's, of a kind
-- that can't: an unknown one or ACK.
abbrev pub IsWriteFault : CFrame → List ℕ → Bool → Option ℕ → Type 0
IsWriteFault words bytes last found = FindsFaultBy words bytes last (row_of_kind words.kind) found

-- The numbers and the length of data have nothing that the kind lacks.
pub record HasOnly (kind : ℕ) (numbers : List ℕ) (len : ℕ) : Type 0 where
  pub numbers_are : numbers ≡ kept_numbers (shape_of kind) numbers
  pub len_is : shows_data (shape_of kind) ≡ false → len ≡ 0

-- The words have nothing that their kind lacks: such numbers, the length of data and the flags are 0.
pub record FitsKind (words : CFrame) : Type 0 where
  pub only : HasOnly words.kind words.numbers words.data_len
  pub flags : words.kind ≢ 0x08 → words.flags ≡ 0

-- ---- No public clause cites what follows: the same, as functions.

-- whether the values can be those of a field
abbrev pub can_have : Field → List Value → List Value → Bool
can_have Varint before (Number n ∷ []) = nat_lt n (2 ^ 62)
can_have Counted before (Bytes bytes ∷ []) = nat_lt (length bytes) (2 ^ 62)
can_have Id before (Bytes bytes ∷ []) = nat_lt 0 (length bytes) && nat_le (length bytes) 20
can_have Uint64 before (Number n ∷ []) = nat_lt n (2 ^ 64)
can_have Bytes16 before (Bytes bytes ∷ []) = length bytes == 16
can_have Rest before (Bytes bytes ∷ []) = true
can_have (Implied n) before (Number m ∷ []) = m == n
can_have Ordered before [] = is_ordered before
can_have field before values = false

-- whether the payload has the bytes of a word, given whether it has the data
abbrev pub is_there : Bool → Slot → Bool
is_there whole Data = whole
is_there whole slot = true

abbrev pub first_fault : (Slot → Value) → Bool → ℕ → List Field → List Slot → List Value → Option ℕ
first_fault value whole index [] slots before = None
first_fault value whole index (Ordered ∷ fields) slots before =
    if can_have Ordered before [] then first_fault value whole (index + 1) fields slots before else Some index
first_fault value whole index (field ∷ fields) [] before = None
first_fault value whole index (field ∷ fields) (slot ∷ slots) before =
    if is_there whole slot && can_have field before (value slot ∷ [])
    then first_fault value whole (index + 1) fields slots (before ++ (value slot ∷ [])) else Some index

abbrev pub fault_in : (Slot → Value) → Bool → Bool → Option Row → Option ℕ
fault_in value whole last None = Some 0
fault_in value whole last (Some r) = first_fault value whole 1 (fields_written last r.name (map value (slots_of r.name)))
    (slots_of r.name) []

-- by the words, whether the payload has the data, the data and the token
abbrev pub fault_by : ℕ → ℕ → List ℕ → Bool → List ℕ → List ℕ → Bool → Option ℕ
fault_by kind flags numbers whole content token last =
    fault_in (value_by kind flags numbers content token) whole last (row_of_kind kind)

abbrev pub is_whole : CFrame → List ℕ → Bool
is_whole words bytes = length (data_at words bytes) == words.data_len

abbrev pub fault_at : CFrame → List ℕ → Bool → Option ℕ
fault_at words bytes last =
    fault_by words.kind words.flags words.numbers (is_whole words bytes) (data_at words bytes) (token_at words bytes) last

-- Each field of a row but an ACK's ranges has a word for its value.
abbrev pub fits : List Field → List Slot → Bool
fits [] slots = true
fits (Ordered ∷ fields) slots = fits fields slots
fits (Blocks ∷ fields) slots = false
fits (field ∷ fields) [] = false
fits (field ∷ fields) (slot ∷ slots) = fits fields slots

abbrev pub fits_in : (Slot → Value) → Bool → Option Row → Bool
fits_in value last None = true
fits_in value last (Some r) = fits (fields_written last r.name (map value (slots_of r.name))) (slots_of r.name)

abbrev pub fits_by : ℕ → ℕ → List ℕ → List ℕ → List ℕ → Bool → Bool
fits_by kind flags numbers content token last =
    fits_in (value_by kind flags numbers content token) last (row_of_kind kind)

-- A frame of the kind can have these numbers and this length, and the payload has its data and its token.
pub record IsSoundWith (kind flags : ℕ) (numbers : List ℕ) (len : ℕ) (whole token last : Bool) : Type 0 where
  pub sound : IsSound kind numbers len
  pub flagged : kind ≡ 0x08 → flags ≤ 1
  pub counted : last ≡ false → len < 2 ^ 62
  pub data_there : 0 < len → whole ≡ true
  pub token_there : kind ≡ 0x18 → token ≡ true
  pub known : shape_of kind ≡ None → ⊥
