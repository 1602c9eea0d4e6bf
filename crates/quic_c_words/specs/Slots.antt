-- Which words of a frame have its values: a column of the table of types (RFC 9000, section 19).
use Rattle.std.specs.Prelude.{ℕ, ◌==◌, ◌&&◌, ◌||◌, List, [], ◌∷◌, Bool, true, false, Option, filter, nat_lt, not, if◌then◌else◌}
use Rattle.std.specs.Map.{lookup}
use Rattle.quic_frame_fields.specs.Field.{Value, Number, Bytes}
use Rattle.quic_frame_fields.specs.Parts.{named_type}
use Rattle.quic_frame_fields.specs.Payload.{Meaning}
use Rattle.quic_frame_fields.specs.Table.{Name, Row, rows}
use Rattle.quic_frame_fields.specs.Table as names

-- One of the five numbers; the lowest bit of the flags; the lowest bit of the kind; the data; the token after them.
pub data Slot : Type 0 where
  Nth : ℕ → Slot
  Fin Direction Data Token : Slot

-- for each value of a frame the word that has it; an ACK has words of its own
abbrev pub slots_of : Name → List Slot
slots_of names.ResetStream = Nth 0 ∷ Nth 1 ∷ Nth 2 ∷ []
slots_of names.StopSending = Nth 0 ∷ Nth 1 ∷ []
slots_of names.Crypto = Nth 1 ∷ Data ∷ []
slots_of names.NewToken = Data ∷ []
slots_of names.Stream = Fin ∷ Nth 0 ∷ Nth 1 ∷ Data ∷ []
slots_of names.MaxData = Nth 1 ∷ []
slots_of names.MaxStreamData = Nth 0 ∷ Nth 1 ∷ []
slots_of names.MaxStreams = Direction ∷ Nth 1 ∷ []
slots_of names.DataBlocked = Nth 1 ∷ []
slots_of names.StreamDataBlocked = Nth 0 ∷ Nth 1 ∷ []
slots_of names.StreamsBlocked = Direction ∷ Nth 1 ∷ []
slots_of names.NewConnectionId = Nth 0 ∷ Nth 1 ∷ Data ∷ Token ∷ []
slots_of names.RetireConnectionId = Nth 0 ∷ []
slots_of names.PathChallenge = Nth 0 ∷ []
slots_of names.PathResponse = Nth 0 ∷ []
slots_of names.ConnectionClose = Nth 0 ∷ Nth 1 ∷ Data ∷ []
slots_of names.ApplicationClose = Nth 0 ∷ Data ∷ []
slots_of names.Datagram = Data ∷ []
slots_of names.AckFrequency = Nth 0 ∷ Nth 1 ∷ Nth 2 ∷ Nth 3 ∷ []
slots_of name = []

-- ---- kinds: types, of which all STREAMs share 0x08, all ACKs 0x02 and all DATAGRAMs 0x30

abbrev pub kind_by : Name → List Value → ℕ
kind_by names.Stream values = 0x08
kind_by name values = named_type name values

abbrev pub kind_of : Meaning → ℕ
kind_of frame = kind_by frame.name frame.values

-- the types of ACK, and those that aren't the kind of their frame
abbrev pub is_other : ℕ → Bool
is_other type = type == 0x02 || type == 0x03 || nat_lt 0x08 type && nat_lt type 0x10 || type == 0x31

-- the rows of all kinds but ACK
abbrev pub kinds : List (ℕ × Row)
kinds = filter (λ entry. not (is_other entry.0)) rows

abbrev pub row_of_kind : ℕ → Option Row
row_of_kind kind = lookup (λ u. kind == u) kinds

-- ---- words

-- the number in a word, 0 if no value is there
abbrev pub nth_in : ℕ → List Slot → List Value → ℕ
nth_in i (Nth j ∷ slots) (Number n ∷ values) = if i == j then n else nth_in i slots values
nth_in i (slot ∷ slots) (value ∷ values) = nth_in i slots values
nth_in i slots values = 0

abbrev pub numbers_in : List Slot → List Value → List ℕ
numbers_in slots values =
    nth_in 0 slots values ∷ nth_in 1 slots values ∷ nth_in 2 slots values ∷ nth_in 3 slots values ∷ nth_in 4 slots values ∷ []

abbrev pub data_in : List Slot → List Value → List ℕ
data_in (Data ∷ slots) (Bytes bytes ∷ values) = bytes
data_in (slot ∷ slots) (value ∷ values) = data_in slots values
data_in slots values = []

abbrev pub is_nth : ℕ → Slot → Bool
is_nth i (Nth j) = i == j
is_nth i slot = false

abbrev pub is_data : Slot → Bool
is_data Data = true
is_data slot = false
