-- Lists of parameters by their entries, and with entries that no record has: RFC 9000, sections 7.4 and 18.
use Rattle.std.specs.Prelude.{◌≡◌, ℕ, zero, suc, ◌+◌, ◌<◌, ◌^◌, ◌⊎◌, List, [], ◌∷◌, ◌++◌, length, get_or, map, reverse, Contains}
use Rattle.std.specs.List.{flat_map}
use Rattle.quic_base.specs.Codec.{Follows}
use Rattle.quic_params.specs.declared.parameter.TransportParameterId.{TransportParameterId}
use Rattle.quic_params.specs.declared.record.TransportParameters.{TransportParameters}
use Rattle.quic_params.specs.Table.{ids, parameter_count}
use Rattle.quic_params.specs.Entry.{Entry, Given, IsEntry, IsKnownParameter, Give}
use Rattle.quic_params.specs.Options.{as_quinn}
use Rattle.quic_params.specs.Record.{IsRecord}
use Rattle.quic_params.specs.Writing.{shortest_entry, written_for}

-- the bytes are these entries in their order
abbrev pub AreInOrder : List Entry → List ℕ → Type 0
AreInOrder [] bytes = bytes ≡ []
AreInOrder (first ∷ others) bytes = Follows (IsEntry first.number first.bytes) (AreInOrder others) bytes

-- the record has the values of the entries, each accepted after those before it
pub record IsRecordOf (entries : List Entry) (params : TransportParameters) : Type 0 where
  pub given : List Given
  pub gives : Give as_quinn (reverse entries) given
  pub is_record : IsRecord given params

-- an entry that can be written and that no record has
pub record IsOther (entry : Entry) : Type 0 where
  pub numeric : entry.number < 2 ^ 62
  pub short : length entry.bytes < 2 ^ 62
  pub unknown : (id : TransportParameterId) → ¬ (IsKnownParameter id entry.number)

-- an entry of this number is among these
abbrev pub HasEntryNumber : ℕ → List Entry → Type 0
HasEntryNumber number [] = ⊥
HasEntryNumber number (first ∷ others) = (first.number ≡ number) ⊎ HasEntryNumber number others

-- entries that no record has, and none of them twice
abbrev pub AreOthers : List Entry → Type 0
AreOthers [] = Unit {0}
AreOthers (first ∷ others) = IsOther first × ¬ (HasEntryNumber first.number others) × AreOthers others

-- what is written for each row of the table, and then further entries in their least widths
abbrev pub encoded_entries : TransportParameters → List Entry → List (List ℕ)
encoded_entries params further = map (written_for params) ids
    ++ map (λ entry. shortest_entry entry.number entry.bytes) further

-- so many numbers, and each index below their count among them
pub record IsOrderOf (count : ℕ) (order : List ℕ) : Type 0 where
  pub width : length order ≡ count
  pub each : (index : ℕ) → index < count → Contains order index

-- so many numbers, each one more than that before it
abbrev pub upward : ℕ → ℕ → List ℕ
upward from zero = []
upward from (suc count) = from ∷ upward (suc from) count

-- the order that is asked for, or that of the indices if none is
abbrev pub asked : ℕ → List ℕ → List ℕ
asked count [] = upward 0 count
asked count (first ∷ others) = first ∷ others

-- the list of a record with further entries, in this order
abbrev pub listed_in : TransportParameters → List Entry → List ℕ → List ℕ
listed_in params further order = flat_map (λ index. get_or (encoded_entries params further) index []) order

-- the same in an order that may be left open
abbrev pub listed : TransportParameters → List Entry → List ℕ → List ℕ
listed params further order = listed_in params further (asked (parameter_count + length further) order)
