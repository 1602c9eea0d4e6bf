-- Lists of parameters by their entries, and with further ones: RFC 9000, section 18.
use Rattle.std.specs.Prelude.{◌≡◌, ℕ, ◌+◌, ◌<◌, ◌≤◌, ◌^◌, ◌⊎◌, List, [], ◌++◌, length, take, drop, Result, Ok, IfOk, IfErr, OnErr}
use Rattle.quic_base.specs.Codec.{Takes}
use Rattle.quic_base.specs.Varint.{Encodes}
use Rattle.quic_params.specs.declared.parameter.TransportParameterId.{TransportParameterId}
use Rattle.quic_params.specs.declared.record.TransportParameters.{TransportParameters}
use Rattle.quic_params.specs.Entry.{Entry, IsCutEntry, IsEntry, IsKnownParameter}
use Rattle.quic_params.specs.Further.{AreInOrder, AreOthers, IsOrderOf, asked, listed}
use Rattle.quic_params.specs.Meaning.{IsReadAnswer}
use Rattle.quic_params.specs.Options.{as_quinn}
use Rattle.quic_params.specs.Table.{parameter_count}
use Rattle.quic_c_params.specs.declared.words.CParam.{CParam}
use Rattle.quic_c_params.specs.declared.words.CParams.{CParams}
use Rattle.quic_c_params.specs.Written.{CanWriteParams}

-- 1 if a record has the parameter of this number, and 0 if it doesn't
abbrev pub TellsKnown : ℕ → ℕ → Type 0
TellsKnown known number = ((known ≡ 1) × (id : TransportParameterId) × IsKnownParameter id number) ⊎ (known ≡ 0)
    × ((id : TransportParameterId) → ¬ (IsKnownParameter id number))

-- The struct describes the entry at the front of a list: its number, and the byte range of its value, after which the
-- next entry begins.
pub record GivesParameter (list : List ℕ) (words : CParam) : Type 0 where
  pub entry : Takes (IsEntry words.id (take words.value_len (drop words.value list))) list
      (drop (words.value + words.value_len) list)
  pub within : words.value + words.value_len ≤ length list

-- The struct describes that entry, whose value is this number in some width.
pub record GivesNumber (list : List ℕ) (words : CParam) (number : ℕ) : Type 0 where
  pub entry : GivesParameter list words
  pub value : Encodes number (take words.value_len (drop words.value list))

-- No entry is whole at the front, or the value of the one that is there is no number.
abbrev pub HasNoNumber : List ℕ → Type 0
HasNoNumber list = IsCutEntry list ⊎ ((words : CParam) × GivesParameter list words
    × ((number : ℕ) → ¬ (Encodes number (take words.value_len (drop words.value list)))))

-- The bytes were written at the front, those after them didn't change, and their count is given; or there is less room
-- than that, how much they need is reported, and nothing changed.
pub record StoresBytes (result : Result ℕ ℕ) (bytes old new : List ℕ) : Type 0 where
  pub count : IfOk result (λ n. n ≡ length bytes)
  pub front : IfOk result (λ n. new ≡ bytes ++ drop n old)
  pub needed : IfErr result (λ n. n ≡ length bytes)
  pub full : OnErr result (length old < length bytes)
  pub same : OnErr result (new ≡ old)

-- The bytes were written at the front, those after them didn't change, and their count is given.
pub record WroteBytes (bytes old new : List ℕ) (count : ℕ) : Type 0 where
  pub count_is : count ≡ length bytes
  pub front : new ≡ bytes ++ drop count old

-- There is less room than bytes need, and how much that is was reported.
pub record BytesNeedMore (bytes old : List ℕ) (needed : ℕ) : Type 0 where
  pub count_is : needed ≡ length bytes
  pub full : length old < needed

-- what no index leads to
abbrev pub any_entry : Entry
any_entry = record { number = 0; bytes = [] }

-- These are the entries of a list, all of which may be written among those of a record, and so few that a byte counts
-- them together with the record's.
pub record IsFurther (entries : List Entry) (list : List ℕ) : Type 0 where
  pub encoded : AreInOrder entries list
  pub others : AreOthers entries
  pub few : parameter_count + length entries ≤ 256
  pub short : length list < 2 ^ 40

-- The struct describes a record that the side reads back, the list has further entries, and the order is one of all of
-- them, or empty.
pub record CanList (side : ℕ) (words : CParams) (further order : List ℕ) (params : TransportParameters)
    (entries : List Entry) : Type 0 where
  pub record_is : CanWriteParams side words params
  pub further_are : IsFurther entries further
  pub order_is : IsOrderOf (parameter_count + length entries) (asked (parameter_count + length entries) order)

-- The list of a record with further entries was written at the front, and the side reads that record from it.
pub record WroteList (side : ℕ) (words : CParams) (further order old new : List ℕ) (count : ℕ) : Type 0 where
  pub params : TransportParameters
  pub entries : List Entry
  pub can : CanList side words further order params entries
  pub wrote : WroteBytes (listed params entries order) old new count
  pub read_back : IsReadAnswer as_quinn can.record_is.reader (listed params entries order) (Ok params)

-- There is less room than that list needs, and how much that is was reported.
pub record ListNeedsMore (side : ℕ) (words : CParams) (further order old : List ℕ) (needed : ℕ) : Type 0 where
  pub params : TransportParameters
  pub entries : List Entry
  pub can : CanList side words further order params entries
  pub needs_more : BytesNeedMore (listed params entries order) old needed

-- There is no such list.
abbrev pub DescribesNoList : ℕ → CParams → List ℕ → List ℕ → Type 0
DescribesNoList side words further order = (params : TransportParameters) (entries : List Entry)
    → CanList side words further order params entries → ⊥
