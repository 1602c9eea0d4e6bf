-- At which entry a list is rejected.
use Rattle.std.specs.Prelude.{◌≡◌, ℕ, ◌⊎◌, Bool, cond, List, [], ◌∷◌, ◌++◌, length, Option, Some, None, Result, Ok, Err}
use Rattle.quic_base.specs.Codec.{Takes, NoFront}
use Rattle.quic_base.specs.Varint.{Encodes}
use Rattle.quic_base.specs.declared.ids.Side.{Side}
use Rattle.quic_params.specs.declared.error.Error.{Error}
use Rattle.quic_params.specs.declared.error.Error.TheVariants.{IllegalValue}
use Rattle.quic_params.specs.declared.error.Refusal.{Refusal}
use Rattle.quic_params.specs.declared.options.ReadOptions.{ReadOptions}
use Rattle.quic_params.specs.declared.parameter.TransportParameterId.{TransportParameterId}
use Rattle.quic_params.specs.declared.record.TransportParameters.{TransportParameters}
use Rattle.quic_params.specs.Table.{row_of}
use Rattle.quic_params.specs.Entry.{Entry, IsBadList}
use Rattle.quic_params.specs.Further.{AreInOrder, HasEntryNumber}
use Rattle.quic_params.specs.Meaning.{IsMeant, IsValid}
use Rattle.quic_params.specs.Answer.{rules}

-- an entry is rejected or cut off, from which on so many bytes are left
pub record IsRefusedFrom (options : ReadOptions) (bytes : List ℕ) (error : Error) (left : ℕ) : Type 0 where
  pub bad : IsBadList options bytes error
  pub left_is : left ≡ length bad.parts.back

-- the number that bytes begin with, if they begin with a whole one
abbrev pub IsNumberAt : List ℕ → Option ℕ → Type 0
IsNumberAt bytes None = (number : ℕ) → NoFront (Encodes number) bytes
IsNumberAt bytes (Some number) = (rest : List ℕ) × Takes (Encodes number) bytes rest

-- an entry is rejected or cut off: how many bytes are before it, and its number, if that is whole
pub record IsRefusedEntry (options : ReadOptions) (bytes : List ℕ) (refusal : Refusal) : Type 0 where
  pub bad : IsBadList options bytes refusal.error
  pub offset_is : refusal.offset ≡ length bad.parts.front
  pub number_is : IsNumberAt bad.parts.back refusal.id

-- the parameter of the first rule that isn't kept
abbrev pub first_broken : List (TransportParameterId × Bool) → Option TransportParameterId
first_broken [] = None
first_broken ((id, kept) ∷ others) = cond kept (first_broken others) (Some id)

-- the last entry of a number begins after so many bytes
pub record IsLastEntry (number : ℕ) (offset : ℕ) (bytes : List ℕ) : Type 0 where
  pub before : List Entry
  pub entry : Entry
  pub after : List Entry
  pub front : List ℕ
  pub rest : List ℕ
  pub whole : bytes ≡ front ++ rest
  pub offset_is : offset ≡ length front
  pub begins : AreInOrder before front
  pub ends : AreInOrder (entry ∷ after) rest
  pub number_is : entry.number ≡ number
  pub last : ¬ (HasEntryNumber number after)

-- The side doesn't accept the record: the parameter of the first rule that it breaks, and the offset of its entry.
pub record IsRefusedRecord (options : ReadOptions) (side : Side) (bytes : List ℕ) (refusal : Refusal) : Type 0 where
  pub params : TransportParameters
  pub meant : IsMeant options params bytes
  pub id : TransportParameterId
  pub broken : first_broken (rules side params) ≡ Some id
  pub error_is : refusal.error ≡ IllegalValue
  pub number_is : refusal.id ≡ Some (row_of id).number
  pub entry : IsLastEntry (row_of id).number refusal.offset bytes

-- a valid record, or what is rejected, with its offset
abbrev pub IsPlacedAnswer : ReadOptions → Side → List ℕ → Result TransportParameters Refusal → Type 0
IsPlacedAnswer options side bytes (Ok params) = IsMeant options params bytes × IsValid side params
IsPlacedAnswer options side bytes (Err refusal) = IsRefusedEntry options bytes refusal
    ⊎ IsRefusedRecord options side bytes refusal
