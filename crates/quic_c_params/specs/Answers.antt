-- What the calls return.
use Rattle.std.specs.Prelude.{◌≡◌, ℕ, ◌/◌, ◌%◌, ◌-◌, ◌^◌, nat_eq, List, Option, Some, None, Ok, Err}
use Rattle.quic_base.specs.declared.ids.Side.{Side}
use Rattle.quic_base.specs.declared.ids.Side.TheVariants.{Client, Server}
use Rattle.quic_params.specs.Meaning.{IsReadAnswer}
use Rattle.quic_params.specs.Refusal.{IsPlacedAnswer}
use Rattle.quic_params.specs.declared.error.Error.{Error}
use Rattle.quic_params.specs.declared.error.Error.TheVariants.{IllegalValue, Malformed}
use Rattle.quic_params.specs.declared.error.Refusal.{Refusal}
use Rattle.quic_params.specs.declared.options.ReadOptions.{ReadOptions}
use Rattle.quic_params.specs.declared.record.TransportParameters.{TransportParameters}
use Rattle.quic_c_params.specs.declared.words.CParams.{CParams}
use Rattle.quic_c_params.specs.declared.words.CRefusal.{CRefusal}
use Rattle.quic_c_params.specs.Shown.{params_words}
use Rattle.quic_results.specs.declared.results.Failure.{Failure}
use Rattle.quic_results.specs.declared.results.Failure.TheVariants as failure

-- the number of a side
abbrev pub IsSide : ℕ → Side → Type 0
IsSide word Client = word ≡ 0
IsSide word Server = word ≡ 1

-- what is returned for an error
abbrev pub failure_of : Error → Failure
failure_of Malformed = failure.ParametersMalformed
failure_of IllegalValue = failure.ParametersIllegal

-- how a list is read: the bits 0x080 and 0x100
abbrev pub options_of : ℕ → ReadOptions
options_of flags = record { any_width = nat_eq (flags / 0x080 % 2) 1; no_repeats = nat_eq (flags / 0x100 % 2) 1 }

-- the number of a parameter, or 2^64 - 1 for none
abbrev pub number_word_of : Option ℕ → ℕ
number_word_of (Some number) = number
number_word_of None = 2 ^ 64 - 1

abbrev pub refusal_words : Refusal → CRefusal
refusal_words refusal = record { id = number_word_of refusal.id; offset = refusal.offset }

-- The side accepts the list, read in this way, and the struct of its record was returned.
pub record GivesParams (side flags : ℕ) (bytes : List ℕ) (new : CParams) : Type 0 where
  pub reader : Side
  pub is_side : IsSide side reader
  pub params : TransportParameters
  pub answer : IsReadAnswer (options_of flags) reader bytes (Ok params)
  pub words : new ≡ params_words params

-- The side rejects the list, read in this way, with this error there.
pub record RefusesList (side flags : ℕ) (bytes : List ℕ) (refusal : Refusal) : Type 0 where
  pub reader : Side
  pub is_side : IsSide side reader
  pub answer : IsReadAnswer (options_of flags) reader bytes (Err refusal.error)
  pub place : IsPlacedAnswer (options_of flags) reader bytes (Err refusal)
