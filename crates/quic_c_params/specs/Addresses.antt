-- A preferred address by itself: RFC 9000, section 18.2.
use Rattle.std.specs.Prelude.{◌≡◌, ℕ, List, [], Some}
use Rattle.quic_base.specs.declared.ids.Side.TheVariants.{Client}
use Rattle.quic_params.specs.Range.{IsRecordInRange}
use Rattle.quic_params.specs.Record.{IsRecord}
use Rattle.quic_params.specs.Writing.{encoding}
use Rattle.quic_params.specs.declared.record.TransportParameters.{TransportParameters}
use Rattle.quic_params.specs.declared.value.PreferredAddress.{PreferredAddress}
use Rattle.quic_params.specs.declared.value.Value.TheVariants as V
use Rattle.quic_c_params.specs.declared.words.CParams.{CParams}
use Rattle.quic_c_params.specs.Lists.{BytesNeedMore, WroteBytes}
use Rattle.quic_c_params.specs.Shown.{params_words}
use Rattle.quic_c_params.specs.Written.{DescribesParams}

-- The struct is that of a record that has this address, and else the defaults.
pub record GivesAddress (address : PreferredAddress) (words : CParams) : Type 0 where
  pub default : TransportParameters
  pub is_default : IsRecord [] default
  pub words_are : words ≡ params_words (record default { preferred_address = Some address })

-- The struct describes a record that a client reads back, which has this address.
pub record DescribesAddress (words : CParams) (address : PreferredAddress) : Type 0 where
  pub params : TransportParameters
  pub described : DescribesParams words params
  pub in_range : IsRecordInRange Client params
  pub there : params.preferred_address ≡ Some address

-- The value of that address was written at the front, the bytes after it didn't change, and its length is given.
pub record WroteAddress (words : CParams) (old new : List ℕ) (count : ℕ) : Type 0 where
  pub address : PreferredAddress
  pub describes : DescribesAddress words address
  pub wrote : WroteBytes (encoding (V.Address address)) old new count

-- There is less room than that value needs, and how much that is was reported.
pub record AddressNeedsMore (words : CParams) (old : List ℕ) (needed : ℕ) : Type 0 where
  pub address : PreferredAddress
  pub describes : DescribesAddress words address
  pub needs_more : BytesNeedMore (encoding (V.Address address)) old needed
