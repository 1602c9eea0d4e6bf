-- The parameters that a struct describes, and the results of the call that writes them.
use Rattle.std.specs.Prelude.{◌≡◌, ℕ, ◌<◌, List, ◌++◌, length, drop, Ok, None, is_some}
use Rattle.quic_base.specs.declared.ids.Side.{Side}
use Rattle.quic_params.specs.Meaning.{IsReadAnswer}
use Rattle.quic_params.specs.Options.{as_quinn}
use Rattle.quic_params.specs.Range.{IsTypedRecord, IsRecordInRange}
use Rattle.quic_params.specs.Writing.{written}
use Rattle.quic_params.specs.declared.record.TransportParameters.{TransportParameters}
use Rattle.quic_c_params.specs.declared.words.CParams.{CParams}
use Rattle.quic_c_params.specs.declared.write.Flags.{Flags}
use Rattle.quic_c_params.specs.Answers.{IsSide}
use Rattle.quic_c_params.specs.Shown.{params_words, v4_in, v6_in}

-- The struct is that of the record, whose fields hold what their types do; it has neither grease nor an order of
-- writing.
pub record DescribesParams (words : CParams) (params : TransportParameters) : Type 0 where
  pub words_are : words ≡ params_words params
  pub typed : IsTypedRecord params
  pub no_grease : params.grease_transport_parameter ≡ None
  pub no_order : params.write_order ≡ None

-- The struct describes a record that the side reads back.
pub record CanWriteParams (side : ℕ) (words : CParams) (params : TransportParameters) : Type 0 where
  pub reader : Side
  pub is_side : IsSide side reader
  pub described : DescribesParams words params
  pub in_range : IsRecordInRange reader params
  pub read_back : IsReadAnswer as_quinn reader (written params) (Ok params)

-- The list of such a record was written at the front, the bytes after it didn't change, and its length is given.
pub record WroteParams (side : ℕ) (words : CParams) (old new : List ℕ) (count : ℕ) : Type 0 where
  pub params : TransportParameters
  pub can : CanWriteParams side words params
  pub count_is : count ≡ length (written params)
  pub front : new ≡ written params ++ drop count old

-- There is less room than such a list needs, and how much that is was reported.
pub record ParamsNeedMore (side : ℕ) (words : CParams) (old : List ℕ) (needed : ℕ) : Type 0 where
  pub params : TransportParameters
  pub can : CanWriteParams side words params
  pub count_is : needed ≡ length (written params)
  pub full : length old < needed

-- The struct describes no such record.
abbrev pub DescribesNoParams : ℕ → CParams → Type 0
DescribesNoParams side words = (params : TransportParameters) → CanWriteParams side words params → ⊥

-- the bits are those of what the record has
pub record HasFlags (flags : Flags) (params : TransportParameters) : Type 0 where
  pub token : flags.token ≡ is_some params.stateless_reset_token
  pub stays : flags.stays ≡ params.disable_active_migration
  pub datagram : flags.datagram ≡ is_some params.max_datagram_frame_size
  pub address : flags.address ≡ is_some params.preferred_address
  pub v4 : flags.v4 ≡ is_some (v4_in params.preferred_address)
  pub v6 : flags.v6 ≡ is_some (v6_in params.preferred_address)
  pub original : flags.original ≡ is_some params.original_dst_cid
  pub initial : flags.initial ≡ is_some params.initial_src_cid
  pub retry : flags.retry ≡ is_some params.retry_src_cid
  pub grease : flags.grease ≡ params.grease_quic_bit
  pub delay : flags.delay ≡ is_some params.min_ack_delay
