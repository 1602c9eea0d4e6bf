-- What the program prints of a list of transport parameters.
use Rattle.std.specs.Prelude.{ℕ, List, [], ◌∷◌, ◌++◌, codes, Option, Some, None, Result, Ok, Err}
use Rattle.std.specs.List.{flat_map}
use Rattle.std.specs.Fmt.{decimal}
use Rattle.hex.specs.Hex.{encode_lower}
use Rattle.quic_base.specs.declared.ids.Side.{Side}
use Rattle.quic_params.specs.Answer.{answer_at}
use Rattle.quic_params.specs.Options.{as_quinn}
use Rattle.quic_params.specs.Errors.{error_text_of}
use Rattle.quic_params.specs.Table.{ids}
use Rattle.quic_params.specs.Writing.{encoding, value_written}
use Rattle.quic_params.specs.declared.error.Error as params
use Rattle.quic_params.specs.declared.parameter.TransportParameterId.{TransportParameterId}
use Rattle.quic_params.specs.declared.parameter.TransportParameterId.TheVariants.{
  MaxIdleTimeout,
  MaxUdpPayloadSize,
  InitialMaxData,
  InitialMaxStreamDataBidiLocal,
  InitialMaxStreamDataBidiRemote,
  InitialMaxStreamDataUni,
  InitialMaxStreamsBidi,
  InitialMaxStreamsUni,
  AckDelayExponent,
  MaxAckDelay,
  ActiveConnectionIdLimit,
  ReservedTransportParameter,
  StatelessResetToken,
  DisableActiveMigration,
  MaxDatagramFrameSize,
  PreferredAddress,
  OriginalDestinationConnectionId,
  InitialSourceConnectionId,
  RetrySourceConnectionId,
  GreaseQuicBit,
  MinAckDelayDraft07,
}
use Rattle.quic_params.specs.declared.record.TransportParameters.{TransportParameters}
use Rattle.quic_params.specs.declared.value.Value.{Value}
use Rattle.quic_params.specs.declared.value.Value.TheVariants as V
use Rattle.quic_text.specs.Printed.{Printed, Plain, Error}

-- the name that a parameter is printed by
abbrev pub parameter_name_of : TransportParameterId → List ℕ
parameter_name_of MaxIdleTimeout = codes "max_idle_timeout"
parameter_name_of MaxUdpPayloadSize = codes "max_udp_payload_size"
parameter_name_of InitialMaxData = codes "initial_max_data"
parameter_name_of InitialMaxStreamDataBidiLocal = codes "initial_max_stream_data_bidi_local"
parameter_name_of InitialMaxStreamDataBidiRemote = codes "initial_max_stream_data_bidi_remote"
parameter_name_of InitialMaxStreamDataUni = codes "initial_max_stream_data_uni"
parameter_name_of InitialMaxStreamsBidi = codes "initial_max_streams_bidi"
parameter_name_of InitialMaxStreamsUni = codes "initial_max_streams_uni"
parameter_name_of AckDelayExponent = codes "ack_delay_exponent"
parameter_name_of MaxAckDelay = codes "max_ack_delay"
parameter_name_of ActiveConnectionIdLimit = codes "active_connection_id_limit"
parameter_name_of ReservedTransportParameter = codes "grease_transport_parameter"
parameter_name_of StatelessResetToken = codes "stateless_reset_token"
parameter_name_of DisableActiveMigration = codes "disable_active_migration"
parameter_name_of MaxDatagramFrameSize = codes "max_datagram_frame_size"
parameter_name_of PreferredAddress = codes "preferred_address"
parameter_name_of OriginalDestinationConnectionId = codes "original_dst_cid"
parameter_name_of InitialSourceConnectionId = codes "initial_src_cid"
parameter_name_of RetrySourceConnectionId = codes "retry_src_cid"
parameter_name_of GreaseQuicBit = codes "grease_quic_bit"
parameter_name_of MinAckDelayDraft07 = codes "min_ack_delay"

-- bytes in hexadecimal digits, `-` for none
abbrev pub digits_of : List ℕ → List ℕ
digits_of [] = codes "-"
digits_of (byte ∷ bytes) = encode_lower (byte ∷ bytes)

-- numbers are decimal, flags `true`, other values the digits of their bytes
abbrev pub value_text : Value → List ℕ
value_text (V.Number n) = decimal n
value_text V.Flag = codes "true"
value_text (V.Token token) = digits_of token
value_text (V.Id id) = digits_of id
value_text (V.Address a) = digits_of (encoding (V.Address a))

-- `NAME VALUE`, if there is a value
abbrev pub value_lines : TransportParameterId → Option Value → List Printed
value_lines id None = []
value_lines id (Some value) = Plain (parameter_name_of id ++ codes " " ++ value_text value) ∷ []

-- a line for each parameter that would be written, in the order of the table
abbrev pub record_lines : TransportParameters → List Printed
record_lines p = flat_map (λ id. value_lines id (value_written p id)) ids

-- what is printed of a record or an error
abbrev pub answer_lines : Result TransportParameters params.Error → List Printed
answer_lines (Ok p) = record_lines p ++ (Plain (codes "ok") ∷ [])
answer_lines (Err e) = Error (error_text_of e) ∷ []

-- what is printed for a list by `params`
abbrev pub parameter_lines : Side → List ℕ → List Printed
parameter_lines side list = answer_lines (answer_at as_quinn side list)
