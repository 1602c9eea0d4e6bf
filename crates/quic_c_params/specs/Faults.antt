-- The transport parameter whose value the peer would reject (RFC 9000, section 18.2).
use Rattle.std.specs.Prelude.{◌≡◌, ℕ, ◌^◌, ◌⊎◌, List, [], ◌∷◌, nat_lt, Option, Some, None, IfSome, if◌then◌else◌}
use Rattle.std.specs.Net.Socket.{v6_flowinfo, v6_scope_id}
use Rattle.std.specs.declared.net.socket_addr.SocketAddrV6.{SocketAddrV6}
use Rattle.quic_base.specs.declared.ids.Side.{Side}
use Rattle.quic_params.specs.Answer.{rules, address_at}
use Rattle.quic_params.specs.Range.{IsEncodableAddress, IsRecordInRange}
use Rattle.quic_params.specs.Refusal.{first_broken}
use Rattle.quic_params.specs.Table.{row_of}
use Rattle.quic_params.specs.declared.parameter.TransportParameterId.{TransportParameterId}
use Rattle.quic_params.specs.declared.parameter.TransportParameterId.TheVariants as ids
use Rattle.quic_params.specs.declared.value.PreferredAddress.{PreferredAddress}
use Rattle.quic_params.specs.declared.record.TransportParameters.{TransportParameters}
use Rattle.quic_c_params.specs.declared.words.CParams.{CParams}
use Rattle.quic_c_params.specs.declared.faults.Reason.{Reason}
use Rattle.quic_c_params.specs.declared.faults.Reason.TheVariants as reasons
use Rattle.quic_c_params.specs.declared.faults.Found.{Found}
use Rattle.quic_c_params.specs.declared.faults.Found.TheVariants as found
use Rattle.quic_c_params.specs.Written.{DescribesParams}

-- ---- records that a struct describes

-- neither a flow label nor a scope, which a struct doesn't have
abbrev pub HasNoFlow : SocketAddrV6 → Type 0
HasNoFlow socket = (v6_flowinfo socket ≡ 0) × (v6_scope_id socket ≡ 0)

abbrev pub IsPlainAddress : PreferredAddress → Type 0
IsPlainAddress address = IfSome address.address_v6 HasNoFlow

-- The struct describes the record, which has nothing else.
pub record DescribesPlain (words : CParams) (params : TransportParameters) : Type 0 where
  pub described : DescribesParams words params
  pub plain : IfSome params.preferred_address IsPlainAddress

-- ---- what is found

-- a struct's integers, each with its parameter, in the order in which they are written
abbrev pub integers : CParams → List (TransportParameterId × ℕ)
integers words =
    (ids.MaxIdleTimeout, words.max_idle_timeout)
    ∷ (ids.MaxUdpPayloadSize, words.max_udp_payload_size)
    ∷ (ids.InitialMaxData, words.initial_max_data)
    ∷ (ids.InitialMaxStreamDataBidiLocal, words.initial_max_stream_data_bidi_local)
    ∷ (ids.InitialMaxStreamDataBidiRemote, words.initial_max_stream_data_bidi_remote)
    ∷ (ids.InitialMaxStreamDataUni, words.initial_max_stream_data_uni)
    ∷ (ids.InitialMaxStreamsBidi, words.initial_max_streams_bidi)
    ∷ (ids.InitialMaxStreamsUni, words.initial_max_streams_uni)
    ∷ (ids.AckDelayExponent, words.ack_delay_exponent)
    ∷ (ids.MaxAckDelay, words.max_ack_delay)
    ∷ (ids.ActiveConnectionIdLimit, words.active_connection_id_limit)
    ∷ (ids.MaxDatagramFrameSize, words.max_datagram_frame_size)
    ∷ (ids.MinAckDelayDraft07, words.min_ack_delay)
    ∷ []

-- the parameter of the first integer that has no encoding (section 16)
abbrev pub first_large : List (TransportParameterId × ℕ) → Option TransportParameterId
first_large [] = None
first_large ((id, n) ∷ others) = if nat_lt n (2 ^ 62) then first_large others else Some id

-- why a side doesn't accept the value of this parameter in the record
abbrev pub reason_of : TransportParameterId → TransportParameters → Reason
reason_of ids.ActiveConnectionIdLimit params = reasons.BelowLeast
reason_of ids.MaxUdpPayloadSize params = reasons.BelowLeast
reason_of ids.MinAckDelayDraft07 params = reasons.AboveMaxAckDelay
reason_of ids.PreferredAddress params =
    if address_at params.preferred_address then reasons.OnlyFromServers else reasons.EmptyId
reason_of ids.OriginalDestinationConnectionId params = reasons.OnlyFromServers
reason_of ids.RetrySourceConnectionId params = reasons.OnlyFromServers
reason_of ids.StatelessResetToken params = reasons.OnlyFromServers
reason_of id params = reasons.AboveGreatest

-- What is found of a record: the parameter of the first rule that it breaks, as a reader finds it; else a preferred
-- address that is read as another one or as none.
abbrev pub IsRecordFault : Side → TransportParameters → Found → Type 0
IsRecordFault side params what =
    ((id : TransportParameterId) × (first_broken (rules side params) ≡ Some id)
    × (what ≡ found.Parameter id (reason_of id params)))
    ⊎ (first_broken (rules side params) ≡ None)
    × ((IfSome params.preferred_address IsEncodableAddress → ⊥)
    × (what ≡ found.Parameter ids.PreferredAddress reasons.NoAddress)
    ⊎ IsRecordInRange side params × (what ≡ found.Nothing))

-- What is found of a struct, for the side that reads it: the first integer that has no encoding; else what is found of
-- the record that it describes; or that it describes none, since something that is absent isn't 0, or an id is longer
-- than 20 bytes.
abbrev pub IsWriteFault : Side → CParams → Found → Type 0
IsWriteFault side words what =
    ((id : TransportParameterId) × (first_large (integers words) ≡ Some id)
    × (what ≡ found.Parameter id reasons.AboveGreatest))
    ⊎ (first_large (integers words) ≡ None)
    × (((params : TransportParameters) × DescribesPlain words params × IsRecordFault side params what)
    ⊎ (((params : TransportParameters) → DescribesPlain words params → ⊥) × (what ≡ found.NoRecord)))

-- ---- for C

-- the number of what is found
abbrev pub number_of : Found → ℕ
number_of found.Nothing = 0
number_of (found.Parameter id reasons.BelowLeast) = 1
number_of (found.Parameter id reasons.AboveGreatest) = 2
number_of (found.Parameter id reasons.AboveMaxAckDelay) = 3
number_of (found.Parameter id reasons.OnlyFromServers) = 4
number_of (found.Parameter id reasons.EmptyId) = 5
number_of (found.Parameter id reasons.NoAddress) = 6
number_of found.NoRecord = 7

-- the number of the parameter that is found, if one is
abbrev pub id_or : ℕ → Found → ℕ
id_or old (found.Parameter id reason) = (row_of id).number
id_or old what = old
