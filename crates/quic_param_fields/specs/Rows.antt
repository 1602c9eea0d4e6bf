-- The fields of the value of each parameter: RFC 9000, section 18.2, RFC 9221, section 3, RFC 9287, section 3, and the
-- ACK frequency draft. The laws tie them to `quic_params`.
use Rattle.std.specs.Prelude.{List, [], ◌∷◌, Option, Some, None}
use Rattle.quic_params.specs.declared.parameter.TransportParameterId.{TransportParameterId}
use Rattle.quic_params.specs.declared.parameter.TransportParameterId.TheVariants.{ReservedTransportParameter, StatelessResetToken, DisableActiveMigration, PreferredAddress, OriginalDestinationConnectionId, InitialSourceConnectionId, RetrySourceConnectionId, GreaseQuicBit}
use Rattle.quic_param_fields.specs.declared.row.Kind.{Kind}
use Rattle.quic_param_fields.specs.declared.row.Kind.TheVariants as K
use Rattle.quic_param_fields.specs.declared.row.Sort.{Sort}
use Rattle.quic_param_fields.specs.declared.row.Sort.TheVariants as S

-- what the value of a parameter is
abbrev pub sort_of : TransportParameterId → Sort
sort_of OriginalDestinationConnectionId = S.Id
sort_of InitialSourceConnectionId = S.Id
sort_of RetrySourceConnectionId = S.Id
sort_of StatelessResetToken = S.Token
sort_of DisableActiveMigration = S.Flag
sort_of GreaseQuicBit = S.Flag
sort_of PreferredAddress = S.Address
sort_of ReservedTransportParameter = S.Any
sort_of _ = S.Number

-- the same of a parameter that may not be known
abbrev pub sort_in : Option TransportParameterId → Sort
sort_in None = S.Any
sort_in (Some id) = sort_of id

-- Its fields. Those of an address are the address of IPv4 and its port, those of IPv6, the id after its length, and the
-- token.
abbrev pub fields_of : Sort → List Kind
fields_of S.Number = K.Varint ∷ []
fields_of S.Flag = []
fields_of S.Token = K.Bytes16 ∷ []
fields_of S.Id = K.Id ∷ []
fields_of S.Address = K.Ip4 ∷ K.Port ∷ K.Ip6 ∷ K.Port ∷ K.LongId ∷ K.Bytes16 ∷ []
fields_of S.Any = K.Rest ∷ []
