-- Transport parameters as the fields of a struct: RFC 9000, section 18.2.
use Rattle.std.specs.Prelude.{ℕ, ◌+◌, ◌*◌, ◌-◌, Bool, true, false, List, [], ◌∷◌, ◌++◌, length, replicate, Option, Some, None, is_some}
use Rattle.std.specs.Net.Addr.{ipv4_octets, ipv6_octets}
use Rattle.std.specs.Net.Socket.{v4_ip, v4_port, v6_ip, v6_port}
use Rattle.std.specs.declared.net.socket_addr.SocketAddrV4.{SocketAddrV4}
use Rattle.std.specs.declared.net.socket_addr.SocketAddrV6.{SocketAddrV6}
use Rattle.quic_params.specs.declared.value.PreferredAddress.{PreferredAddress}
use Rattle.quic_params.specs.declared.record.TransportParameters.{TransportParameters}
use Rattle.quic_c_params.specs.declared.words.CParams.{CParams}

-- a bit of the flags with others above it
abbrev pub flag_bit : Bool → ℕ → ℕ
flag_bit true above = 1 + 2 * above
flag_bit false above = 2 * above

-- bits from the lowest
abbrev pub bits : List Bool → ℕ
bits [] = 0
bits (first ∷ above) = flag_bit first (bits above)

-- what is absent is 0
abbrev pub number_word : Option ℕ → ℕ
number_word (Some number) = number
number_word None = 0

abbrev pub reset_token_of : Option (List ℕ) → List ℕ
reset_token_of (Some token) = token
reset_token_of None = replicate 16 0

-- an id of any length in 20 bytes
abbrev pub padded : List ℕ → List ℕ
padded id = id ++ replicate (20 - length id) 0

abbrev pub id_of : Option (List ℕ) → List ℕ
id_of (Some id) = padded id
id_of None = replicate 20 0

abbrev pub len_of : Option (List ℕ) → ℕ
len_of (Some id) = length id
len_of None = 0

abbrev pub octets_of_v4 : Option SocketAddrV4 → List ℕ
octets_of_v4 (Some socket) = ipv4_octets (v4_ip socket)
octets_of_v4 None = replicate 4 0

abbrev pub port_of_v4 : Option SocketAddrV4 → ℕ
port_of_v4 (Some socket) = v4_port socket
port_of_v4 None = 0

abbrev pub octets_of_v6 : Option SocketAddrV6 → List ℕ
octets_of_v6 (Some socket) = ipv6_octets (v6_ip socket)
octets_of_v6 None = replicate 16 0

abbrev pub port_of_v6 : Option SocketAddrV6 → ℕ
port_of_v6 (Some socket) = v6_port socket
port_of_v6 None = 0

-- the parts of a preferred address, if there is one
abbrev pub v4_in : Option PreferredAddress → Option SocketAddrV4
v4_in (Some address) = address.address_v4
v4_in None = None

abbrev pub v6_in : Option PreferredAddress → Option SocketAddrV6
v6_in (Some address) = address.address_v6
v6_in None = None

abbrev pub id_in : Option PreferredAddress → Option (List ℕ)
id_in (Some address) = Some address.connection_id
id_in None = None

abbrev pub token_in : Option PreferredAddress → Option (List ℕ)
token_in (Some address) = Some address.stateless_reset_token
token_in None = None

-- what is there of what can be absent
abbrev pub present_in : TransportParameters → List Bool
present_in params =
    is_some params.stateless_reset_token
    ∷ params.disable_active_migration
    ∷ is_some params.max_datagram_frame_size
    ∷ is_some params.preferred_address
    ∷ is_some (v4_in params.preferred_address)
    ∷ is_some (v6_in params.preferred_address)
    ∷ is_some params.original_dst_cid
    ∷ is_some params.initial_src_cid
    ∷ is_some params.retry_src_cid
    ∷ params.grease_quic_bit
    ∷ is_some params.min_ack_delay
    ∷ []

-- the struct of a record; what is never read, grease and an order of writing, isn't reported
abbrev pub params_words : TransportParameters → CParams
params_words params = record {
  present = bits (present_in params);
  reserved = 0;
  max_idle_timeout = params.max_idle_timeout;
  max_udp_payload_size = params.max_udp_payload_size;
  initial_max_data = params.initial_max_data;
  initial_max_stream_data_bidi_local = params.initial_max_stream_data_bidi_local;
  initial_max_stream_data_bidi_remote = params.initial_max_stream_data_bidi_remote;
  initial_max_stream_data_uni = params.initial_max_stream_data_uni;
  initial_max_streams_bidi = params.initial_max_streams_bidi;
  initial_max_streams_uni = params.initial_max_streams_uni;
  ack_delay_exponent = params.ack_delay_exponent;
  max_ack_delay = params.max_ack_delay;
  active_connection_id_limit = params.active_connection_id_limit;
  max_datagram_frame_size = number_word params.max_datagram_frame_size;
  min_ack_delay = number_word params.min_ack_delay;
  original_dst_cid_len = len_of params.original_dst_cid;
  initial_src_cid_len = len_of params.initial_src_cid;
  retry_src_cid_len = len_of params.retry_src_cid;
  preferred_id_len = len_of (id_in params.preferred_address);
  preferred_v4_port = port_of_v4 (v4_in params.preferred_address);
  preferred_v6_port = port_of_v6 (v6_in params.preferred_address);
  original_dst_cid = id_of params.original_dst_cid;
  initial_src_cid = id_of params.initial_src_cid;
  retry_src_cid = id_of params.retry_src_cid;
  preferred_id = id_of (id_in params.preferred_address);
  stateless_reset_token = reset_token_of params.stateless_reset_token;
  preferred_token = reset_token_of (token_in params.preferred_address);
  preferred_v6 = octets_of_v6 (v6_in params.preferred_address);
  preferred_v4 = octets_of_v4 (v4_in params.preferred_address);
}
