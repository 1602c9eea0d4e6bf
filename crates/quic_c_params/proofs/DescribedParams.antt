-- Words describe one record.
use Rattle.std.proofs.Common.{◌≡◌, ℕ, ◌+◌, ◌*◌, ◌/◌, ◌%◌, ◌<◌, ◌≤◌, ◌^◌, List, [], ◌∷◌, length, true, ap, ◌∙◌, sym, refl, arith}
use Rattle.std.specs.Prelude.{Bool, Option, Some, None, IfSome, is_some}
use Rattle.std.specs.Net.Addr.{segments_of, octets_of, ipv6_segments}
use Rattle.std.specs.Net.Socket.{v6_ip, v6_port, v6_flowinfo, v6_scope_id}
use Rattle.std.specs.declared.net.ipv6_addr.Ipv6Addr.{Ipv6Addr}
use Rattle.std.specs.declared.net.socket_addr.SocketAddrV6.{SocketAddrV6}
use Rattle.quic_params.specs.Range.{IsEncodableV6, IsEncodableAddress, IsRecordInRange, IsTypedAs, IsTypedAddress, plain}
use Rattle.std.specs.Option.{option_map}
use Rattle.quic_params.specs.Reserved.{Reserved}
use Rattle.quic_params.specs.Table.{row_of}
use Rattle.quic_params.specs.declared.parameter.TransportParameterId.TheVariants as ids
use Rattle.quic_params.specs.declared.value.PreferredAddress.{PreferredAddress}
use Rattle.quic_params.specs.declared.value.Value.TheVariants as V
use Rattle.quic_params.specs.declared.record.TransportParameters.{TransportParameters}
use Rattle.quic_c_params.specs.Faults.{DescribesPlain, HasNoFlow, IsPlainAddress}
use Rattle.quic_c_params.specs.Written.{DescribesParams}
use Rattle.quic_c_params.specs.declared.words.CParams.{CParams}
use Rattle.quic_base.specs.declared.ids.Side.{Side}
use Rattle.quic_c_params.specs.Shown.{octets_of_v6, port_of_v6}

segments_back : (l : List ℕ) → segments_of (octets_of l) ≡ l
segments_back [] = refl
segments_back (s ∷ l) =
    let one : (s / 256) * 256 + s % 256 ≡ s = omega arith in
    let others = segments_back l in
    cc

same_ip : (a b : Ipv6Addr) → ipv6_segments a ≡ ipv6_segments b → a ≡ b
same_ip a b e = ap (λ (l : List ℕ). record { segments = l }) e

same_v6 : (a s : SocketAddrV6) → v6_ip a ≡ v6_ip s → v6_port a ≡ v6_port s → v6_flowinfo a ≡ v6_flowinfo s
    → v6_scope_id a ≡ v6_scope_id s → a ≡ s
same_v6 a s ip port flow scope =
    let whole : ◌≡◌ {A = SocketAddrV6} (record {
      ip = v6_ip a;
      port = v6_port a;
      flowinfo = v6_flowinfo a;
      scope_id = v6_scope_id a;
    }) (record {
      ip = v6_ip s;
      port = v6_port s;
      flowinfo = v6_flowinfo s;
      scope_id = v6_scope_id s;
    }) =
    cc in
    whole

pub described_v6 : (o : Option SocketAddrV6) (a : SocketAddrV6) (ip : Ipv6Addr) (octets : List ℕ) (port : ℕ)
    → ipv6_segments ip ≡ segments_of octets → v6_ip a ≡ ip → v6_port a ≡ port
    → v6_flowinfo a ≡ 0 → v6_scope_id a ≡ 0 → IfSome o HasNoFlow → true ≡ is_some o → octets ≡ octets_of_v6 o
    → port ≡ port_of_v6 o → Some a ≡ o
described_v6 None a ip octets port s i p f c reported there from at = cc
described_v6 (Some x) a ip octets port s i p f c reported there from at =
    let segments : ipv6_segments ip ≡ ipv6_segments (v6_ip x) =
    s ∙ ap segments_of from ∙ segments_back (ipv6_segments (v6_ip x)) in
    ap Some (same_v6 a x (i ∙ same_ip ip (v6_ip x) segments) (p ∙ at) (f ∙ sym reported.0) (c ∙ sym reported.1))

-- a record by its fields
pub plain_is : (p : TransportParameters) → p.grease_transport_parameter ≡ None → p.write_order ≡ None → plain p ≡ p
plain_is p g o =
    ap (λ (w : Option (List ℕ)). record p { grease_transport_parameter = None; write_order = w }) (sym o)
    ∙ ap (λ (w : Option Reserved). record p { grease_transport_parameter = w }) (sym g)

pub same_fields : (p : TransportParameters) (x0 x1 x2 x3 x4 x5 x6 x7 x8 x9 x10 : ℕ) (x11 : Option (List ℕ)) (x12 : Bool) (x13 : Option ℕ)
    (x14 : Option PreferredAddress) (x15 x16 x17 : Option (List ℕ)) (x18 : Bool) (x19 : Option ℕ)
    → p.grease_transport_parameter ≡ None → p.write_order ≡ None
    → x0 ≡ p.max_idle_timeout
    → x1 ≡ p.max_udp_payload_size
    → x2 ≡ p.initial_max_data
    → x3 ≡ p.initial_max_stream_data_bidi_local
    → x4 ≡ p.initial_max_stream_data_bidi_remote
    → x5 ≡ p.initial_max_stream_data_uni
    → x6 ≡ p.initial_max_streams_bidi
    → x7 ≡ p.initial_max_streams_uni
    → x8 ≡ p.ack_delay_exponent
    → x9 ≡ p.max_ack_delay
    → x10 ≡ p.active_connection_id_limit
    → x11 ≡ p.stateless_reset_token
    → x12 ≡ p.disable_active_migration
    → x13 ≡ p.max_datagram_frame_size
    → x14 ≡ p.preferred_address
    → x15 ≡ p.original_dst_cid
    → x16 ≡ p.initial_src_cid
    → x17 ≡ p.retry_src_cid
    → x18 ≡ p.grease_quic_bit
    → x19 ≡ p.min_ack_delay
    → ◌≡◌ {A = TransportParameters} (record {
      max_idle_timeout = x0;
      max_udp_payload_size = x1;
      initial_max_data = x2;
      initial_max_stream_data_bidi_local = x3;
      initial_max_stream_data_bidi_remote = x4;
      initial_max_stream_data_uni = x5;
      initial_max_streams_bidi = x6;
      initial_max_streams_uni = x7;
      ack_delay_exponent = x8;
      max_ack_delay = x9;
      active_connection_id_limit = x10;
      grease_transport_parameter = None;
      stateless_reset_token = x11;
      disable_active_migration = x12;
      max_datagram_frame_size = x13;
      preferred_address = x14;
      original_dst_cid = x15;
      initial_src_cid = x16;
      retry_src_cid = x17;
      grease_quic_bit = x18;
      min_ack_delay = x19;
      write_order = None;
    }) p
same_fields p x0 x1 x2 x3 x4 x5 x6 x7 x8 x9 x10 x11 x12 x13 x14 x15 x16 x17 x18 x19 g o
    e0 e1 e2 e3 e4 e5 e6 e7 e8 e9 e10 e11 e12 e13 e14 e15 e16 e17 e18 e19 =
    let whole : ◌≡◌ {A = TransportParameters} (record {
      max_idle_timeout = x0;
      max_udp_payload_size = x1;
      initial_max_data = x2;
      initial_max_stream_data_bidi_local = x3;
      initial_max_stream_data_bidi_remote = x4;
      initial_max_stream_data_uni = x5;
      initial_max_streams_bidi = x6;
      initial_max_streams_uni = x7;
      ack_delay_exponent = x8;
      max_ack_delay = x9;
      active_connection_id_limit = x10;
      grease_transport_parameter = None;
      stateless_reset_token = x11;
      disable_active_migration = x12;
      max_datagram_frame_size = x13;
      preferred_address = x14;
      original_dst_cid = x15;
      initial_src_cid = x16;
      retry_src_cid = x17;
      grease_quic_bit = x18;
      min_ack_delay = x19;
      write_order = None;
    }) (plain p) = cc in
    whole ∙ plain_is p g o

-- what the types of a record's fields hold
pub typed_number : (o : Option ℕ) → IfSome (option_map V.Number o) (IsTypedAs (row_of ids.MaxDatagramFrameSize).kind)
    → IfSome o (λ n. n < 2 ^ 62)
typed_number None t = tt
typed_number (Some n) t = t

pub typed_id : (o : Option (List ℕ))
    → IfSome (option_map V.Id o) (IsTypedAs (row_of ids.OriginalDestinationConnectionId).kind)
    → IfSome o (λ id. length id ≤ 20)
typed_id None t = tt
typed_id (Some id) t = t

pub typed_address : (o : Option PreferredAddress)
    → IfSome (option_map V.Address o) (IsTypedAs (row_of ids.PreferredAddress).kind) → IfSome o IsTypedAddress
typed_address None t = tt
typed_address (Some a) t = t

-- a record in range has no more than its struct says
plain_v6 : (o : Option SocketAddrV6) → IfSome o IsEncodableV6 → IfSome o HasNoFlow
plain_v6 None e = tt
plain_v6 (Some socket) e = (e.1, e.2)

plain_address : (o : Option PreferredAddress) → IfSome o IsEncodableAddress → IfSome o IsPlainAddress
plain_address None e = tt
plain_address (Some address) e = plain_v6 address.address_v6 e.v6

pub plain_of : (side : Side) (words : CParams) (p : TransportParameters) → DescribesParams words p → IsRecordInRange side p
    → DescribesPlain words p
plain_of side words p says range = record { described = says; plain = plain_address p.preferred_address range.address }
