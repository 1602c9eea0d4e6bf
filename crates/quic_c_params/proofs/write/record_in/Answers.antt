use Rattle.std.proofs.Common.{ap}
use Rattle.quic_params.specs.declared.parameter.TransportParameterId.TheVariants as ids
use Rattle.quic_c_params.specs.declared.words.CParams.{CParams}
use Rattle.quic_c_params.proofs.DescribedParams.{same_fields, typed_number, typed_id, typed_address}
use Rattle.quic_c_params.proofs.write.record_in.Goals as goal

pub returns-clause-described : goal.returns-clause-described
returns-clause-described c = λ p plain.
    let says = plain.described in
    let w = says.words_are in
    let t = says.typed.values in
    let f = c.flags_in-flags.ensures p (ap (λ (x : CParams). x.present) w) in
    same_fields p _ _ _ _ _ _ _ _ _ _ _ _ _ _ _ _ _ _ _ _ says.no_grease says.no_order
    (c.varint.ensures p.max_idle_timeout (t ids.MaxIdleTimeout) (ap (λ (x : CParams). x.max_idle_timeout) w))
    (c.varint-2.ensures p.max_udp_payload_size (t ids.MaxUdpPayloadSize) (ap (λ (x : CParams). x.max_udp_payload_size) w))
    (c.varint-3.ensures p.initial_max_data (t ids.InitialMaxData) (ap (λ (x : CParams). x.initial_max_data) w))
    (c.varint-4.ensures p.initial_max_stream_data_bidi_local (t ids.InitialMaxStreamDataBidiLocal)
    (ap (λ (x : CParams). x.initial_max_stream_data_bidi_local) w))
    (c.varint-5.ensures p.initial_max_stream_data_bidi_remote (t ids.InitialMaxStreamDataBidiRemote)
    (ap (λ (x : CParams). x.initial_max_stream_data_bidi_remote) w))
    (c.varint-6.ensures p.initial_max_stream_data_uni (t ids.InitialMaxStreamDataUni)
    (ap (λ (x : CParams). x.initial_max_stream_data_uni) w))
    (c.varint-7.ensures p.initial_max_streams_bidi (t ids.InitialMaxStreamsBidi) (ap (λ (x : CParams). x.initial_max_streams_bidi) w))
    (c.varint-8.ensures p.initial_max_streams_uni (t ids.InitialMaxStreamsUni) (ap (λ (x : CParams). x.initial_max_streams_uni) w))
    (c.varint-9.ensures p.ack_delay_exponent (t ids.AckDelayExponent) (ap (λ (x : CParams). x.ack_delay_exponent) w))
    (c.varint-10.ensures p.max_ack_delay (t ids.MaxAckDelay) (ap (λ (x : CParams). x.max_ack_delay) w))
    (c.varint-11.ensures p.active_connection_id_limit (t ids.ActiveConnectionIdLimit)
    (ap (λ (x : CParams). x.active_connection_id_limit) w))
    (c.token_in.ensures p.stateless_reset_token f.token (ap (λ (x : CParams). x.stateless_reset_token) w))
    f.stays
    (c.number_in.ensures p.max_datagram_frame_size (typed_number p.max_datagram_frame_size (t ids.MaxDatagramFrameSize))
    f.datagram (ap (λ (x : CParams). x.max_datagram_frame_size) w))
    (c.address_in.ensures.described p w f (typed_address p.preferred_address (t ids.PreferredAddress)) plain.plain)
    (c.maybe_id.ensures p.original_dst_cid (typed_id p.original_dst_cid (t ids.OriginalDestinationConnectionId))
    f.original (ap (λ (x : CParams). x.original_dst_cid_len) w) (ap (λ (x : CParams). x.original_dst_cid) w))
    (c.maybe_id-2.ensures p.initial_src_cid (typed_id p.initial_src_cid (t ids.InitialSourceConnectionId)) f.initial
    (ap (λ (x : CParams). x.initial_src_cid_len) w) (ap (λ (x : CParams). x.initial_src_cid) w))
    (c.maybe_id-3.ensures p.retry_src_cid (typed_id p.retry_src_cid (t ids.RetrySourceConnectionId)) f.retry
    (ap (λ (x : CParams). x.retry_src_cid_len) w) (ap (λ (x : CParams). x.retry_src_cid) w))
    f.grease
    (c.number_in-2.ensures p.min_ack_delay (typed_number p.min_ack_delay (t ids.MinAckDelayDraft07)) f.delay
    (ap (λ (x : CParams). x.min_ack_delay) w))
