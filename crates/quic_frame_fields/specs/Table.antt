-- The types of frames, and the fields of each (RFC 9000, section 19; RFC 9221, section 4; the last row and 0x1f are
-- of the ACK frequency extension).
use Rattle.std.specs.Prelude.{ℕ, List, [], ◌∷◌, Option, Bool, true, false, ◌==◌, if◌then◌else◌}
use Rattle.std.specs.List.{list_any}
use Rattle.std.specs.Map.{lookup}
use Rattle.std.specs.Option.{option_map_or}
use Rattle.quic_base.specs.declared.ids.Dir.{Dir}
use Rattle.quic_base.specs.declared.ids.Dir.TheVariants.{Bi, Uni}
use Rattle.quic_base.specs.Ids.{dir_number}
use Rattle.quic_frame_fields.specs.Field.{Field, Varint, Counted, Id, Uint64, Bytes16, Blocks, Rest, Implied, Ordered, is_rest}

pub data Name : Type 0 where
  Padding Ping Ack ResetStream StopSending Crypto NewToken Stream : Name
  MaxData MaxStreamData MaxStreams DataBlocked StreamDataBlocked StreamsBlocked : Name
  NewConnectionId RetireConnectionId PathChallenge PathResponse : Name
  ConnectionClose ApplicationClose HandshakeDone ImmediateAck Datagram AckFrequency : Name

pub record Row : Type 0 where
  pub name : Name
  pub fields : List Field

abbrev pub row : Name → List Field → Row
row name fields = record { name = name; fields = fields }

-- ---- the fields, by their names in the RFC

abbrev pub stream_id : Field
stream_id = Varint

abbrev pub error_code : Field
error_code = Varint

abbrev pub final_size : Field
final_size = Varint

abbrev pub data_offset : Field
data_offset = Varint

abbrev pub crypto_data : Field
crypto_data = Counted

abbrev pub token : Field
token = Counted

abbrev pub largest_acknowledged : Field
largest_acknowledged = Varint

abbrev pub ack_delay : Field
ack_delay = Varint

abbrev pub ack_ranges : Field
ack_ranges = Blocks

abbrev pub ect0_count : Field
ect0_count = Varint

abbrev pub ect1_count : Field
ect1_count = Varint

abbrev pub ecn_ce_count : Field
ecn_ce_count = Varint

abbrev pub maximum_stream_data : Field
maximum_stream_data = Varint

abbrev pub sequence_number : Field
sequence_number = Varint

abbrev pub retire_prior_to : Field
retire_prior_to = Varint

abbrev pub connection_id : Field
connection_id = Id

abbrev pub stateless_reset_token : Field
stateless_reset_token = Bytes16

abbrev pub frame_type : Field
frame_type = Varint

abbrev pub reason_phrase : Field
reason_phrase = Counted

abbrev pub ack_eliciting_threshold : Field
ack_eliciting_threshold = Varint

abbrev pub request_max_ack_delay : Field
request_max_ack_delay = Varint

abbrev pub reordering_threshold : Field
reordering_threshold = Varint

abbrev pub ack_row : Row
ack_row = row Ack (largest_acknowledged ∷ ack_delay ∷ ack_ranges ∷ [])

abbrev pub ack_ecn_row : Row
ack_ecn_row = row Ack (largest_acknowledged ∷ ack_delay ∷ ack_ranges ∷ ect0_count ∷ ect1_count ∷ ecn_ce_count ∷ [])

abbrev pub reset_stream_row : Row
reset_stream_row = row ResetStream (stream_id ∷ error_code ∷ final_size ∷ [])

abbrev pub stop_sending_row : Row
stop_sending_row = row StopSending (stream_id ∷ error_code ∷ [])

abbrev pub crypto_row : Row
crypto_row = row Crypto (data_offset ∷ crypto_data ∷ [])

abbrev pub new_token_row : Row
new_token_row = row NewToken (token ∷ [])

abbrev pub offset_field : Bool → Field
offset_field is_written = if is_written then Varint else Implied 0

abbrev pub data_field : Bool → Field
data_field is_counted = if is_counted then Counted else Rest

-- A STREAM, given its type's low three bits. Its values are FIN, id, offset and data.
abbrev pub stream_row : Bool → Bool → Bool → Row
stream_row has_offset has_length fin = row Stream
    (Implied (if fin then 1 else 0) ∷ stream_id ∷ offset_field has_offset ∷ data_field has_length ∷ [])

-- the direction, then the count
abbrev pub streams_row : Name → Dir → Row
streams_row name dir = row name (Implied (dir_number dir) ∷ Varint ∷ [])

-- the sequence number; Retire Prior To, which is at most that; the id; the token
abbrev pub new_connection_id_row : Row
new_connection_id_row = row NewConnectionId
    (sequence_number ∷ retire_prior_to ∷ Ordered ∷ connection_id ∷ stateless_reset_token ∷ [])

abbrev pub retire_connection_id_row : Row
retire_connection_id_row = row RetireConnectionId (sequence_number ∷ [])

abbrev pub datagram_row : Bool → Row
datagram_row has_length = row Datagram (data_field has_length ∷ [])

abbrev pub ack_frequency_row : Row
ack_frequency_row = row AckFrequency
    (sequence_number ∷ ack_eliciting_threshold ∷ request_max_ack_delay ∷ reordering_threshold ∷ [])

abbrev pub rows : List (ℕ × Row)
rows =
    (0x00, row Padding []) ∷ (0x01, row Ping []) ∷ (0x02, ack_row) ∷ (0x03, ack_ecn_row)
    ∷ (0x04, reset_stream_row) ∷ (0x05, stop_sending_row) ∷ (0x06, crypto_row) ∷ (0x07, new_token_row)
    ∷ (0x08, stream_row false false false) ∷ (0x09, stream_row false false true)
    ∷ (0x0a, stream_row false true false) ∷ (0x0b, stream_row false true true)
    ∷ (0x0c, stream_row true false false) ∷ (0x0d, stream_row true false true)
    ∷ (0x0e, stream_row true true false) ∷ (0x0f, stream_row true true true)
    ∷ (0x10, row MaxData (Varint ∷ [])) ∷ (0x11, row MaxStreamData (stream_id ∷ maximum_stream_data ∷ []))
    ∷ (0x12, streams_row MaxStreams Bi) ∷ (0x13, streams_row MaxStreams Uni)
    ∷ (0x14, row DataBlocked (Varint ∷ [])) ∷ (0x15, row StreamDataBlocked (stream_id ∷ maximum_stream_data ∷ []))
    ∷ (0x16, streams_row StreamsBlocked Bi) ∷ (0x17, streams_row StreamsBlocked Uni)
    ∷ (0x18, new_connection_id_row) ∷ (0x19, retire_connection_id_row)
    ∷ (0x1a, row PathChallenge (Uint64 ∷ [])) ∷ (0x1b, row PathResponse (Uint64 ∷ []))
    ∷ (0x1c, row ConnectionClose (error_code ∷ frame_type ∷ reason_phrase ∷ []))
    ∷ (0x1d, row ApplicationClose (error_code ∷ reason_phrase ∷ []))
    ∷ (0x1e, row HandshakeDone []) ∷ (0x1f, row ImmediateAck [])
    ∷ (0x30, datagram_row false) ∷ (0x31, datagram_row true) ∷ (0xaf, ack_frequency_row) ∷ []

abbrev pub row_of : ℕ → Option Row
row_of t = lookup (λ u. t == u) rows

-- a frame of this type takes all remaining bytes
abbrev pub is_open : ℕ → Bool
is_open t = option_map_or (λ (r : Row). list_any is_rest r.fields) (row_of t) false
