-- The frames of the code as values.
use Rattle.std.specs.Prelude.{ℕ, [], ◌∷◌, Bool, true, false}
use Rattle.quic_base.specs.Ids.{dir_number}
use Rattle.quic_frames.specs.declared.frame.Frame.{Frame}
use Rattle.quic_frames.specs.declared.frame.Frame.TheVariants as frames
use Rattle.quic_frame_fields.specs.Field.{Number}
use Rattle.quic_frame_fields.specs.Table.{Name, Padding, Ping, Ack, MaxData, MaxStreamData, MaxStreams, DataBlocked, StreamDataBlocked, StreamsBlocked, RetireConnectionId, PathChallenge, PathResponse, ConnectionClose, ApplicationClose, HandshakeDone, ImmediateAck}
use Rattle.quic_frame_fields.specs.Payload.{Meaning}
pub use Rattle.quic_frame_fields.specs.Parts.{frame_of, flag, counts_of, connection_close, application_close, close_meaning, first_number, named_type}
use Rattle.quic_frame_fields.specs.Parts.{ack_meaning, reset_meaning, stop_meaning, crypto_meaning, token_meaning, stream_meaning, new_id_meaning, datagram_meaning, frequency_meaning}

-- what a frame says
abbrev pub meaning_of : Frame → Meaning
meaning_of frames.Padding = frame_of Padding []
meaning_of frames.Ping = frame_of Ping []
meaning_of (frames.Ack a) = ack_meaning a
meaning_of (frames.ResetStream r) = reset_meaning r
meaning_of (frames.StopSending s) = stop_meaning s
meaning_of (frames.Crypto c) = crypto_meaning c
meaning_of (frames.NewToken t) = token_meaning t
meaning_of (frames.Stream s) = stream_meaning s
meaning_of (frames.MaxData n) = frame_of MaxData (Number n ∷ [])
meaning_of (frames.MaxStreamData id offset) = frame_of MaxStreamData (Number id ∷ Number offset ∷ [])
meaning_of (frames.MaxStreams dir count) = frame_of MaxStreams (Number (dir_number dir) ∷ Number count ∷ [])
meaning_of (frames.DataBlocked offset) = frame_of DataBlocked (Number offset ∷ [])
meaning_of (frames.StreamDataBlocked id offset) = frame_of StreamDataBlocked (Number id ∷ Number offset ∷ [])
meaning_of (frames.StreamsBlocked dir limit) = frame_of StreamsBlocked (Number (dir_number dir) ∷ Number limit ∷ [])
meaning_of (frames.NewConnectionId n) = new_id_meaning n
meaning_of (frames.RetireConnectionId sequence) = frame_of RetireConnectionId (Number sequence ∷ [])
meaning_of (frames.PathChallenge n) = frame_of PathChallenge (Number n ∷ [])
meaning_of (frames.PathResponse n) = frame_of PathResponse (Number n ∷ [])
meaning_of (frames.Close c) = close_meaning c
meaning_of frames.HandshakeDone = frame_of HandshakeDone []
meaning_of frames.ImmediateAck = frame_of ImmediateAck []
meaning_of (frames.Datagram d) = datagram_meaning d
meaning_of (frames.AckFrequency f) = frequency_meaning f

abbrev pub type_of : Meaning → ℕ
type_of frame = named_type frame.name frame.values

-- an ack-eliciting frame (RFC 9002, section 2): any except ACK, PADDING and closes
abbrev pub is_eliciting : Name → Bool
is_eliciting Padding = false
is_eliciting Ack = false
is_eliciting ConnectionClose = false
is_eliciting ApplicationClose = false
is_eliciting name = true
