-- What the parts of frames mean: each struct as a name and values, and the type that names a frame.
use Rattle.std.specs.Prelude.{ℕ, ◌+◌, ◌==◌, List, [], ◌∷◌, Bool, Option, None, Some, if◌then◌else◌}
use Rattle.quic_frame_fields.specs.declared.frame.ack.Ack.{Ack}
use Rattle.quic_frame_fields.specs.declared.frame.ack.EcnCounts.{EcnCounts}
use Rattle.quic_frame_fields.specs.declared.frame.close.Close.{Close}
use Rattle.quic_frame_fields.specs.declared.frame.close.Close.TheVariants as closes
use Rattle.quic_frame_fields.specs.declared.frame.ResetStream.{ResetStream}
use Rattle.quic_frame_fields.specs.declared.frame.StopSending.{StopSending}
use Rattle.quic_frame_fields.specs.declared.frame.Crypto.{Crypto}
use Rattle.quic_frame_fields.specs.declared.frame.NewToken.{NewToken}
use Rattle.quic_frame_fields.specs.declared.frame.Stream.{Stream}
use Rattle.quic_frame_fields.specs.declared.frame.NewConnectionId.{NewConnectionId}
use Rattle.quic_frame_fields.specs.declared.frame.Datagram.{Datagram}
use Rattle.quic_frame_fields.specs.declared.frame.AckFrequency.{AckFrequency}
use Rattle.quic_frame_fields.specs.Field.{Value, Number, Bytes, Ranges}
use Rattle.quic_frame_fields.specs.Table.{Name}
use Rattle.quic_frame_fields.specs.Table as names
use Rattle.quic_errors.specs.Types.{type_or_zero}
use Rattle.quic_frame_fields.specs.Payload.{Meaning}
use Rattle.quic_frame_fields.specs.Acks.{ranges_acked}

abbrev pub frame_of : Name → List Value → Meaning
frame_of name values = record { name = name; values = values }

abbrev pub flag : Bool → Value
flag b = Number (if b then 1 else 0)

abbrev pub counts_of : Option EcnCounts → List Value
counts_of None = []
counts_of (Some e) = Number e.ect0 ∷ Number e.ect1 ∷ Number e.ce ∷ []

-- a close by its code, perhaps the type of a frame, and a reason
abbrev pub connection_close : ℕ → Option ℕ → List ℕ → Meaning
connection_close code ty reason = frame_of names.ConnectionClose
    (Number code ∷ Number (type_or_zero ty) ∷ Bytes reason ∷ [])

abbrev pub application_close : ℕ → List ℕ → Meaning
application_close code reason = frame_of names.ApplicationClose (Number code ∷ Bytes reason ∷ [])

abbrev pub close_meaning : Close → Meaning
close_meaning (closes.Connection c) = connection_close c.error_code c.frame_type c.reason.now
close_meaning (closes.Application c) = application_close c.error_code c.reason.now

abbrev pub ack_meaning : Ack → Meaning
ack_meaning a = frame_of names.Ack (Number a.largest ∷ Number a.delay ∷ Ranges (ranges_acked a) ∷ counts_of a.ecn)

abbrev pub reset_meaning : ResetStream → Meaning
reset_meaning r = frame_of names.ResetStream (Number r.id ∷ Number r.error_code ∷ Number r.final_offset ∷ [])

abbrev pub stop_meaning : StopSending → Meaning
stop_meaning s = frame_of names.StopSending (Number s.id ∷ Number s.error_code ∷ [])

abbrev pub crypto_meaning : Crypto → Meaning
crypto_meaning c = frame_of names.Crypto (Number c.offset ∷ Bytes c.bytes.now ∷ [])

abbrev pub token_meaning : NewToken → Meaning
token_meaning t = frame_of names.NewToken (Bytes t.token.now ∷ [])

abbrev pub stream_meaning : Stream → Meaning
stream_meaning s = frame_of names.Stream (flag s.fin ∷ Number s.id ∷ Number s.offset ∷ Bytes s.bytes.now ∷ [])

abbrev pub new_id_meaning : NewConnectionId → Meaning
new_id_meaning n = frame_of names.NewConnectionId
    (Number n.sequence ∷ Number n.retire_prior_to ∷ Bytes n.id ∷ Bytes n.reset_token ∷ [])

abbrev pub datagram_meaning : Datagram → Meaning
datagram_meaning d = frame_of names.Datagram (Bytes d.bytes.now ∷ [])

abbrev pub frequency_meaning : AckFrequency → Meaning
frequency_meaning f =
    frame_of names.AckFrequency
    (Number f.sequence ∷ Number f.ack_eliciting_threshold ∷ Number f.request_max_ack_delay
    ∷ Number f.reordering_threshold ∷ [])

-- the number of a direction's bit, as the first of values
abbrev pub first_number : List Value → ℕ
first_number (Number n ∷ values) = n
first_number values = 0

-- the type that names a frame: that of a STREAM says whether it ends the stream, and whether its offset isn't 0
abbrev pub named_type : Name → List Value → ℕ
named_type names.Padding values = 0x00
named_type names.Ping values = 0x01
named_type names.Ack values = 0x02
named_type names.ResetStream values = 0x04
named_type names.StopSending values = 0x05
named_type names.Crypto values = 0x06
named_type names.NewToken values = 0x07
named_type names.Stream (Number fin ∷ id ∷ Number offset ∷ values) = 0x08 + (if offset == 0 then 0 else 4) +
    (if fin == 1 then 1 else 0)
named_type names.Stream values = 0x08
named_type names.MaxData values = 0x10
named_type names.MaxStreamData values = 0x11
named_type names.MaxStreams values = 0x12 + first_number values
named_type names.DataBlocked values = 0x14
named_type names.StreamDataBlocked values = 0x15
named_type names.StreamsBlocked values = 0x16 + first_number values
named_type names.NewConnectionId values = 0x18
named_type names.RetireConnectionId values = 0x19
named_type names.PathChallenge values = 0x1a
named_type names.PathResponse values = 0x1b
named_type names.ConnectionClose values = 0x1c
named_type names.ApplicationClose values = 0x1d
named_type names.HandshakeDone values = 0x1e
named_type names.ImmediateAck values = 0x1f
named_type names.Datagram values = 0x30
named_type names.AckFrequency values = 0xaf
