-- Which frames can be written.
use Rattle.std.specs.Prelude.{◌≡◌, ◌≢◌, ⊤, ℕ, ◌<◌, ◌≤◌, ◌^◌, List, [], ◌∷◌, length, Some, Bool, false}
use Rattle.quic_frames.specs.declared.frame.Frame.{Frame}
use Rattle.quic_frames.specs.declared.frame.Frame.TheVariants as frames
use Rattle.quic_frame_fields.specs.declared.frame.close.Close.TheVariants as closes
use Rattle.quic_errors.specs.Types.{type_or_zero}
use Rattle.quic_frame_fields.specs.Numbers.{AreNumeric}
pub use Rattle.quic_frame_fields.specs.Sets.{AreCounts}
use Rattle.quic_frame_fields.specs.Sets.{IsAckInRange}
use Rattle.quic_frames.specs.Least.{is_end}

-- a close whose frame type isn't 0, which is read as no type
abbrev pub HasNoTypeZero : Frame → Type 0
HasNoTypeZero (frames.Close (closes.Connection c)) = c.frame_type ≢ Some 0
HasNoTypeZero frame = ⊤

-- The frame has an encoding that is read back as the same frame: numbers of any width are below 2^62; an id has 1 to 20
-- bytes and is not among those that it retires; the frame type of a close isn't 0, which means no type (RFC 9000,
-- sections 16, 19.15 and 19.19). Numbers whose Rust type has the bound are not listed.
abbrev pub InRange : Frame → Type 0
InRange (frames.Ack a) = IsAckInRange a
InRange (frames.Crypto c) = AreNumeric (c.offset ∷ length c.bytes.now ∷ [])
InRange (frames.NewToken t) = length t.token.now < 2 ^ 62
InRange (frames.Stream s) = s.offset < 2 ^ 62
InRange (frames.MaxStreamData id offset) = offset < 2 ^ 62
InRange (frames.MaxStreams dir count) = count < 2 ^ 62
InRange (frames.DataBlocked offset) = offset < 2 ^ 62
InRange (frames.StreamDataBlocked id offset) = offset < 2 ^ 62
InRange (frames.StreamsBlocked dir limit) = limit < 2 ^ 62
InRange (frames.NewConnectionId n) = AreNumeric (n.sequence ∷ n.retire_prior_to ∷ []) × (n.retire_prior_to ≤ n.sequence)
    × (0 < length n.id) × (length n.id ≤ 20)
InRange (frames.RetireConnectionId sequence) = sequence < 2 ^ 62
InRange (frames.Close (closes.Connection c)) = HasNoTypeZero (frames.Close (closes.Connection c))
    × (length c.reason.now < 2 ^ 62)
InRange (frames.Close (closes.Application c)) = length c.reason.now < 2 ^ 62
InRange frame = ⊤

-- What the types of a frame's parts ensure: which numbers are below 2^62 or 2^64, and that a token has 16 bytes.
abbrev pub IsTypedFrame : Frame → Type 0
IsTypedFrame (frames.ResetStream r) = AreNumeric (r.id ∷ r.error_code ∷ r.final_offset ∷ [])
IsTypedFrame (frames.StopSending s) = AreNumeric (s.id ∷ s.error_code ∷ [])
IsTypedFrame (frames.Stream s) = s.id < 2 ^ 62
IsTypedFrame (frames.MaxData n) = n < 2 ^ 62
IsTypedFrame (frames.MaxStreamData id offset) = id < 2 ^ 62
IsTypedFrame (frames.StreamDataBlocked id offset) = id < 2 ^ 62
IsTypedFrame (frames.NewConnectionId n) = length n.reset_token ≡ 16
IsTypedFrame (frames.PathChallenge n) = n < 2 ^ 64
IsTypedFrame (frames.PathResponse n) = n < 2 ^ 64
IsTypedFrame (frames.Close (closes.Connection c)) = AreNumeric (c.error_code ∷ type_or_zero c.frame_type ∷ [])
IsTypedFrame (frames.Close (closes.Application c)) = c.error_code < 2 ^ 62
IsTypedFrame (frames.AckFrequency f) = AreNumeric
    (f.sequence ∷ f.ack_eliciting_threshold ∷ f.request_max_ack_delay ∷ f.reordering_threshold ∷ [])
IsTypedFrame frame = ⊤

abbrev pub AreTyped : List Frame → Type 0
AreTyped [] = ⊤
AreTyped (frame ∷ others) = IsTypedFrame frame × AreTyped others

-- a frame of any kind except ACK
abbrev pub IsNoAck : Frame → Type 0
IsNoAck (frames.Ack a) = ⊥
IsNoAck frame = ⊤

-- A frame of the kinds that one body writes: they have nothing but numbers, and are very rare.
abbrev pub IsWrittenAsNumbers : Frame → Type 0
IsWrittenAsNumbers frames.Padding = ⊥
IsWrittenAsNumbers frames.Ping = ⊥
IsWrittenAsNumbers (frames.Ack a) = ⊥
IsWrittenAsNumbers (frames.ResetStream r) = ⊥
IsWrittenAsNumbers (frames.StopSending s) = ⊥
IsWrittenAsNumbers (frames.Crypto c) = ⊥
IsWrittenAsNumbers (frames.NewToken t) = ⊥
IsWrittenAsNumbers (frames.Stream s) = ⊥
IsWrittenAsNumbers (frames.MaxData n) = ⊥
IsWrittenAsNumbers (frames.MaxStreamData id offset) = ⊥
IsWrittenAsNumbers (frames.MaxStreams dir count) = ⊥
IsWrittenAsNumbers (frames.DataBlocked offset) = ⊥
IsWrittenAsNumbers (frames.StreamDataBlocked id offset) = ⊥
IsWrittenAsNumbers (frames.StreamsBlocked dir limit) = ⊥
IsWrittenAsNumbers (frames.NewConnectionId n) = ⊥
IsWrittenAsNumbers (frames.RetireConnectionId sequence) = ⊥
IsWrittenAsNumbers (frames.PathChallenge n) = ⊥
IsWrittenAsNumbers (frames.PathResponse n) = ⊥
IsWrittenAsNumbers (frames.Close c) = ⊥
IsWrittenAsNumbers frames.HandshakeDone = ⊥
IsWrittenAsNumbers frames.ImmediateAck = ⊥
IsWrittenAsNumbers (frames.Datagram d) = ⊥
IsWrittenAsNumbers frame = ⊤

-- the data whose length is written only if the frame isn't the last
abbrev pub open_data : Frame → List ℕ
open_data (frames.Stream s) = s.bytes.now
open_data (frames.Datagram d) = d.bytes.now
open_data frame = []

-- The frame can be written as the last of its payload, or as one that isn't.
pub record CanStand (last : Bool) (frame : Frame) : Type 0 where
  pub in_range : InRange frame
  pub counted : last ≡ false → length (open_data frame) < 2 ^ 62

-- The same of frames one after the other.
abbrev pub CanFollow : List Frame → Type 0
CanFollow [] = ⊤
CanFollow (frame ∷ others) = CanStand (is_end others) frame × CanFollow others
