-- Frames that break no rule, as a reader for their kind gives them.
use Rattle.std.specs.Prelude.{◌≡◌, ◌≢◌, ℕ, ◌<◌, ◌≤◌, ◌⊎◌, List, ◌∷◌, length, drop, Bool, true, false, Option, None, Some, Ok, if◌then◌else◌}
use Rattle.quic_base.specs.Number.{AreBytes}
use Rattle.quic_frame_fields.specs.declared.frame.ack.Ack.{Ack}
use Rattle.quic_frame_fields.specs.declared.frame.ack.EcnCounts.{EcnCounts}
use Rattle.quic_frame_fields.specs.Reading.{varint_at}
use Rattle.quic_frames.specs.declared.frame.Frame.{Frame}
use Rattle.quic_frames.specs.declared.frame.Frame.TheVariants as frames
use Rattle.quic_frames.specs.declared.frame.rules.Rules.{Rules}
use Rattle.quic_frames.specs.Meaning.{meaning_of}
use Rattle.quic_frames.specs.Rules.{breach_of}
use Rattle.quic_frames.specs.Walk.{Finds, resumed}
use Rattle.quic_c_words.specs.declared.words.CFrame.{CFrame}
use Rattle.quic_c_words.specs.Shown.{frame_kind_of, frame_words}

-- These are the words of the frame from start to stop, which is neither PADDING nor an ACK. It is found whichever type
-- was before it and whether types must be short or not, and it breaks no rule.
pub record ReadsFrame (payload : List ℕ) (start stop : ℕ) (words : CFrame) : Type 0 where
  pub frame : Frame
  pub finds : (strict : Bool) (last : Option ℕ)
      → Finds (resumed payload start last strict) frame (resumed payload stop (Some words.ty) strict)
  pub kept : (rules : Rules) → breach_of rules (meaning_of frame) ≡ None
  pub not_padding : 0 < frame_kind_of frame
  pub not_ack : frame_kind_of frame ≢ 0x02
  pub shows : words ≡ frame_words start stop words.ty frame

-- This ACK of this type is the frame from start to stop, in the same way.
abbrev pub FindsAck : List ℕ → ℕ → ℕ → ℕ → Ack → Type 0
FindsAck payload start stop type ack = (strict : Bool) (last : Option ℕ)
    → Finds (resumed payload start last strict) (frames.Ack ack) (resumed payload stop (Some type) strict)

-- What a reader for a kind returns: where the frame ends, with its words; or None, which says nothing of the bytes, and
-- nothing changes.
abbrev pub AnswersKind : List ℕ → ℕ → CFrame → Option ℕ → CFrame → Type 0
AnswersKind payload start before None after = after ≡ before
AnswersKind payload start before (Some stop) after = ReadsFrame payload start stop after

-- If there is a first byte, it is one of these.
abbrev pub BeginsBy : (ℕ → Type 0) → List ℕ → Type 0
BeginsBy P bytes = (type : ℕ) (fields : List ℕ) → bytes ≡ type ∷ fields → P type

-- The bytes from an offset on are this type and these fields.
pub record HasType (payload : List ℕ) (start type : ℕ) (fields : List ℕ) : Type 0 where
  pub within : start ≤ length payload
  pub octets : AreBytes (drop start payload)
  pub parts : drop start payload ≡ type ∷ fields

-- ---- the types of each kind

-- PING, HANDSHAKE_DONE
abbrev pub HasNoFields : ℕ → Type 0
HasNoFields t = (t ≡ 0x01) ⊎ (t ≡ 0x1e)

-- MAX_DATA, DATA_BLOCKED
abbrev pub IsDataLimit : ℕ → Type 0
IsDataLimit t = (t ≡ 0x10) ⊎ (t ≡ 0x14)

-- MAX_STREAMS, STREAMS_BLOCKED
abbrev pub IsStreamLimit : ℕ → Type 0
IsStreamLimit t = (t ≡ 0x12) ⊎ (t ≡ 0x13) ⊎ (t ≡ 0x16) ⊎ (t ≡ 0x17)

-- RETIRE_CONNECTION_ID
abbrev pub IsRetireId : ℕ → Type 0
IsRetireId t = t ≡ 0x19

-- STOP_SENDING, MAX_STREAM_DATA, STREAM_DATA_BLOCKED
abbrev pub HasTwoNumbers : ℕ → Type 0
HasTwoNumbers t = (t ≡ 0x05) ⊎ (t ≡ 0x11) ⊎ (t ≡ 0x15)

-- RESET_STREAM
abbrev pub IsReset : ℕ → Type 0
IsReset t = t ≡ 0x04

-- CRYPTO
abbrev pub IsCrypto : ℕ → Type 0
IsCrypto t = t ≡ 0x06

-- NEW_TOKEN
abbrev pub IsToken : ℕ → Type 0
IsToken t = t ≡ 0x07

-- STREAM
abbrev pub IsStream : ℕ → Type 0
IsStream t = (8 ≤ t) × (t < 16)

-- DATAGRAM
abbrev pub IsDatagram : ℕ → Type 0
IsDatagram t = (t ≡ 0x30) ⊎ (t ≡ 0x31)

-- PATH_CHALLENGE, PATH_RESPONSE
abbrev pub IsPath : ℕ → Type 0
IsPath t = (t ≡ 0x1a) ⊎ (t ≡ 0x1b)

-- NEW_CONNECTION_ID
abbrev pub IsNewId : ℕ → Type 0
IsNewId t = t ≡ 0x18

-- CONNECTION_CLOSE by the transport
abbrev pub IsTransportClose : ℕ → Type 0
IsTransportClose t = t ≡ 0x1c

-- CONNECTION_CLOSE by the application
abbrev pub IsApplicationClose : ℕ → Type 0
IsApplicationClose t = t ≡ 0x1d

-- ACK, with counts or without
abbrev pub ack_type : Bool → ℕ
ack_type has_counts = if has_counts then 0x03 else 0x02

abbrev pub IsAck : Bool → ℕ → Type 0
IsAck has_counts t = t ≡ ack_type has_counts

-- The counts of such an ACK are read from these bytes, and what follows them.
abbrev pub ReadsCounts : Bool → List ℕ → Option EcnCounts → List ℕ → Type 0
ReadsCounts false bytes None rest = rest ≡ bytes
ReadsCounts true bytes (Some e) rest = (behind after : List ℕ) × (varint_at bytes ≡ Ok (e.ect0, behind))
    × (varint_at behind ≡ Ok (e.ect1, after)) × (varint_at after ≡ Ok (e.ce, rest))
ReadsCounts has_counts bytes counts rest = ⊥
