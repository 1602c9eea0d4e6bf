-- What RFC 9000 requires a receiver to check in frames besides their encoding, and a payload's reading under such
-- rules.
use Rattle.std.specs.Prelude.{◌≡◌, ◌⊎◌, ℕ, ◌+◌, ◌-◌, ◌^◌, List, [], ◌∷◌, ◌++◌, length, All, Option, Some, None, Bool, false, nat_lt, ◌&&◌, ◌||◌, ◌==◌, codes, if◌then◌else◌}
use Rattle.quic_frames.specs.declared.frame.rules.Rules.{Rules}
use Rattle.quic_frames.specs.declared.frame.rules.Breach.{Breach}
use Rattle.quic_frames.specs.declared.frame.rules.Breach.TheVariants as breaches
use Rattle.quic_frame_fields.specs.declared.frame.fault.Fault.{Fault}
use Rattle.quic_frame_fields.specs.declared.frame.fault.Fault.TheVariants.{InvalidFrameId, LongType, Malformed}
use Rattle.quic_frame_fields.specs.Field.{Value, Number, Bytes}
use Rattle.quic_frame_fields.specs.Table.{Name, Crypto, NewToken, Stream, MaxStreams, StreamsBlocked, AckFrequency, ImmediateAck}
use Rattle.quic_frame_fields.specs.Payload.{Meaning, TypedFrame, Reading, Complete, FailsAfter, IsReadingAfter}
use Rattle.quic_frame_fields.specs.Reading.{Invalid, invalid, reason_text}

-- The data end past the greatest offset, 2^62 - 1 (sections 19.6 and 19.8).
abbrev pub ends_past : ℕ → ℕ → Bool
ends_past offset count = nat_lt (2 ^ 62 - 1) (offset + count)

-- There can't be this many streams: 2^60 is the most of either direction (sections 19.11 and 19.14).
abbrev pub is_past_streams : ℕ → Bool
is_past_streams count = nat_lt (2 ^ 60) count

abbrev pub broken_if : Bool → Breach → Option Breach
broken_if is_broken breach = if is_broken then Some breach else None

-- the rule that a frame breaks, if any: a limit; that a token isn't empty (section 19.7); that frames of the ACK
-- frequency extension are known only if it was negotiated
abbrev pub breach_by : Rules → Name → List Value → Option Breach
breach_by rules Crypto (Number offset ∷ Bytes sent ∷ []) =
    broken_if (rules.data_limit && ends_past offset (length sent)) breaches.Limit
breach_by rules Stream (fin ∷ id ∷ Number offset ∷ Bytes sent ∷ []) =
    broken_if (rules.data_limit && ends_past offset (length sent)) breaches.Limit
breach_by rules MaxStreams (dir ∷ Number count ∷ []) =
    broken_if (rules.stream_limit && is_past_streams count) breaches.Limit
breach_by rules StreamsBlocked (dir ∷ Number count ∷ []) =
    broken_if (rules.stream_limit && is_past_streams count) breaches.Limit
breach_by rules NewToken (Bytes token ∷ []) = broken_if (rules.tokens && (length token == 0)) breaches.Token
breach_by rules AckFrequency values = broken_if rules.no_ack_frequency breaches.Extension
breach_by rules ImmediateAck values = broken_if rules.no_ack_frequency breaches.Extension
breach_by rules name values = None

abbrev pub breach_of : Rules → Meaning → Option Breach
breach_of rules frame = breach_by rules frame.name frame.values

-- why such a frame is rejected
abbrev pub breach_text : Breach → List ℕ
breach_text breaches.Limit = codes "limit exceeded"
breach_text breaches.Token = reason_text Malformed
breach_text breaches.Extension = reason_text InvalidFrameId

-- what is reported for it
abbrev pub invalid_by : TypedFrame → Breach → Invalid
invalid_by found breach = record { type = Some found.type; reason = breach_text breach }

-- The frame breaks no rule.
abbrev pub Keeps : Rules → TypedFrame → Type 0
Keeps rules found = breach_of rules found.frame ≡ None

-- the types of the ACK frequency extension: IMMEDIATE_ACK and ACK_FREQUENCY
abbrev pub is_of_ack_frequency : ℕ → Bool
is_of_ack_frequency t = (t == 0x1f) || (t == 0xaf)

-- The reported type is unknown because its extension wasn't negotiated (section 12.4).
abbrev pub is_unknown_by : Rules → Option ℕ → Bool
is_unknown_by rules (Some t) = rules.no_ack_frequency && is_of_ack_frequency t
is_unknown_by rules None = false

-- Why no frame is read, under rules: a type that isn't negotiated is unknown, whatever its fields are. Whether a type
-- is in its shortest encoding is checked before.
abbrev pub fault_by : Rules → Option ℕ → Fault → Fault
fault_by rules type LongType = LongType
fault_by rules type reason = if is_unknown_by rules type then InvalidFrameId else reason

-- What a payload is read as under rules: frames, and an error after them, if there is one.
pub record Checked : Type 0 where
  pub frames : List TypedFrame
  pub error : Option Invalid

-- a reading without rules for frames
abbrev pub unchecked : Reading → Checked
unchecked (Complete found) = record { frames = found; error = None }
unchecked (FailsAfter found type reason) = record { frames = found; error = Some (invalid type reason) }

-- the same, with the reason under rules
abbrev pub reported_by : Rules → Reading → Checked
reported_by rules (Complete found) = record { frames = found; error = None }
reported_by rules (FailsAfter found type reason) =
    record { frames = found; error = Some (invalid type (fault_by rules type reason)) }

-- The first of the frames that breaks a rule is reported, after those before it.
pub record StopsAtBreach (rules : Rules) (frames : List TypedFrame) (checked : Checked) : Type 0 where
  pub broken : TypedFrame
  pub others : List TypedFrame
  pub breach : Breach
  pub parts : frames ≡ checked.frames ++ broken ∷ others
  pub kept : All (Keeps rules) checked.frames
  pub breaks : breach_of rules broken.frame ≡ Some breach
  pub reported : checked.error ≡ Some (invalid_by broken breach)

-- What a reading becomes under rules if no frame breaks one; else it ends at the first that does.
abbrev pub IsCheckedReading : Rules → Reading → Checked → Type 0
IsCheckedReading rules reading checked =
    (All (Keeps rules) (reported_by rules reading).frames × (checked ≡ reported_by rules reading))
    ⊎ StopsAtBreach rules (reported_by rules reading).frames checked

-- This is the reading of the bytes under rules, after a frame of the given type.
abbrev pub IsCheckedAfter : Rules → Option ℕ → List ℕ → Checked → Type 0
IsCheckedAfter rules before bytes checked =
    (reading : Reading) × IsReadingAfter rules.short_types before bytes reading × IsCheckedReading rules reading checked

-- This is the reading of a payload under rules.
abbrev pub IsCheckedOf : Rules → List ℕ → Checked → Type 0
IsCheckedOf rules bytes checked = IsCheckedAfter rules None bytes checked

abbrev pub error_count : Option Invalid → ℕ
error_count None = 0
error_count (Some reported) = 1

-- how many items it has
abbrev pub checked_count : Checked → ℕ
checked_count checked = length checked.frames + error_count checked.error

-- no rule except for the encoding
abbrev pub only_types : Bool → Rules
only_types short_types = record
    { short_types = short_types; data_limit = false; stream_limit = false; tokens = false; no_ack_frequency = false }

-- quinn-proto's rules: none
abbrev pub no_rules : Rules
no_rules = only_types false
