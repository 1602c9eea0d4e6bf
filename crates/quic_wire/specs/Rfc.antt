-- What RFC 9000 allows by the bytes alone: payloads and lists of transport parameters. What it allows as the first
-- packet of a datagram is in quic_header_decode's specs/Rfc.antt, which packets may carry a frame in quic_permitted.
-- The types of RFC 9221, DATAGRAM, are known here: whether support was offered the connection checks (section 3 there).
use Rattle.std.specs.Prelude.{◌≡◌, ◌≢◌, ⊤, ℕ, ◌+◌, ◌<◌, ◌≤◌, ◌^◌, ◌⊎◌, List, [], ◌∷◌, ◌++◌, All, length, map, IsTrue, Bool, true, false, not, Option, None, Some, codes}
use Rattle.quic_base.specs.declared.ids.Side.{Side}
use Rattle.quic_frame_fields.specs.Field.{Value, Number, Bytes, NoNumber, StopsWithin}
use Rattle.quic_frame_fields.specs.Payload.{Meaning, TypedFrame, AreClosed, AreFrames, BeginsWithType, HasLongType, IsFrame, last_type}
use Rattle.quic_frame_fields.specs.Reading.{Invalid, invalid, reason_text}
use Rattle.quic_frame_fields.specs.Table.{Name, Row, Crypto, NewToken, Stream, MaxStreams, StreamsBlocked, AckFrequency, ImmediateAck, is_open, row_of}
use Rattle.quic_frame_fields.specs.declared.frame.fault.Fault.{Fault}
use Rattle.quic_frame_fields.specs.declared.frame.fault.Fault.TheVariants.{InvalidFrameId, LongType, Malformed, UnexpectedEnd}
use Rattle.quic_frames.specs.Least.{frame_in}
use Rattle.quic_frames.specs.Rules.{Checked, is_of_ack_frequency}
use Rattle.quic_frames.specs.declared.frame.rules.Rules.{Rules}
use Rattle.quic_params.specs.declared.parameter.TransportParameterId.{TransportParameterId}
use Rattle.quic_params.specs.declared.record.TransportParameters.{TransportParameters}
use Rattle.quic_params.specs.declared.value.Value.{Value as ParameterValue}
use Rattle.quic_params.specs.declared.error.Error.{Error}
use Rattle.quic_params.specs.declared.error.Error.TheVariants as refused
use Rattle.quic_params.specs.Entry.{AreEntries, Entry, Given, IsCutEntry, IsEntry, IsGiven, IsKnownParameter}
use Rattle.quic_params.specs.Meaning.{IsValid}
use Rattle.quic_params.specs.Options.{in_any_width}
use Rattle.quic_params.specs.Record.{IsRecord}
use Rattle.quic_params.specs.Table.{row_of as row_of_parameter}
use Rattle.quic_params.specs.Value.{IsEncoded, IsNoValue}

-- ---- frames and payloads

-- The sum of an offset and the length of the data is at most 2^62 - 1 (sections 19.6 and 19.8); there are at most 2^60
-- streams of a type (sections 19.11 and 19.14); a token isn't empty (section 19.7); frames of the ACK frequency
-- extension are unknown unless it was negotiated (section 12.4).
abbrev pub AreAllowed : Bool → Name → List Value → Type 0
AreAllowed negotiated Crypto (Number offset ∷ Bytes sent ∷ []) = offset + length sent < 2 ^ 62
AreAllowed negotiated Stream (fin ∷ id ∷ Number offset ∷ Bytes sent ∷ []) = offset + length sent < 2 ^ 62
AreAllowed negotiated MaxStreams (dir ∷ Number count ∷ []) = count ≤ 2 ^ 60
AreAllowed negotiated StreamsBlocked (dir ∷ Number count ∷ []) = count ≤ 2 ^ 60
AreAllowed negotiated NewToken (Bytes token ∷ []) = token ≢ []
AreAllowed negotiated AckFrequency values = IsTrue negotiated
AreAllowed negotiated ImmediateAck values = IsTrue negotiated
AreAllowed negotiated name values = ⊤

-- The frame is allowed, with the ACK frequency extension or without it.
abbrev pub IsAllowed : Bool → Meaning → Type 0
IsAllowed negotiated frame = AreAllowed negotiated frame.name frame.values

-- the rules by which a reader finds that
abbrev pub rfc_rules : Bool → Rules
rfc_rules negotiated = record {
  short_types = true;
  data_limit = true;
  stream_limit = true;
  tokens = true;
  no_ack_frequency = not negotiated;
}

-- The payload isn't empty, is these frames, their types in the shortest encodings (section 12.4), and each frame is
-- allowed (section 19), with the ACK frequency extension or without it.
pub record IsRfcPayload (negotiated : Bool) (frames : List TypedFrame) (payload : List ℕ) : Type 0 where
  pub some : payload ≢ []
  pub encoded : AreFrames true frames payload
  pub allowed : All (IsAllowed negotiated) (map frame_in frames)

-- these frames, and no error after them
abbrev pub without_error : List TypedFrame → Checked
without_error frames = record { frames = frames; error = None }

-- these frames, and then this error
abbrev pub with_error : List TypedFrame → Invalid → Checked
with_error frames reported = record { frames = frames; error = Some reported }

-- ---- the first thing in a payload that isn't allowed

-- a type without a row, or of the ACK frequency extension, if that wasn't negotiated (section 12.4)
abbrev pub IsUnknown : Bool → ℕ → Type 0
IsUnknown negotiated t = (row_of t ≡ None) ⊎ ((negotiated ≡ false) × (is_of_ack_frequency t ≡ true))

-- a row of this type, and its extension, if it belongs to one, was negotiated
abbrev pub IsKnown : Bool → ℕ → Row → Type 0
IsKnown negotiated t r = (row_of t ≡ Some r) × ((negotiated ≡ true) ⊎ (is_of_ack_frequency t ≡ false))

-- what is reported of a frame that isn't allowed: its type is unknown, its token is empty, or a limit is exceeded
abbrev pub reason_for : Name → List ℕ
reason_for AckFrequency = reason_text InvalidFrameId
reason_for ImmediateAck = reason_text InvalidFrameId
reason_for NewToken = reason_text Malformed
reason_for name = codes "limit exceeded"

-- What begins here isn't an allowed frame, and this is reported, with the type. The text leaves open which of several
-- reasons is reported: here the type's, before a field's, before what the fields say; and if no type can be read, the
-- type before is reported.
pub data IsRfcFault (negotiated : Bool) (before : Option ℕ) (bytes : List ℕ) : Invalid → Type 0 where
  cut_type : bytes ≢ [] → NoNumber bytes → IsRfcFault negotiated before bytes (invalid before UnexpectedEnd)
  -- not in its shortest encoding (section 12.4)
  long_type : (t : ℕ) → HasLongType true bytes t → IsRfcFault negotiated before bytes (invalid (Some t) LongType)
  unknown_type : (t : ℕ) → BeginsWithType true bytes t (λ fields. IsUnknown negotiated t)
      → IsRfcFault negotiated before bytes (invalid (Some t) InvalidFrameId)
  -- a field of its row can't be read
  field : (t : ℕ) (r : Row) (reason : Fault) → IsKnown negotiated t r
      → BeginsWithType true bytes t (λ fields. StopsWithin r.fields [] fields reason)
      → IsRfcFault negotiated before bytes (invalid (Some t) reason)
  -- a whole frame: an open one takes all that is left
  not_allowed : (found : TypedFrame) (front back : List ℕ) → bytes ≡ front ++ back → IsFrame true found front
      → (is_open found.type ≡ true → back ≡ []) → ¬ (IsAllowed negotiated found.frame)
      → IsRfcFault negotiated before bytes (record { type = Some found.type; reason = reason_for found.frame.name })

-- The payload is allowed frames, which aren't open, and then something that isn't an allowed frame.
pub record IsRfcError (negotiated : Bool) (frames : List TypedFrame) (payload : List ℕ) (reported : Invalid) : Type 0
  where
    pub front : List ℕ
    pub back : List ℕ
    pub parts : payload ≡ front ++ back
    pub encoded : AreFrames true frames front
    pub closed : AreClosed frames
    pub allowed : All (IsAllowed negotiated) (map frame_in frames)
    pub fault : IsRfcFault negotiated (last_type None frames) back reported

-- ---- lists of transport parameters

-- One more entry of a list, whose last entry comes first: its parameter is unknown, and ignored (section 7.4.2); or it
-- wasn't given before (section 7.4), and has a value, in which integers may have any width (section 16).
abbrev pub Adds : List Given → Entry → List Given → Type 0
Adds before entry after =
    (((id : TransportParameterId) → ¬ (IsKnownParameter id entry.number)) × (after ≡ before))
    ⊎ ((id : TransportParameterId) × (value : ParameterValue) × IsKnownParameter id entry.number × ¬ (IsGiven id before)
    × IsEncoded (in_any_width (row_of_parameter id).kind) value entry.bytes
    × (after ≡ record { id = id; value = value } ∷ before))

abbrev pub AddUp : List Entry → List Given → Type 0
AddUp [] given = given ≡ []
AddUp (last ∷ earlier) given = (before : List Given) × AddUp earlier before × Adds before last given

-- The list is entries (section 18), with the values in the record, which this side may receive (section 18.2). Which
-- connection ids have to be there, and that they are the right ones (sections 7.3 and 18.2), the connection checks. The
-- text leaves open that an address of neither family is given: here it may not. min_ack_delay is an extension's, and is
-- checked wherever it is given.
pub record IsRfcList (side : Side) (params : TransportParameters) (list : List ℕ) : Type 0 where
  pub entries : List Entry
  pub given : List Given
  pub encoded : AreEntries entries list
  pub adds_up : AddUp entries given
  pub is_record : IsRecord given params
  pub valid : IsValid side params

-- Why the entries end here, after these values: an entry is cut off; or its parameter was given before (section 7.4);
-- or its bytes are no value of it.
abbrev pub StopsAdding : List Given → List ℕ → Error → Type 0
StopsAdding before remaining error =
    (IsCutEntry remaining × (error ≡ refused.Malformed))
    ⊎ ((entry : Entry) × (id : TransportParameterId) × (front back : List ℕ) × (remaining ≡ front ++ back)
    × IsEntry entry.number entry.bytes front × IsKnownParameter id entry.number
    × ((IsGiven id before × (error ≡ refused.Malformed))
    ⊎ (¬ (IsGiven id before) × IsNoValue (in_any_width (row_of_parameter id).kind) entry.bytes error)))

-- The list is rejected with this error: of its first entry that isn't allowed, or, if all are, of the record, which
-- this side may not receive.
abbrev pub IsRfcListError : Side → List ℕ → Error → Type 0
IsRfcListError side list error =
    ((entries : List Entry) × (given : List Given) × (front back : List ℕ) × (list ≡ front ++ back)
    × AreEntries entries front × AddUp entries given × (back ≢ []) × StopsAdding given back error)
    ⊎ ((entries : List Entry) × (given : List Given) × (params : TransportParameters) × AreEntries entries list
    × AddUp entries given × IsRecord given params × ¬ (IsValid side params) × (error ≡ refused.IllegalValue))
