-- How far an iterator has read its payload, and what it returns next.
use Rattle.std.specs.Prelude.{◌≡◌, ⊤, ◌↔◌, ℕ, ◌-◌, ◌<◌, ◌≤◌, List, [], ◌∷◌, ◌⊎◌, length, drop, slice_range, Option, Some, None, Result, Ok, Err, IsErr, IfErr, IfOk, codes, Bool, true, false, if◌then◌else◌}
use Rattle.quic_base.specs.Number.{AreBytes}
use Rattle.quic_base.specs.One.{ExactlyOne}
use Rattle.quic_frames.specs.declared.frame.Frame.{Frame}
use Rattle.quic_frames.specs.declared.frame.Frame.TheVariants as frames
use Rattle.quic_errors.specs.declared.invalid_frame.InvalidFrame.{InvalidFrame}
use Rattle.quic_errors.specs.declared.transport_error.Error.{Error}
use Rattle.quic_errors.specs.Codes.{IsError, protocol_violation}
use Rattle.quic_frame_fields.specs.AckPlace.{BlocksStand}
use Rattle.quic_frame_fields.specs.Field.{Value, Number, Bytes, Ranges}
use Rattle.quic_frame_fields.specs.Table.{is_open}
use Rattle.quic_frame_fields.specs.declared.frame.fault.Fault.{Fault}
use Rattle.quic_frame_fields.specs.Payload.{TypedFrame, IsFrame, IsNoFrame, Reading, IsReadingAfter, IsReadingOf, item_count}
use Rattle.quic_frame_fields.specs.Reading.{Item, Whole, Broken, Invalid, invalid, items_of}
use Rattle.quic_frames.specs.Meaning.{meaning_of}
use Rattle.quic_frames.specs.InRange.{HasNoTypeZero}
use Rattle.quic_frames.specs.IterState.{IterState}

-- at the front of a payload
abbrev pub first_of : Bool → List ℕ → IterState
first_of strict payload = record { strict = strict; payload = payload; offset = 0; last = None; is_broken = false }

-- at a later offset, after a frame of this type
abbrev pub resumed : List ℕ → ℕ → Option ℕ → Bool → IterState
resumed payload offset last strict = record
    { strict = strict; payload = payload; offset = offset; last = last; is_broken = false }

-- the bytes that weren't read yet
abbrev pub rest_of : IterState → List ℕ
rest_of state = drop state.offset state.payload

-- What the iterator still returns is this reading, which is that of the rest of the payload.
pub record IsLeft (state : IterState) (reading : Reading) : Type 0 where
  pub goes_on : state.is_broken ≡ false
  pub reads : IsReadingAfter state.strict state.last (rest_of state) reading

-- Nothing is left: an invalid frame was met, or the payload was read to its end.
abbrev pub IsSpent : IterState → Type 0
IsSpent state = (state.is_broken ≡ true) ⊎ (state.offset ≡ length state.payload)

-- how many bytes were not read yet, and so at most how many items are left; 0 after an invalid frame
abbrev pub bytes_left : IterState → ℕ
bytes_left state = if state.is_broken then 0 else length state.payload - state.offset

abbrev pub bytes_of_value : Value → Option (List ℕ)
bytes_of_value (Number n) = None
bytes_of_value (Bytes bytes) = Some bytes
bytes_of_value (Ranges ranges) = None

abbrev pub last_bytes : Option (List ℕ) → List Value → Option (List ℕ)
last_bytes before [] = before
last_bytes before (value ∷ values) = last_bytes (bytes_of_value value) values

-- The frame is in the payload from start to stop, and if its last value is bytes, they end there too.
pub record Stands (strict : Bool) (payload : List ℕ) (start stop : ℕ) (found : TypedFrame) : Type 0 where
  pub some : start < stop
  pub within : stop ≤ length payload
  pub encoded : IsFrame strict found (slice_range payload start stop)
  pub borrowed : (bytes : List ℕ) → last_bytes None found.frame.values ≡ Some bytes
      → slice_range payload (stop - length bytes) stop ≡ bytes

-- The bytes of an ACK's blocks are those in the bytes of its frame, which has this type.
abbrev pub StandsAsRead : ℕ → Frame → List ℕ → Type 0
StandsAsRead type (frames.Ack a) bytes = BlocksStand type a bytes
StandsAsRead type frame bytes = ⊤

-- The frame at the front of the rest was found, from the offset before to the offset after.
pub record Finds (old : IterState) (frame : Frame) (new : IterState) : Type 0 where
  pub goes_on : old.is_broken ≡ false
  pub octets : AreBytes (rest_of old)
  pub found : TypedFrame
  pub says : found.frame ≡ meaning_of frame
  pub distinct : HasNoTypeZero frame
  pub comes : new ≡ record old { offset = new.offset; last = Some found.type }
  pub stands : Stands old.strict old.payload old.offset new.offset found
  pub blocks : StandsAsRead found.type frame (slice_range old.payload old.offset new.offset)
  pub ends : is_open found.type ≡ true → new.offset ≡ length old.payload

abbrev pub invalid_of : InvalidFrame → Invalid
invalid_of i = record { type = i.ty; reason = i.reason.now }

abbrev pub reported_of : Option InvalidFrame → Option Invalid
reported_of None = None
reported_of (Some i) = Some (invalid_of i)

-- No frame begins the rest, for this reason.
pub record LacksFrame (state : IterState) (reported : Invalid) : Type 0 where
  pub goes_on : state.is_broken ≡ false
  pub type : Option ℕ
  pub reason : Fault
  pub no_frame : IsNoFrame state.strict state.last (rest_of state) type reason
  pub says : reported ≡ invalid type reason

-- No frame begins the rest, and that was reported.
pub record Fails (old : IterState) (error : InvalidFrame) (new : IterState) : Type 0 where
  pub lacks : LacksFrame old (invalid_of error)
  pub octets : AreBytes (rest_of old)
  pub comes : new ≡ record old { is_broken = true }

-- what a call of next does
abbrev pub Advances : IterState → Option (Result Frame InvalidFrame) → IterState → Type 0
Advances old None new = IsSpent old × (new ≡ old)
Advances old (Some (Ok frame)) new = Finds old frame new
Advances old (Some (Err error)) new = Fails old error new

-- An iterator begins at the front of a payload and returns its one reading, at most an item for each byte; or the
-- payload is empty, and that is reported.
pub record BeginsWalk (strict : Bool) (payload : List ℕ) (result : Result IterState Error) : Type 0 where
  pub empty : IsErr result ↔ (payload ≡ [])
  pub refusal : IfErr result (λ e. IsError e protocol_violation (codes "packet payload is empty"))
  pub first : IfOk result (λ it. it ≡ first_of strict payload)
  pub one : ExactlyOne (IsReadingOf strict payload)
  pub gives : IfOk result (λ it. (reading : Reading) → IsReadingOf strict payload reading → IsLeft it reading)
  pub few : (reading : Reading) → IsReadingOf strict payload reading → item_count reading ≤ length payload

-- ---- what is left as a list of items, which laws and printed texts cite

-- the items that are left
abbrev pub left : IterState → List Item
left state = if state.is_broken then []
    else items_of state.strict state.offset state.last (rest_of state)

-- an item without its offsets
abbrev pub unplaced : Item → Result TypedFrame Invalid
unplaced (Whole start stop found) = Ok found
unplaced (Broken i) = Err i

abbrev pub given : TypedFrame → Result TypedFrame Invalid
given found = Ok found
