-- What is stored by callers that walk over a whole payload (RFC 9000, section 12.4), or over the ranges of an ACK.
use Rattle.std.specs.Prelude.{◌≡◌, ℕ, ◌+◌, ◌<◌, ◌≤◌, ◌⊎◌, ℤ, pos, List, [], ◌∷◌, ◌++◌, length, map, take, drop, replicate, slice_index, Bool, None, Some}
use Rattle.quic_frame_fields.specs.Payload.{TypedFrame}
use Rattle.quic_frame_fields.specs.Reading.{Invalid}
use Rattle.quic_frames.specs.declared.frame.Frame.{Frame}
use Rattle.quic_frames.specs.declared.frame.Frame.TheVariants as frames
use Rattle.quic_frames.specs.Meaning.{meaning_of}
use Rattle.quic_frames.specs.Rules.{Checked}
use Rattle.quic_frames.specs.Walk.{Stands}
use Rattle.quic_c_words.specs.declared.words.CFrame.{CFrame}
use Rattle.quic_c_words.specs.declared.words.CRange.{CRange}
use Rattle.quic_c.specs.Filling.{Shows}
use Rattle.quic_c_words.specs.Shown.{type_word, frame_words, invalid_words}
use Rattle.quic_results.specs.Results.{failed, frame_failure}

-- an offset in a payload, and the frames from there on
pub record Ahead : Type 0 where
  pub offset : ℕ
  pub frames : List TypedFrame

abbrev pub ahead : ℕ → List TypedFrame → Ahead
ahead offset frames = record { offset = offset; frames = frames }

-- PADDING, with its type in one byte
abbrev pub padding : TypedFrame
padding = record { type = 0; frame = meaning_of frames.Padding }

-- The entry has the words of the first frame that is ahead, which stands at the offset, and ends behind as many more of
-- PADDING, a byte each.
pub record ShowsFirst (strict : Bool) (payload : List ℕ) (more : ℕ) (old : Ahead) (entry : CFrame)
    (new : Ahead) : Type 0 where
  pub found : TypedFrame
  pub frame : Frame
  pub stop : ℕ
  pub parts : old.frames ≡ found ∷ replicate more padding ++ new.frames
  pub means : found.frame ≡ meaning_of frame
  pub stands : Stands strict payload old.offset stop found
  pub ends : new.offset ≡ stop + more
  pub words : entry ≡ frame_words old.offset new.offset found.type frame

-- an entry for each frame
abbrev pub ShowsFrame : Bool → List ℕ → Ahead → CFrame → Ahead → Type 0
ShowsFrame strict payload = ShowsFirst strict payload 0

-- An entry for each frame, except that one of PADDING (RFC 9000, section 19.1) includes all PADDING that follows.
pub record ShowsRun (strict : Bool) (payload : List ℕ) (old : Ahead) (entry : CFrame) (new : Ahead) : Type 0 where
  pub more : ℕ
  pub first : ShowsFirst strict payload more old entry new
  pub one : 0 < entry.kind → more ≡ 0
  pub run : entry.kind ≡ 0 → new.offset < length payload → 0 < slice_index payload new.offset

-- There is room for no more.
pub record StopsFull (before : List CFrame) (count : ℕ) (last : ℤ) : Type 0 where
  pub result : last ≡ pos 1
  pub full : count ≡ length before

-- The payload ends.
pub record StopsAtEnd (before : List CFrame) (count : ℕ) (last : ℤ) (after : List CFrame) (checked : Checked)
    (end : Ahead) : Type 0 where
  pub result : last ≡ pos 0
  pub none : checked.error ≡ None
  pub all : end.frames ≡ []
  pub kept : drop count after ≡ drop count before

-- The payload's error comes next: its reason is returned, and its type is in the next entry.
pub record StopsAtError (before : List CFrame) (count : ℕ) (last : ℤ) (after : List CFrame) (checked : Checked)
    (end : Ahead) : Type 0 where
  pub reported : Invalid
  pub result : last ≡ failed (frame_failure reported.reason)
  pub error : checked.error ≡ Some reported
  pub all : end.frames ≡ []
  pub room : count < length before
  pub entry : drop count after ≡ invalid_words end.offset (type_word reported.type) ∷ drop (count + 1) before

-- So many entries were stored, which show the first of the frames that the payload is read as, and the last result says
-- why there are no more.
pub record StoresFrames (shows : Ahead → CFrame → Ahead → Type 0) (before : List CFrame) (count : ℕ) (last : ℤ)
    (after : List CFrame) (checked : Checked) : Type 0 where
  pub end : Ahead
  pub few : count ≤ length before
  pub shown : Shows shows (ahead 0 checked.frames) (take count after) end
  pub why : StopsFull before count last ⊎ StopsAtEnd before count last after checked end
      ⊎ StopsAtError before count last after checked end

-- ---- the ranges of an ACK

-- the entry for a range by its least and its greatest number
abbrev pub range_entry : ℕ × ℕ → CRange
range_entry range = record { start = range.0; end = range.1 + 1 }

-- So many entries were stored, which are those of the first of these ranges, in order: all of them, and then 0 was
-- returned; or as many as there is room for.
pub record StoresRanges (ranges : List (ℕ × ℕ)) (before : List CRange) (count : ℕ) (last : ℤ)
    (after : List CRange) : Type 0 where
  pub few : count ≤ length before
  pub are : take count after ≡ map range_entry (take count ranges)
  pub kept : drop count after ≡ drop count before
  pub why : ((last ≡ pos 0) × (count ≡ length ranges))
      ⊎ ((last ≡ pos 1) × (count ≡ length before) × (count ≤ length ranges))
