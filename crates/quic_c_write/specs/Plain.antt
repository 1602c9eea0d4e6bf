-- Frames that have nothing but numbers.
use Rattle.std.specs.Prelude.{◌≡◌, ℕ, List, [], Bool, Ok}
use Rattle.quic_frame_fields.specs.Putting.{Puts}
use Rattle.quic_frame_fields.specs.Shortest.{shortest_frame}
use Rattle.quic_frames.specs.declared.frame.Frame.{Frame}
use Rattle.quic_frames.specs.InRange.{IsNoAck, IsTypedFrame, InRange, open_data}
use Rattle.quic_frames.specs.Meaning.{meaning_of}
use Rattle.quic_c_words.specs.declared.words.CFrame.{CFrame}
use Rattle.quic_c_words.specs.Shown.{data_of, flags_of, frame_kind_of, frame_numbers_of, tail_of}
use Rattle.quic_c_write.specs.Written.{KeepsFlags, WroteFrame, token_of}

-- The frame was written whatever the bytes and the flags are: it has neither data nor a token, and breaks no rule.
abbrev pub WroteAnyhow : CFrame → List ℕ → List ℕ → ℕ → Type 0
WroteAnyhow words old new written = (bytes : List ℕ) (flags : ℕ) → WroteFrame words bytes flags old new written

-- ---- No public clause cites what follows.

-- The frame is in range, has nothing but numbers, and breaks no rule.
pub record IsPlain (frame : Frame) : Type 0 where
  pub flags : flags_of frame ≡ 0
  pub content : data_of frame ≡ []
  pub counted : open_data frame ≡ []
  pub tail : tail_of frame ≡ 0
  pub token : token_of frame ≡ []
  pub kind : IsNoAck frame
  pub typed : IsTypedFrame frame
  pub in_range : InRange frame
  pub kept : (flags : ℕ) → KeepsFlags flags frame

-- Such a frame, which has this kind and these numbers, was written at the front, and its bytes were counted.
pub record WritesPlain (kind : ℕ) (numbers old new : List ℕ) (n : ℕ) : Type 0 where
  pub frame : Frame
  pub plain : IsPlain frame
  pub is_kind : kind ≡ frame_kind_of frame
  pub has : numbers ≡ frame_numbers_of frame
  pub puts : (last : Bool) → Puts (Ok n) (shortest_frame last (meaning_of frame)) old new
