-- What the calls answer.
use Rattle.std.specs.Prelude.{◌≡◌, ℕ, ◌<◌, ◌⊎◌, ◌↔◌, ℤ, pos, length, List}
use Rattle.quic_frames.specs.declared.frame.Frame.{Frame}
use Rattle.quic_frame_fields.specs.Reading.{Invalid}
use Rattle.quic_frames.specs.declared.frame.rules.Rules.{Rules}
use Rattle.quic_frames.specs.Checking.{IsRefusedFrame}
use Rattle.quic_frames.specs.Rules.{Keeps}
use Rattle.quic_frames.specs.Walk.{Finds, IsSpent}
use Rattle.quic_c_words.specs.declared.words.CFrameIter.{CFrameIter}
use Rattle.quic_c_words.specs.declared.words.CFrame.{CFrame}
use Rattle.quic_c_words.specs.Shown.{state_of, type_word, frame_words, invalid_words}
use Rattle.quic_results.specs.declared.results.Failure.TheVariants as failure
use Rattle.quic_results.specs.Results.{failed, frame_failure}

-- A frame was read at the place in the words that breaks no rule, and its words were given.
pub record GivesFrameWords (rules : Rules) (old : CFrameIter) (payload : List ℕ) (new : CFrameIter)
    (out : CFrame) : Type 0 where
  pub frame : Frame
  pub finds : Finds (state_of old payload) frame (state_of new payload)
  pub kept : Keeps rules finds.found
  pub words : out ≡ frame_words old.offset new.offset finds.found.type frame

-- The next frame isn't given, and the reason is returned, with the type; nothing is left.
pub record GivesInvalid (rules : Rules) (old : CFrameIter) (payload : List ℕ) (result : ℤ) (new : CFrameIter)
    (out : CFrame) : Type 0 where
  pub reported : Invalid
  pub first : IsRefusedFrame rules (state_of old payload) reported
  pub reason : result ≡ failed (frame_failure reported.reason)
  pub over : new ≡ record old { ended = 1 }
  pub words : out ≡ invalid_words old.offset (type_word reported.type)

-- What a call for the next frame returns and leaves, by rules: 1 with the frame; 0 if none is left; the reason why a
-- frame isn't given, with its type; that the place is outside of the payload. Nothing changes with 0 and outside, and
-- the flags, by which the next call reads, never change.
pub record AnswersNext (rules : Rules) (old : CFrameIter) (payload : List ℕ) (before : CFrame) (result : ℤ)
    (new : CFrameIter) (after : CFrame) : Type 0 where
  pub returns : (result ≡ pos 1) ⊎ (result ≡ pos 0) ⊎ (result ≡ failed failure.Place)
      ⊎ GivesInvalid rules old payload result new after
  pub frame : result ≡ pos 1 → GivesFrameWords rules old payload new after
  pub end : result ≡ pos 0 → IsSpent (state_of old payload)
  pub outside : (result ≡ failed failure.Place) ↔ (length payload < old.offset)
  pub same : (result ≡ pos 1) ⊎ GivesInvalid rules old payload result new after ⊎ ((new ≡ old) × (after ≡ before))
  pub flags : new.flags ≡ old.flags
