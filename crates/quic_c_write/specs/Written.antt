-- The frames that words describe, and what the call that writes them answers.
use Rattle.std.specs.Prelude.{◌≡◌, ℕ, ◌+◌, ◌<◌, ◌≤◌, ◌⊎◌, ℤ, pos, List, [], ◌++◌, length, take, drop, Bool, None, Some}
use Rattle.quic_frame_fields.specs.Shortest.{shortest_frame}
use Rattle.quic_frames.specs.declared.frame.Frame.{Frame}
use Rattle.quic_frames.specs.declared.frame.Frame.TheVariants as frames
use Rattle.quic_frames.specs.InRange.{IsNoAck, IsTypedFrame, CanStand}
use Rattle.quic_frames.specs.Meaning.{meaning_of}
use Rattle.quic_frames.specs.Rules.{breach_of, breach_text}
use Rattle.quic_frames.specs.declared.frame.rules.Breach.{Breach}
use Rattle.quic_c_words.specs.declared.words.CFrame.{CFrame}
use Rattle.quic_c_words.specs.Shown.{frame_kind_of, flags_of, frame_numbers_of, data_of, tail_of, is_last, rules_in}
use Rattle.quic_results.specs.declared.results.Failure.TheVariants as failure
use Rattle.quic_results.specs.Results.{failed, frame_failure}

-- the reset token that follows the data of a NEW_CONNECTION_ID, which are its id
abbrev pub token_of : Frame → List ℕ
token_of (frames.NewConnectionId n) = n.reset_token
token_of frame = []

-- The words describe the frame, whose data are in the bytes at the place in the words, followed by the reset token. If
-- there are neither, the place doesn't matter; where the frame begins and ends in a payload never does.
pub record DescribesFrame (words : CFrame) (bytes : List ℕ) (frame : Frame) : Type 0 where
  pub kind : words.kind ≡ frame_kind_of frame
  pub flags : words.flags ≡ flags_of frame
  pub numbers : words.numbers ≡ frame_numbers_of frame
  pub count : words.data_len ≡ length (data_of frame)
  pub within : 0 < words.data_len + tail_of frame → words.data_offset + words.data_len + tail_of frame ≤ length bytes
  pub content : take words.data_len (drop words.data_offset bytes) ≡ data_of frame
  pub token : take (tail_of frame) (drop words.data_len (drop words.data_offset bytes)) ≡ token_of frame

-- The words describe a frame that can be written there, as the last of its payload or not, and that is no ACK.
pub record CanWriteFrame (words : CFrame) (bytes : List ℕ) (last : Bool) (frame : Frame) : Type 0 where
  pub described : DescribesFrame words bytes frame
  pub kind : IsNoAck frame
  pub typed : IsTypedFrame frame
  pub stands : CanStand last frame

-- The frame breaks no rule of these flags, which are those by which frames are read, except that 1 has another meaning.
abbrev pub KeepsFlags : ℕ → Frame → Type 0
KeepsFlags flags frame = breach_of (rules_in flags) (meaning_of frame) ≡ None

-- The bytes of such a frame, which breaks no rule, are at the front, the bytes after them didn't change, and they are
-- counted.
pub record WroteFrame (words : CFrame) (bytes : List ℕ) (flags : ℕ) (old new : List ℕ) (written : ℕ) : Type 0 where
  pub frame : Frame
  pub can : CanWriteFrame words bytes (is_last flags) frame
  pub kept : KeepsFlags flags frame
  pub count : written ≡ length (shortest_frame (is_last flags) (meaning_of frame))
  pub front : new ≡ shortest_frame (is_last flags) (meaning_of frame) ++ drop written old

-- There is less room than such a frame needs, and how much it needs was reported.
pub record FrameNeedsMore (words : CFrame) (bytes : List ℕ) (flags : ℕ) (old : List ℕ) (needed : ℕ) : Type 0 where
  pub frame : Frame
  pub can : CanWriteFrame words bytes (is_last flags) frame
  pub kept : KeepsFlags flags frame
  pub count : needed ≡ length (shortest_frame (is_last flags) (meaning_of frame))
  pub full : length old < needed

-- Such a frame breaks a rule, and what a reader reports of it is returned.
pub record BreaksRule (words : CFrame) (bytes : List ℕ) (flags : ℕ) (result : ℤ) : Type 0 where
  pub frame : Frame
  pub can : CanWriteFrame words bytes (is_last flags) frame
  pub breach : Breach
  pub breaks : breach_of (rules_in flags) (meaning_of frame) ≡ Some breach
  pub reason : result ≡ failed (frame_failure (breach_text breach))

-- The words describe no such frame.
abbrev pub DescribesNoFrame : CFrame → List ℕ → Bool → Type 0
DescribesNoFrame words bytes last = (frame : Frame) → CanWriteFrame words bytes last frame → ⊥

-- The result, and what the call leaves, are right for the words and these bytes.
pub record IsAnswer (words : CFrame) (bytes : List ℕ) (flags : ℕ) (result : ℤ) (old new : List ℕ)
    (written : ℕ) : Type 0 where
  pub returns : (result ≡ pos 0) ⊎ (result ≡ failed failure.NoRoom) ⊎ (result ≡ failed failure.Argument)
      ⊎ BreaksRule words bytes flags result
  pub wrote : result ≡ pos 0 → WroteFrame words bytes flags old new written
  pub room : result ≡ failed failure.NoRoom → FrameNeedsMore words bytes flags old written
  pub refused : result ≡ failed failure.Argument → DescribesNoFrame words bytes (is_last flags)
