-- Frames stored in a caller's array, many with one call (RFC 9000, section 19).
use Rattle.std.specs.Prelude.{◌≡◌, ◌≢◌, ℕ, ◌<◌, ◌≤◌, ◌⊎◌, ◌↔◌, ℤ, pos, List, [], ◌∷◌, length, take, drop, Option, Bool, true, false}
use Rattle.quic_frames.specs.declared.frame.Frame.{Frame}
use Rattle.quic_frame_fields.specs.Reading.{Invalid}
use Rattle.quic_frames.specs.IterState.{IterState}
use Rattle.quic_frames.specs.declared.frame.rules.Rules.{Rules}
use Rattle.quic_frames.specs.Checking.{IsRefusedFrame}
use Rattle.quic_frames.specs.Rules.{Keeps}
use Rattle.quic_frames.specs.Walk.{Finds, IsSpent, first_of}
use Rattle.quic_frames.specs.Padding.{PassesPadding}
use Rattle.quic_c_words.specs.declared.words.CFrameIter.{CFrameIter}
use Rattle.quic_c_words.specs.declared.words.CFrame.{CFrame}
use Rattle.quic_c_words.specs.Shown.{state_of, frame_kind_of, frame_words, at_front, rules_in}
use Rattle.quic_c_words.specs.declared.words.CRange.{CRange}
use Rattle.quic_c_words.specs.declared.words.CRangeIter.{CRangeIter}
use Rattle.quic_c.specs.Answers.{GivesInvalid}
use Rattle.quic_c.specs.Ranges.{GivesRange, LacksRange}
use Rattle.quic_results.specs.declared.results.Failure.TheVariants as failure
use Rattle.quic_results.specs.Results.{failed}

-- One entry describes a frame that breaks no rule; an entry of PADDING (RFC 9000, section 19.1) includes the PADDING
-- that follows, each byte of which is a frame.
pub record GivesEntry (rules : Rules) (old : IterState) (entry : CFrame) (new : IterState) : Type 0 where
  pub frame : Frame
  pub next : IterState
  pub finds : Finds old frame next
  pub kept : Keeps rules finds.found
  pub run : frame_kind_of frame ≡ 0 → (more : ℕ) × PassesPadding next more new
  pub one : 0 < frame_kind_of frame → new ≡ next
  pub words : entry ≡ frame_words old.offset new.offset finds.found.type frame

-- The entries describe all frames between two places, each by one step from where the one before it ends.
abbrev pub Shows : {P E : Type 0} → (P → E → P → Type 0) → P → List E → P → Type 0
Shows step old [] new = old ≡ new
Shows {P = P} step old (entry ∷ entries) new = (next : P) × step old entry next × Shows step next entries new

-- Nothing is left, or the next frame isn't given.
abbrev pub HasNoFrame : Rules → IterState → Type 0
HasNoFrame rules state = IsSpent state ⊎ ((reported : Invalid) × IsRefusedFrame rules state reported)

-- So many entries were filled, and those after them don't change; more were not filled, as there was no room or no
-- frame.
pub record Fills (rules : Rules) (old : IterState) (before : List CFrame) (new : IterState) (after : List CFrame)
    (count : ℕ) : Type 0 where
  pub few : count ≤ length before
  pub shows : Shows (GivesEntry rules) old (take count after) new
  pub kept : drop count after ≡ drop count before
  pub full : (count ≡ length before) ⊎ HasNoFrame rules new

-- The next frame isn't given: the first entry reports that, and the others don't change.
pub record ReportsInvalid (rules : Rules) (old : CFrameIter) (payload : List ℕ) (before : List CFrame) (result : ℤ)
    (new : CFrameIter) (after : List CFrame) : Type 0 where
  pub entry : CFrame
  pub invalid : GivesInvalid rules old payload result new entry
  pub entries : after ≡ entry ∷ drop 1 before

-- What a call for the next frames returns and leaves, by rules: 1 with how many entries were filled, at least one; 0 if
-- no frame is left; the reason why a frame isn't given, with its type in the first entry; that there is no entry, and
-- the place is in the payload; that it is outside. Nothing changes with the last three except that entry, the count
-- changes only with 1, and the flags, by which the next call reads, never change.
pub record AnswersFill (rules : Rules) (old : CFrameIter) (payload : List ℕ) (before : List CFrame) (count_before : ℕ)
    (result : ℤ) (new : CFrameIter) (after : List CFrame) (count : ℕ) : Type 0 where
  pub returns : (result ≡ pos 1) ⊎ (result ≡ pos 0) ⊎ (result ≡ failed failure.NoRoom) ⊎ (result ≡ failed failure.Place)
      ⊎ ReportsInvalid rules old payload before result new after
  pub frames : result ≡ pos 1
      → (0 < count) × Fills rules (state_of old payload) before (state_of new payload) after count
  pub end : result ≡ pos 0 → IsSpent (state_of old payload)
  pub room : (result ≡ failed failure.NoRoom) ↔ ((old.offset ≤ length payload) × (before ≡ []))
  pub outside : (result ≡ failed failure.Place) ↔ (length payload < old.offset)
  pub same : (result ≡ pos 1) ⊎ ReportsInvalid rules old payload before result new after
      ⊎ ((new ≡ old) × (after ≡ before))
  pub counted : (result ≡ pos 1) ⊎ (count ≡ count_before)
  pub flags : new.flags ≡ old.flags

-- What a call returns and leaves that begins at the front of a payload with these flags, and fills entries with its
-- first frames: 1 with how many were filled, at least one; that the payload is empty; that there is no entry; the
-- reason why the first frame isn't given, with its type in the first entry. Nothing changes with the second and the
-- third, and the count changes only with 1.
pub record AnswersFirst (flags : ℕ) (payload : List ℕ) (old : CFrameIter) (before : List CFrame) (count_before : ℕ)
    (result : ℤ) (new : CFrameIter) (after : List CFrame) (count : ℕ) : Type 0 where
  pub returns : (result ≡ pos 1) ⊎ (result ≡ failed failure.PayloadEmpty) ⊎ (result ≡ failed failure.NoRoom)
      ⊎ ReportsInvalid (rules_in flags) (at_front flags) payload before result new after
  pub frames : result ≡ pos 1
      → (0 < count) × (new.flags ≡ flags)
      × Fills (rules_in flags) (first_of (rules_in flags).short_types payload) before (state_of new payload) after count
  pub empty : (result ≡ failed failure.PayloadEmpty) ↔ (payload ≡ [])
  pub room : (result ≡ failed failure.NoRoom) ↔ ((0 < length payload) × (before ≡ []))
  pub same : (result ≡ pos 1) ⊎ ReportsInvalid (rules_in flags) (at_front flags) payload before result new after
      ⊎ ((new ≡ old) × (after ≡ before))
  pub counted : (result ≡ pos 1) ⊎ (count ≡ count_before)

-- an iterator further on over the same payload
abbrev pub further : IterState → ℕ → Option ℕ → IterState
further state offset last = record state { offset = offset; last = last }

-- one range of an ACK
abbrev pub StepsOver : List ℕ → CRangeIter → CRange → CRangeIter → Type 0
StepsOver payload old range new = GivesRange old payload new range

-- No range is left, or none is there.
abbrev pub HasNoRange : CRangeIter → List ℕ → Type 0
HasNoRange ranges payload = (ranges.left ≡ 0) ⊎ LacksRange ranges payload

-- So many entries were filled with ranges (RFC 9000, section 19.3.1), and those after them don't change; more were not
-- filled, as there was no room or no range.
pub record FillsRanges (old : CRangeIter) (payload : List ℕ) (before : List CRange) (new : CRangeIter)
    (after : List CRange) (count : ℕ) : Type 0 where
  pub few : count ≤ length before
  pub shows : Shows (StepsOver payload) old (take count after) new
  pub kept : drop count after ≡ drop count before
  pub full : (count ≡ length before) ⊎ HasNoRange new payload

-- ---- No public clause cites what follows.

-- One entry was filled, and the iterator goes on behind it.
pub record TakesEntry (rules : Rules) (old : CFrameIter) (payload : List ℕ) (result : ℤ) (new : CFrameIter)
    (entry : CFrame) : Type 0 where
  pub taken : result ≡ pos 1
  pub gives : GivesEntry rules (state_of old payload) entry (state_of new payload)
  pub within : new.offset ≤ length payload
  pub going : new.ended ≡ 0
  pub flags : new.flags ≡ old.flags

-- The next frame isn't given. Nothing changes.
pub record LeavesEntry (rules : Rules) (old : CFrameIter) (payload : List ℕ) (before : CFrame) (result : ℤ)
    (new : CFrameIter) (after : CFrame) : Type 0 where
  pub other : result ≢ pos 1
  pub none : HasNoFrame rules (state_of old payload)
  pub same : new ≡ old
  pub kept : after ≡ before

-- What filling one more entry returns and leaves: only in the first it reports why the next frame isn't given.
abbrev pub AnswersEntry : Rules → Bool → CFrameIter → List ℕ → CFrame → ℤ → CFrameIter → CFrame → Type 0
AnswersEntry rules is_first old payload before result new after = TakesEntry rules old payload result new after
    ⊎ ((is_first ≡ true) × GivesInvalid rules old payload result new after)
    ⊎ ((is_first ≡ false) × LeavesEntry rules old payload before result new after)
