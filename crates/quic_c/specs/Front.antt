-- The frame at the front of a payload, and the ranges of an ACK as gap and length.
use Rattle.std.specs.Prelude.{◌≡◌, ℕ, ◌+◌, ◌-◌, ◌<◌, ◌≤◌, ◌⊎◌, ◌↔◌, ℤ, pos, List, [], ◌∷◌, length, take, drop, nat_lt, Option, None, Some, if◌then◌else◌}
use Rattle.quic_frames.specs.declared.frame.Frame.{Frame}
use Rattle.quic_frames.specs.declared.frame.Frame.TheVariants as frames
use Rattle.quic_frame_fields.specs.declared.frame.ack.Ack.{Ack}
use Rattle.quic_frame_fields.specs.Acks.{ranges_acked}
use Rattle.quic_frame_fields.specs.Reading.{Invalid, Item, Whole, Broken}
use Rattle.quic_frames.specs.IterState.{IterState}
use Rattle.quic_frames.specs.Padding.{PassesPadding}
use Rattle.quic_frames.specs.declared.frame.rules.Rules.{Rules}
use Rattle.quic_frames.specs.Checking.{IsRefusedFrame}
use Rattle.quic_frames.specs.Rules.{Keeps}
use Rattle.quic_frames.specs.Walk.{first_of, Finds}
use Rattle.quic_c_words.specs.declared.words.CFrame.{CFrame}
use Rattle.quic_c_words.specs.declared.words.CGap.{CGap}
use Rattle.quic_c_words.specs.Gaps.{gaps_below}
use Rattle.quic_c_words.specs.Shown.{frame_kind_of, frame_words, invalid_words, type_word, counts_flag}
use Rattle.quic_results.specs.declared.results.Failure.TheVariants as failure
use Rattle.quic_results.specs.Results.{failed, frame_failure}

-- So many entries were filled with the first of the ranges below one whose least number is low, and those after them
-- don't change; more were not filled, as there was no room or no range.
pub record FillsGaps (low : ℕ) (ranges : List (ℕ × ℕ)) (before after : List CGap) (count : ℕ) : Type 0 where
  pub few : count ≤ length before
  pub one_each : count ≤ length ranges
  pub filled : take count after ≡ gaps_below low (take count ranges)
  pub kept : drop count after ≡ drop count before
  pub full : count < length ranges → count ≡ length before

-- 4: there are more ranges than entries were filled
abbrev pub more_flag : ℕ → List (ℕ × ℕ) → ℕ
more_flag count ranges = if nat_lt count (length ranges) then 4 else 0

-- The words of an ACK of this type up to a place; the offset of its data is how many entries were filled with the
-- ranges below its first.
pub record ShowsAck (stop type : ℕ) (ack : Ack) (before : List CGap) (words : CFrame) (after : List CGap) : Type 0 where
  pub least : ℕ
  pub below : List (ℕ × ℕ)
  pub ranges : ranges_acked ack ≡ (least, ack.largest) ∷ below
  pub gaps : FillsGaps least below before after words.data_offset
  pub others : words ≡ record (frame_words 0 stop type (frames.Ack ack))
      { flags = counts_flag ack.ecn + more_flag words.data_offset below; data_offset = words.data_offset }

-- The words of a frame of this type up to a place; only an ACK fills entries.
abbrev pub ShowsFront : ℕ → ℕ → Frame → List CGap → CFrame → List CGap → Type 0
ShowsFront stop type (frames.Ack a) before words after = ShowsAck stop type a before words after
ShowsFront stop type frame before words after = (words ≡ frame_words 0 stop type frame) × (after ≡ before)

-- The frame at the front is given as the iterator over the payload gives it, and breaks no rule. A frame of PADDING
-- (RFC 9000, section 19.1) includes the PADDING that follows, each byte of which is a frame. The rest of the payload
-- begins where it ends.
pub record ReadsFront (rules : Rules) (payload : List ℕ) (before : List CGap) (stop : ℕ) (words : CFrame)
    (after : List CGap) : Type 0 where
  pub frame : Frame
  pub next : IterState
  pub rest : IterState
  pub finds : Finds (first_of rules.short_types payload) frame next
  pub kept : Keeps rules finds.found
  pub run : frame_kind_of frame ≡ 0 → (more : ℕ) × PassesPadding next more rest
  pub one : 0 < frame_kind_of frame → rest ≡ next
  pub ends : stop ≡ rest.offset
  pub shows : ShowsFront stop finds.found.type frame before words after

-- The bytes don't begin with a valid frame, or with one that breaks a rule, and the reason is returned, with the type.
pub record ReportsNone (rules : Rules) (payload : List ℕ) (result : ℤ) (words : CFrame) : Type 0 where
  pub reported : Invalid
  pub first : IsRefusedFrame rules (first_of rules.short_types payload) reported
  pub reason : result ≡ failed (frame_failure reported.reason)
  pub is : words ≡ invalid_words 0 (type_word reported.type)

-- What a call for the frame at the front returns and leaves: where the frame ends, with its words; that there is no
-- byte, and nothing changes; or the reason why a frame isn't given, with its type, and no entry changes.
pub record AnswersRead (rules : Rules) (payload : List ℕ) (before : CFrame) (room : List CGap) (result : ℤ)
    (after : CFrame) (gaps : List CGap) : Type 0 where
  pub returns : (result ≡ failed failure.PayloadEmpty) ⊎ ReportsNone rules payload result after
      ⊎ ((stop : ℕ) × (result ≡ pos stop) × ReadsFront rules payload room stop after gaps)
  pub empty : (result ≡ failed failure.PayloadEmpty) ↔ (payload ≡ [])
  pub same : result ≡ failed failure.PayloadEmpty → after ≡ before
  pub kept : ((stop : ℕ) × (result ≡ pos stop)) ⊎ (gaps ≡ room)

-- ---- reading on after a frame

-- an item whose places count from so many bytes before it
abbrev pub moved_by : ℕ → Item → Item
moved_by count (Whole start stop found) = Whole (count + start) (count + stop) found
moved_by count (Broken reported) = Broken reported

abbrev pub or_else : Option ℕ → Option ℕ → Option ℕ
or_else None before = before
or_else (Some type) before = Some type

-- what is reported first if the bytes end within a type: the type before
abbrev pub reported_behind : Option ℕ → List Item → List Item
reported_behind before [] = []
reported_behind before (Whole start stop found ∷ items) = Whole start stop found ∷ items
reported_behind before (Broken reported ∷ items) =
    Broken (record reported { type = or_else reported.type before }) ∷ items
