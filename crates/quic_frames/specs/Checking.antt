-- How far an iterator with rules has read its payload, and what it returns next.
use Rattle.std.specs.Prelude.{◌≡◌, ◌⊎◌, ℕ, List, Option, Some, None, Result, Ok, Err, true, false}
use Rattle.quic_errors.specs.declared.invalid_frame.InvalidFrame.{InvalidFrame}
use Rattle.quic_frame_fields.specs.Reading.{Invalid, invalid}
use Rattle.quic_frames.specs.declared.frame.Frame.{Frame}
use Rattle.quic_frames.specs.declared.frame.rules.Rules.{Rules}
use Rattle.quic_frames.specs.declared.frame.rules.Breach.{Breach}
use Rattle.quic_frames.specs.IterState.{IterState}
use Rattle.quic_frames.specs.Rules.{Checked, Keeps, IsCheckedAfter, breach_of, fault_by, invalid_by}
use Rattle.quic_frames.specs.Walk.{Finds, LacksFrame, IsSpent, rest_of, first_of, resumed, invalid_of}

-- the rules, and where the iterator is
pub record CheckedState : Type 0 where
  pub rules : Rules
  pub place : IterState

-- at the front of a payload
abbrev pub checked_first : Rules → List ℕ → CheckedState
checked_first rules payload = record { rules = rules; place = first_of rules.short_types payload }

-- at a later offset, after a frame of this type
abbrev pub checked_at : Rules → List ℕ → ℕ → Option ℕ → CheckedState
checked_at rules payload offset last =
    record { rules = rules; place = resumed payload offset last rules.short_types }

-- What the iterator still returns is this reading, which is that of the rest of the payload.
pub record IsCheckedLeft (state : CheckedState) (checked : Checked) : Type 0 where
  pub goes_on : state.place.is_broken ≡ false
  pub reads : IsCheckedAfter state.rules state.place.last (rest_of state.place) checked

-- No frame begins the rest, and this is reported under rules.
pub record LacksBy (rules : Rules) (state : IterState) (reported : Invalid) : Type 0 where
  pub plain : Invalid
  pub lacks : LacksFrame state plain
  pub says : reported ≡ invalid lacks.type (fault_by rules lacks.type lacks.reason)

-- The frame at the front of the rest breaks a rule, and this is reported.
pub record BreaksRule (rules : Rules) (state : IterState) (reported : Invalid) : Type 0 where
  pub frame : Frame
  pub next : IterState
  pub finds : Finds state frame next
  pub breach : Breach
  pub breaks : breach_of rules finds.found.frame ≡ Some breach
  pub says : reported ≡ invalid_by finds.found breach

-- No frame is returned, and this is reported: no frame begins the rest, or the one that does breaks a rule.
abbrev pub IsRefusedFrame : Rules → IterState → Invalid → Type 0
IsRefusedFrame rules state reported = LacksBy rules state reported ⊎ BreaksRule rules state reported

-- The frame at the front of the rest was found, and breaks no rule.
pub record FindsKept (rules : Rules) (old : IterState) (frame : Frame) (new : IterState) : Type 0 where
  pub finds : Finds old frame new
  pub kept : Keeps rules finds.found

-- what a call of next does
abbrev pub AdvancesBy : CheckedState → Option (Result Frame InvalidFrame) → CheckedState → Type 0
AdvancesBy old None new = IsSpent old.place × (new ≡ old)
AdvancesBy old (Some (Ok frame)) new = FindsKept old.rules old.place frame new.place × (new.rules ≡ old.rules)
AdvancesBy old (Some (Err error)) new = IsRefusedFrame old.rules old.place (invalid_of error)
    × (new ≡ record old { place = record old.place { is_broken = true } })
