-- A walk over a payload by an iterator with rules, whose frames are kept.
use Rattle.std.proofs.Common.{◌≡◌, ℕ, List, [], ◌∷◌, ◌++◌, map, None, Some, refl, subst}
use Rattle.quic_base.specs.Number.{AreBytes}
use Rattle.quic_base.specs.One.{ExactlyOne, ReturnsOne}
use Rattle.quic_errors.specs.declared.invalid_frame.InvalidFrame.{InvalidFrame}
use Rattle.quic_frame_fields.specs.Payload.{TypedFrame}
use Rattle.quic_frames.specs.Checking.{CheckedState, FindsKept, IsRefusedFrame, checked_first}
use Rattle.quic_frames.specs.Least.{frame_in}
use Rattle.quic_frames.specs.Meaning.{meaning_of}
use Rattle.quic_frames.specs.Rules.{IsCheckedOf}
use Rattle.quic_frames.specs.Walk.{invalid_of, IsSpent}
use Rattle.quic_frames.specs.declared.frame.Frame.{Frame}
use Rattle.quic_frames.specs.declared.frame.rules.Rules.{Rules}
use Rattle.quic_frames.proofs.CheckedTurns.{HasReadBy, Lasts, Reads, all_read_by, ended_with, more_read_by, none_read_by, refused_by}
use Rattle.quic_wire.proofs.Walks.{meant_after}
use Rattle.quic_wire.specs.Reading.{IsReturnedUnder}

-- These frames came, break no rule, and are those before the iterator's offset.
pub record HasComeBy (rules : Rules) (payload : List ℕ) (frames : List Frame) (state : CheckedState) : Type 0 where
  pub found : List TypedFrame
  pub same : map meaning_of frames ≡ map frame_in found
  pub read : HasReadBy rules payload found state

pub nothing_yet_by : (rules : Rules) (payload : List ℕ) (state : CheckedState) → state ≡ checked_first rules payload
    → HasComeBy rules payload [] state
nothing_yet_by rules payload state e =
    record { found = []; same = refl; read = none_read_by rules payload state e }

pub one_more_by : (rules : Rules) (payload : List ℕ) (frames : List Frame) (state next : CheckedState) (frame : Frame)
    → HasComeBy rules payload frames state
    → FindsKept state.rules state.place frame next.place × (next.rules ≡ state.rules)
    → HasComeBy rules payload (frames ++ frame ∷ []) next
one_more_by rules payload frames state next frame w step =
    let f = step.0.finds in
    record {
      found = w.found ++ f.found ∷ [];
      same = meant_after frames w.found frame f.found w.same f.says;
      read = more_read_by rules payload w.found state next frame w.read step.0 step.1;
    }

-- ---- the end of the payload, or an error

pub returns_all_by : (rules : Rules) (payload : List ℕ) (frames : List Frame) (state : CheckedState)
    → HasComeBy rules payload frames state → IsSpent state.place → ExactlyOne (IsCheckedOf rules payload)
    → ReturnsOne (IsCheckedOf rules payload) (IsReturnedUnder frames None)
returns_all_by rules payload frames state w spent one = record {
  one = one;
  returned = subst (IsReturnedUnder frames None)
      (one.only (ended_with w.found None) (all_read_by rules payload w.found state w.read spent))
      (record { frames_are = w.same; error_is = refl });
}

pub returns_refused_by : (rules : Rules) (payload : List ℕ) (frames : List Frame) (state : CheckedState)
    (e : InvalidFrame) → Lasts → Reads → AreBytes payload → HasComeBy rules payload frames state
    → IsRefusedFrame state.rules state.place (invalid_of e) → ExactlyOne (IsCheckedOf rules payload)
    → ReturnsOne (IsCheckedOf rules payload) (IsReturnedUnder frames (Some e))
returns_refused_by rules payload frames state e lasts reads fits w refused one = record {
  one = one;
  returned = subst (IsReturnedUnder frames (Some e))
      (one.only (ended_with w.found (Some (invalid_of e)))
      (refused_by rules payload w.found state (invalid_of e) lasts reads fits w.read refused))
      (record { frames_are = w.same; error_is = refl });
}
