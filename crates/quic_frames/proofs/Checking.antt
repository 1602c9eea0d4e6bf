-- Steps of an iterator under rules.
use Rattle.std.proofs.Common.{◌≡◌, ℕ, true, Option, Some, None, sym, ap, subst, ◌∙◌, inl, inr}
use Rattle.quic_frame_fields.specs.Reading.{Invalid, invalid}
use Rattle.quic_frames.specs.declared.frame.Frame.{Frame}
use Rattle.quic_frames.specs.declared.frame.rules.Rules.{Rules}
use Rattle.quic_frames.specs.declared.frame.rules.Breach.{Breach}
use Rattle.quic_frames.specs.IterState.{IterState}
use Rattle.quic_frames.specs.Meaning.{meaning_of}
use Rattle.quic_frames.specs.Rules.{breach_of, breach_text, fault_by}
use Rattle.quic_frames.specs.Checking.{CheckedState, BreaksRule, FindsKept, IsRefusedFrame, LacksBy}
use Rattle.quic_frames.specs.Walk.{Finds, LacksFrame}

-- a frame of which a test found no breach
pub kept_found : (rules : Rules) (here new : IterState) (frame : Frame) (test : Option Breach) → Finds here frame new
    → test ≡ breach_of rules (meaning_of frame) → test ≡ None → FindsKept rules here frame new
kept_found rules here new frame test f tests none =
    record { finds = f; kept = ap (breach_of rules) f.says ∙ sym tests ∙ none }

-- a frame of which a test found one, by its type
pub breach_found : (rules : Rules) (here next : IterState) (frame : Frame) (test : Option Breach) (breach : Breach)
    (reported : Invalid) → Finds here frame next → test ≡ breach_of rules (meaning_of frame) → test ≡ Some breach
    → reported ≡ record { type = next.last; reason = breach_text breach } → BreaksRule rules here reported
breach_found rules here next frame test breach reported f tests some reports =
    let type : next.last ≡ Some f.found.type = ap (λ (s : IterState). s.last) f.comes in
    let by_type : Option ℕ → Invalid = λ t. record { type = t; reason = breach_text breach } in
    record {
      frame = frame;
      next = next;
      finds = f;
      breach = breach;
      breaks = ap (breach_of rules) f.says ∙ sym tests ∙ some;
      says = reports ∙ ap by_type type;
    }

abbrev with_rules : Rules → IterState → CheckedState
with_rules rules place = record { rules = rules; place = place }

pub kept_step : (old : CheckedState) (rules : Rules) (here new : IterState) (frame : Frame) (test : Option Breach)
    → with_rules rules here ≡ old → Finds here frame new → test ≡ breach_of rules (meaning_of frame) → test ≡ None
    → FindsKept old.rules old.place frame new × (rules ≡ old.rules)
kept_step old rules here new frame test view f tests none = (
  subst (λ (s : CheckedState). FindsKept s.rules s.place frame new) view (kept_found rules here new frame test f tests none),
  ap (λ (s : CheckedState). s.rules) view,
)

abbrev ended_at : IterState → ℕ → Option ℕ → IterState
ended_at place offset last = record place { offset = offset; last = last; is_broken = true }

abbrev over : CheckedState → CheckedState
over state = record state { place = record state.place { is_broken = true } }

pub breach_step : (old : CheckedState) (rules : Rules) (here next end : IterState) (frame : Frame) (test : Option Breach)
    (breach : Breach) (offset : ℕ) (last : Option ℕ) (reported : Invalid)
    → with_rules rules here ≡ old → Finds here frame next → test ≡ breach_of rules (meaning_of frame)
    → test ≡ Some breach → offset ≡ here.offset → last ≡ here.last → end ≡ ended_at next offset last
    → reported ≡ record { type = next.last; reason = breach_text breach }
    → IsRefusedFrame old.rules old.place reported × (with_rules rules end ≡ over old)
breach_step old rules here next end frame test breach offset last reported view f tests some at after ends reports = (
  inr (subst (λ (s : CheckedState). BreaksRule s.rules s.place reported) view
      (breach_found rules here next frame test breach reported f tests some reports)),
  ap (with_rules rules) (ends ∙ ap (λ (s : IterState). ended_at s offset last) f.comes
      ∙ ap (λ (n : ℕ). ended_at here n last) at ∙ ap (λ (l : Option ℕ). ended_at here here.offset l) after)
      ∙ ap over view,
)

pub lacks_step : (old : CheckedState) (rules : Rules) (here end : IterState) (plain reported : Invalid)
    (lacks : LacksFrame here plain) → with_rules rules here ≡ old → end ≡ record here { is_broken = true }
    → reported ≡ invalid lacks.type (fault_by rules lacks.type lacks.reason)
    → IsRefusedFrame old.rules old.place reported × (with_rules rules end ≡ over old)
lacks_step old rules here end plain reported lacks view ends says = (
  inl (subst (λ (s : CheckedState). LacksBy s.rules s.place reported) view
      (record { plain = plain; lacks = lacks; says = says })),
  ap (with_rules rules) ends ∙ ap over view,
)
