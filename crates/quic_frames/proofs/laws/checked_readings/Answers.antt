use Rattle.std.proofs.Common.{◌≡◌, List, [], ◌∷◌, map, None, refl, inl}
use Rattle.std.specs.Prelude.{All}
use Rattle.std.proofs.lemmas.List.Elements.{All-nil, All-cons, All-head, All-tail}
use Rattle.quic_frame_fields.specs.Payload.{Complete}
use Rattle.quic_frames.specs.Least.{all_written, as_written, is_end}
use Rattle.quic_frames.specs.Meaning.{meaning_of}
use Rattle.quic_frames.specs.Rules.{Keeps, breach_of}
use Rattle.quic_frames.specs.declared.frame.Frame.{Frame}
use Rattle.quic_frames.specs.declared.frame.rules.Rules.{Rules}
use Rattle.quic_frames.proofs.Checks.{one_checked, unchecked_is}
use Rattle.quic_frames.proofs.laws.checked_readings.Goals as goal

abbrev BreaksNone : Rules → Frame → Type 0
BreaksNone rules frame = breach_of rules (meaning_of frame) ≡ None

all_keep : (rules : Rules) (fs : List Frame) → All (BreaksNone rules) fs
    → All (Keeps rules) (all_written (map meaning_of fs))
all_keep rules [] all = All-nil (Keeps rules)
all_keep rules (frame ∷ fs) all =
    All-cons (Keeps rules) (as_written (is_end (map meaning_of fs)) (meaning_of frame)) (all_written (map meaning_of fs))
    (All-head (BreaksNone rules) frame fs all) (all_keep rules fs (All-tail (BreaksNone rules) frame fs all))

pub returns-clause-one : goal.returns-clause-one
returns-clause-one c = one_checked

pub returns-clause-plain : goal.returns-clause-plain
returns-clause-plain c = unchecked_is

pub returns-clause-written : goal.returns-clause-written
returns-clause-written c = λ rules before fs typed follows kept. (
  Complete (all_written (map meaning_of fs)),
  (c.read_back.ensures.all rules.short_types fs typed follows).0,
  inl (all_keep rules fs kept, refl),
)
