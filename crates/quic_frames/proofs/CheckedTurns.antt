-- What an iterator with rules returns in turn, and what that says about the payload.
use Rattle.std.proofs.Common.{◌≡◌, ◌≢◌, ℕ, List, [], ◌∷◌, ◌++◌, Bool, None, Some, Option, refl, sym, ap, subst, ◌∙◌, inl, inr, append_assoc, arith}
use Rattle.std.specs.Prelude.{◌⊎◌, All}
use Rattle.std.proofs.lemmas.List.{append-nil}
use Rattle.std.proofs.lemmas.List.Elements.{All-nil, All-cons, All-head, All-tail}
use Rattle.quic_base.specs.Number.{AreBytes}
use Rattle.quic_base.specs.One.{ExactlyOne}
use Rattle.quic_base.proofs.PublicLaws.{back_bytes}
use Rattle.quic_frame_fields.specs.Payload.{TypedFrame, AreClosed, Reading, Complete, FailsAfter, IsReadingAfter, IsReadingOf, followed_by, last_type}
use Rattle.quic_frame_fields.specs.Reading.{Invalid}
use Rattle.quic_frames.specs.Checking.{BreaksRule, CheckedState, FindsKept, IsRefusedFrame, LacksBy, checked_first}
use Rattle.quic_frames.specs.IterState.{IterState}
use Rattle.quic_frames.specs.Rules.{Checked, IsCheckedOf, Keeps, reported_by}
use Rattle.quic_frames.specs.Walk.{rest_of, IsSpent}
use Rattle.quic_frames.specs.declared.frame.Frame.{Frame}
use Rattle.quic_frames.specs.declared.frame.rules.Rules.{Rules}
use Rattle.quic_frames.proofs.Turns.{HasRead, has_read_none, has_read_more, has_read_all, has_read_error}

-- These frames are before the iterator's offset, and break no rule.
pub record HasReadBy (rules : Rules) (payload : List ℕ) (found : List TypedFrame) (state : CheckedState) : Type 0 where
  pub read : HasRead rules.short_types payload found state.place
  pub kept : All (Keeps rules) found
  pub by : state.rules ≡ rules

pub none_read_by : (rules : Rules) (payload : List ℕ) (state : CheckedState) → state ≡ checked_first rules payload
    → HasReadBy rules payload [] state
none_read_by rules payload state e = record {
  read = has_read_none rules.short_types payload state.place (ap (λ (s : CheckedState). s.place) e);
  kept = All-nil (Keeps rules);
  by = ap (λ (s : CheckedState). s.rules) e;
}

all_push : (rules : Rules) (found : List TypedFrame) (one : TypedFrame) → All (Keeps rules) found → Keeps rules one
    → All (Keeps rules) (found ++ one ∷ [])
all_push rules [] one all keeps = All-cons (Keeps rules) one [] keeps (All-nil (Keeps rules))
all_push rules (first ∷ found) one all keeps =
    All-cons (Keeps rules) first (found ++ one ∷ []) (All-head (Keeps rules) first found all)
    (all_push rules found one (All-tail (Keeps rules) first found all) keeps)

pub more_read_by : (rules : Rules) (payload : List ℕ) (found : List TypedFrame) (state next : CheckedState)
    (frame : Frame) → HasReadBy rules payload found state
    → (step : FindsKept state.rules state.place frame next.place) → next.rules ≡ state.rules
    → HasReadBy rules payload (found ++ step.finds.found ∷ []) next
more_read_by rules payload found state next frame w step same = record {
  read = has_read_more rules.short_types payload found state.place next.place frame w.read step.finds;
  kept = all_push rules found step.finds.found w.kept
      (subst (λ (r : Rules). Keeps r step.finds.found) w.by step.kept);
  by = same ∙ w.by;
}

-- ---- the end of the payload, or an error

abbrev pub ended_with : List TypedFrame → Option Invalid → Checked
ended_with found error = record { frames = found; error = error }

pub all_read_by : (rules : Rules) (payload : List ℕ) (found : List TypedFrame) (state : CheckedState)
    → HasReadBy rules payload found state → IsSpent state.place → IsCheckedOf rules payload (ended_with found None)
all_read_by rules payload found state w spent =
    (Complete found, has_read_all rules.short_types payload found state.place w.read spent, inl (w.kept, refl))

lacks : (rules : Rules) (payload : List ℕ) (found : List TypedFrame) (state : CheckedState) (reported : Invalid)
    → HasReadBy rules payload found state → LacksBy rules state.place reported
    → IsCheckedOf rules payload (ended_with found (Some reported))
lacks rules payload found state reported w l =
    let none = l.lacks in (
      FailsAfter found none.type none.reason,
      has_read_error rules.short_types payload found state.place l.plain w.read none,
      inl (w.kept, ap (λ (i : Invalid). ended_with found (Some i)) l.says),
    )

-- ---- a frame that breaks a rule

-- what is reported of a payload that goes on after frames that were read
abbrev pub after_frames : List TypedFrame → Checked → Checked
after_frames found checked = record { frames = found ++ checked.frames; error = checked.error }

pub reported_followed : (rules : Rules) (found : List TypedFrame) (rest : Reading)
    → reported_by rules (followed_by found rest) ≡ after_frames found (reported_by rules rest)
reported_followed rules found (Complete others) = refl
reported_followed rules found (FailsAfter others type reason) = refl

abbrev pub Lasts : Type 0
Lasts = (strict : Bool) (found : List TypedFrame) (bytes more : List ℕ) (rest : Reading)
    → IsReadingOf strict bytes (Complete found) → AreClosed found
    → IsReadingAfter strict (last_type None found) more rest
    → IsReadingOf strict (bytes ++ more) (followed_by found rest)

abbrev pub Reads : Type 0
Reads = (strict : Bool) (before : Option ℕ) (bytes : List ℕ) → AreBytes bytes
    → ExactlyOne (IsReadingAfter strict before bytes)

none_or_some : (bytes : List ℕ) → (bytes ≡ []) ⊎ (bytes ≢ [])
none_or_some [] = inl refl
none_or_some (byte ∷ bytes) = inr (λ e. cc)

-- the payload that they and what comes after them make
pub record ReadsWhole (rules : Rules) (payload : List ℕ) (found : List TypedFrame) (rest : Reading) : Type 0 where
  pub reading : Reading
  pub is : IsReadingOf rules.short_types payload reading
  pub parts : reported_by rules reading ≡ after_frames found (reported_by rules rest)

pub reads_whole : (rules : Rules) (payload : List ℕ) (found : List TypedFrame) (state : IterState) (rest : Reading)
    → Lasts → Reads → HasRead rules.short_types payload found state
    → IsReadingAfter rules.short_types state.last (rest_of state) rest → ReadsWhole rules payload found rest
reads_whole rules payload found state rest lasts reads h is = elim (none_or_some (rest_of state)) [
  | inl none ↦
      let whole : h.front ≡ payload =
      sym (h.parts ∙ ap (λ (l : List ℕ). h.front ++ l) none ∙ append-nil h.front) in
      let nothing = subst (λ (l : List ℕ). IsReadingAfter rules.short_types state.last l rest) none is in
      let one = reads rules.short_types state.last [] (λ k. omega arith) in
      let same : rest ≡ Complete [] = one.only rest nothing ∙ sym (one.only (Complete []) refl) in
      let all : after_frames found (reported_by rules (Complete [])) ≡ reported_by rules (Complete found) =
      ap (λ (l : List TypedFrame). reported_by rules (Complete l)) (append-nil found) in
      record {
        reading = Complete found;
        is = subst (λ (l : List ℕ). IsReadingOf rules.short_types l (Complete found)) whole h.encoded;
        parts = sym (ap (λ (r : Reading). after_frames found (reported_by rules r)) same ∙ all);
      }
  | inr some ↦
      let behind = subst (λ (t : Option ℕ). IsReadingAfter rules.short_types t (rest_of state) rest) h.last is in
      record {
        reading = followed_by found rest;
        is = subst (λ (l : List ℕ). IsReadingOf rules.short_types l (followed_by found rest)) (sym h.parts)
            (lasts rules.short_types found h.front (rest_of state) rest h.encoded (h.closed some) behind);
        parts = reported_followed rules found rest;
      }
]

reads_on : (rules : Rules) (payload : List ℕ) (found : List TypedFrame) (state : IterState) → Lasts → Reads
    → AreBytes payload → HasRead rules.short_types payload found state
    → (rest : Reading) × ReadsWhole rules payload found rest
reads_on rules payload found state lasts reads fits h =
    let after = reads rules.short_types state.last (rest_of state)
    (back_bytes h.front (rest_of state) (subst AreBytes h.parts fits)) in
    (after.it, reads_whole rules payload found state after.it lasts reads h after.is)

breaks : (rules : Rules) (payload : List ℕ) (found : List TypedFrame) (state : CheckedState) (reported : Invalid)
    → Lasts → Reads → AreBytes payload → HasReadBy rules payload found state
    → BreaksRule rules state.place reported → IsCheckedOf rules payload (ended_with found (Some reported))
breaks rules payload found state reported lasts reads fits w b =
    let f = b.finds in
    let on = reads_on rules payload (found ++ f.found ∷ []) b.next lasts reads fits
    (has_read_more rules.short_types payload found state.place b.next b.frame w.read f) in (
      on.1.reading,
      on.1.is,
      inr (record {
        broken = f.found;
        others = (reported_by rules on.0).frames;
        breach = b.breach;
        parts = ap (λ (c : Checked). c.frames) on.1.parts
            ∙ append_assoc found (f.found ∷ []) (reported_by rules on.0).frames;
        kept = w.kept;
        breaks = b.breaks;
        reported = ap (λ (i : Invalid). Some i) b.says;
      }),
    )

pub refused_by : (rules : Rules) (payload : List ℕ) (found : List TypedFrame) (state : CheckedState)
    (reported : Invalid) → Lasts → Reads → AreBytes payload → HasReadBy rules payload found state
    → IsRefusedFrame state.rules state.place reported → IsCheckedOf rules payload (ended_with found (Some reported))
refused_by rules payload found state reported lasts reads fits w (inl l) =
    lacks rules payload found state reported w (subst (λ (r : Rules). LacksBy r state.place reported) w.by l)
refused_by rules payload found state reported lasts reads fits w (inr b) =
    breaks rules payload found state reported lasts reads fits w
    (subst (λ (r : Rules). BreaksRule r state.place reported) w.by b)
