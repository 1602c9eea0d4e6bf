use Rattle.std.proofs.Common.{refl, sym, ◌∙◌, rules}
use Rattle.quic_frames.specs.Found.{found_as}
use Rattle.quic_frames.proofs.Places.{finds_here, padding_here, breaks_here, is_broken_here, is_over_here, fewer_left, finds_fewer, fails_fewer}
use Rattle.quic_frames.proofs.frame.iter.IterIterator.next.Goals as goal
use Rattle.quic_frames.proofs.frame.iter.IterIterator.next.Goals.{then-self-via-then-self, then-self-via-else-self+then-is_empty}

pub returns-then-self-clause-steps : goal.returns-then-self-clause-steps
returns-then-self-clause-steps c =
    let self = c.self.inside in
    elim c.then-self.branch [
      | then-self-via-then-self w ↦ (
        is_broken_here self.strict self.payload.now self.offset self.last self.is_broken _
            c.self.view_is w.if-self.true,
        refl,
      )
      | then-self-via-else-self+then-is_empty w ↦ (
        is_over_here self.strict self.payload.now self.offset self.last self.is_broken _ c.self.view_is
            c.self.invariant (sym w.is_empty.ensures ∙ w.if-is_empty.true),
        refl,
      )
    ]

pub returns-then-is_padding-clause-steps : goal.returns-then-is_padding-clause-steps
returns-then-is_padding-clause-steps c =
    let self = c.self.inside in
    padding_here self.strict self.payload.now self.offset self.last self.is_broken _ c.self.view_is c.if-self.false
    c.self.invariant (sym c.is_empty.ensures ∙ c.if-is_empty.false)
    c.is_padding.ensures.bytes (c.is_padding.ensures.front.0 c.if-is_padding.true)

pub returns-then-is_padding-clause-goes : goal.returns-then-is_padding-clause-goes
returns-then-is_padding-clause-goes c =
    let fewer = finds_fewer _ _ _ (returns-then-is_padding-clause-steps c) in
    search rules

pub overflow_sub-self : goal.overflow_sub-self
overflow_sub-self c =
    let self = c.self.inside in
    fewer_left self.strict self.payload.now self.offset self.last (found_as c.in-Ok.first.ty c.in-Ok.first.frame)
    c.in-Ok.first.rest.now c.in-Ok.ensures.bytes c.in-Ok.ensures.gives.0

pub returns-in-Ok-clause-steps : goal.returns-in-Ok-clause-steps
returns-in-Ok-clause-steps c =
    let self = c.self.inside in
    finds_here self.strict self.payload.now self.offset self.last self.is_broken _ c.in-Ok.first.ty c.in-Ok.first.frame
    c.in-Ok.first.rest.now c.in-Ok.ensures.gives.1 c.in-Ok.ensures.gives.2 c.self.view_is c.if-self.false
    c.self.invariant
    (sym c.is_empty.ensures ∙ c.if-is_empty.false) c.in-Ok.ensures.bytes c.in-Ok.ensures.gives.0

pub returns-in-Ok-clause-goes : goal.returns-in-Ok-clause-goes
returns-in-Ok-clause-goes c =
    let fewer = finds_fewer _ _ _ (returns-in-Ok-clause-steps c) in
    search rules

pub returns-in-Err-clause-steps : goal.returns-in-Err-clause-steps
returns-in-Err-clause-steps c =
    let self = c.self.inside in
    breaks_here self.strict self.payload.now self.offset self.last self.is_broken _ c.in-Err.invalid
    c.self.view_is c.if-self.false (sym c.is_empty.ensures ∙ c.if-is_empty.false) c.is_padding.ensures.bytes
    c.in-Err.ensures.gives

pub returns-in-Err-clause-goes : goal.returns-in-Err-clause-goes
returns-in-Err-clause-goes c =
    let fewer = fails_fewer _ _ _ (returns-in-Err-clause-steps c) in
    search rules
