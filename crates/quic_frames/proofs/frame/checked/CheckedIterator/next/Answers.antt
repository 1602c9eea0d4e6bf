use Rattle.std.proofs.Common.{ℕ, List, Option, Some, subst, ap, ◌∙◌}
use Rattle.quic_frame_fields.specs.Reading.{Invalid}
use Rattle.quic_frames.specs.Walk.{Advances, Fails, Finds, invalid_of}
use Rattle.quic_frames.proofs.Checking.{kept_step, breach_step, lacks_step}
use Rattle.quic_frames.proofs.frame.checked.CheckedIterator.next.Goals as goal

pub returns-in-None-breach-clause-steps : goal.returns-in-None-breach-clause-steps
returns-in-None-breach-clause-steps c =
    let here = c.self.inside.iter in
    let finds : Finds here c.in-Some-Ok.frame c.next.new.self =
    subst (λ f. Advances here (Some f) c.next.new.self) c.in-Some-Ok.field-0-is c.in-Some-Ok.ensures.steps in
    kept_step c.args.self.now c.self.inside.rules here c.next.new.self c.in-Some-Ok.frame c.breach.result c.self.view_is
    finds c.breach.ensures c.in-None-breach.is

pub returns-in-Some-clause-steps : goal.returns-in-Some-clause-steps
returns-in-Some-clause-steps c =
    let here = c.self.inside.iter in
    let finds : Finds here c.in-Some-Ok.frame c.next.new.self =
    subst (λ f. Advances here (Some f) c.next.new.self) c.in-Some-Ok.field-0-is c.in-Some-Ok.ensures.steps in
    let by_type : Option ℕ → Invalid = λ t. record { type = t; reason = c.reason.result.now } in
    let by_reason : List ℕ → Invalid = λ r. record { type = c.next.new.self.last; reason = r } in
    breach_step c.args.self.now c.self.inside.rules here c.next.new.self c.end_at.new.self c.in-Some-Ok.frame
    c.breach.result c.in-Some.breach c.offset-offset.result c.last_type-last.result (by_type c.last_type-ty.result)
    c.self.view_is finds c.breach.ensures c.in-Some.is c.offset-offset.ensures.value c.last_type-last.ensures
    c.end_at.ensures (ap by_type c.last_type-ty.ensures ∙ ap by_reason c.reason.ensures)

pub returns-in-Some-Err-clause-steps : goal.returns-in-Some-Err-clause-steps
returns-in-Some-Err-clause-steps c =
    let here = c.self.inside.iter in
    let fails : Fails here c.in-Some-Err.invalid c.next.new.self =
    subst (λ f. Advances here (Some f) c.next.new.self) c.in-Some-Err.field-0-is c.in-Some-Err.ensures.steps in
    let lacks = fails.lacks in
    lacks_step c.args.self.now c.self.inside.rules here c.next.new.self (invalid_of c.in-Some-Err.invalid)
    (invalid_of c.reported.result) lacks c.self.view_is fails.comes
    (c.reported.ensures lacks.type lacks.reason lacks.says)
