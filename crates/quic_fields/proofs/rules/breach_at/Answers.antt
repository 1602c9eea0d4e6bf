use Rattle.std.proofs.Common.{◌∙◌, Some, false, sym, ap, subst}
use Rattle.quic_frames.specs.Rules.{breach_of}
use Rattle.quic_frames.specs.Walk.{invalid_of, first_of, Advances, Finds, LacksFrame}
use Rattle.quic_fields.proofs.RuleSpans.{front_of, breaks_in, keeps_in, keeps_none}
use Rattle.quic_fields.proofs.rules.breach_at.Goals as goal

pub returns-in-Some-Ok-clause-breaks : goal.returns-in-Some-Ok-clause-breaks
returns-in-Some-Ok-clause-breaks c =
    let frame = c.in-Some-Ok.frame in
    let payload = c.args.payload.now in
    let steps : Finds c.in-Some.iter frame c.next.new.self =
    subst (λ f. Advances c.in-Some.iter (Some f) c.next.new.self) c.in-Some-Ok.field-0-is c.in-Some-Ok.ensures.steps in
    let s : Finds (first_of false payload) frame c.next.new.self =
    subst (λ w. Finds w frame c.next.new.self) c.in-Some.ensures.state steps in
    breaks_in c.args.rules payload s.found (front_of payload frame c.next.new.self s) c.breach.result
    (c.breach.ensures ∙ ap (breach_of c.args.rules) (sym s.says))

pub returns-in-Some-Ok-clause-keeps : goal.returns-in-Some-Ok-clause-keeps
returns-in-Some-Ok-clause-keeps c = λ none.
    let frame = c.in-Some-Ok.frame in
    let payload = c.args.payload.now in
    let steps : Finds c.in-Some.iter frame c.next.new.self =
    subst (λ f. Advances c.in-Some.iter (Some f) c.next.new.self) c.in-Some-Ok.field-0-is c.in-Some-Ok.ensures.steps in
    let s : Finds (first_of false payload) frame c.next.new.self =
    subst (λ w. Finds w frame c.next.new.self) c.in-Some.ensures.state steps in
    keeps_in c.args.rules payload s.found (front_of payload frame c.next.new.self s) c.breach.result
    (c.breach.ensures ∙ ap (breach_of c.args.rules) (sym s.says)) none

pub returns-in-Some-Err-clause-keeps : goal.returns-in-Some-Err-clause-keeps
returns-in-Some-Err-clause-keeps c = λ _.
    let payload = c.args.payload.now in
    let plain = invalid_of c.in-Some-Err.field-0-0 in
    let s =
    subst (λ f. Advances c.in-Some.iter (Some f) c.next.new.self) c.in-Some-Err.field-0-is c.in-Some-Err.ensures.steps in
    let here : LacksFrame (first_of false payload) plain =
    subst (λ w. LacksFrame w plain) c.in-Some.ensures.state s.lacks in
    keeps_none c.args.rules payload plain (λ i. (c.type_inv.payload i).fits) here
