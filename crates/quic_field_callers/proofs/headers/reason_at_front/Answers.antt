use Rattle.std.proofs.Common.{[], length, nat_eq, ap, sym, subst, ◌∙◌}
use Rattle.std.specs.Prelude.{IfSome, None}
use Rattle.quic_frame_fields.proofs.Steps.{true_is_not_false}
use Rattle.quic_fields.specs.Walk.{LacksSpans}
use Rattle.quic_field_callers.proofs.headers.reason_at_front.Goals as goal

pub returns-in-Some : goal.returns-in-Some
returns-in-Some c =
    let s = c.frame_spans in
    let payload = c.args.payload.now in
    let lacks : LacksSpans payload [] s.new.room s.result.count s.result.end c.in-Some.reason =
    subst (λ o. IfSome o (λ reason. LacksSpans payload [] s.new.room s.result.count s.result.end reason)) c.in-Some.is
    s.ensures.err in
    c.one_field_at_fault.ensures.reported None payload lacks.spans s.result.count c.in-Some.reason
    (λ none. true_is_not_false (sym (c.is_empty.ensures ∙ ap (λ l. nat_eq (length l) 0) none) ∙ c.if-is_empty.false))
    lacks.no_frame
