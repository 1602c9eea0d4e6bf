use Rattle.std.proofs.Common.{[], sym, subst}
use Rattle.std.specs.Prelude.{IfSome}
use Rattle.quic_frame_fields.proofs.Steps.{true_is_not_false}
use Rattle.quic_fields.specs.Rules.{LacksSpansBy}
use Rattle.quic_field_callers.proofs.headers.begins_with_allowed.Goals as goal

pub returns-in-Some : goal.returns-in-Some
returns-in-Some c =
    let s = c.frame_spans_by in
    let payload = c.args.payload.now in
    let lacks : LacksSpansBy c.args.rules payload [] s.new.room s.result.1.count s.result.1.end c.in-Some.field-0 =
    subst (λ o. IfSome o (λ reason. LacksSpansBy c.args.rules payload [] s.new.room s.result.1.count s.result.1.end reason))
    c.in-Some.is s.ensures.err in (
      λ no. absurd (true_is_not_false (sym no)),
      λ allowed. absurd (c.one_answer_by_rules.ensures.not_both c.args.rules payload allowed.0 lacks.spans s.result.1.count
          c.in-Some.field-0 (λ i. (c.type_inv.payload i).fits) allowed.1 lacks.refused),
    )
