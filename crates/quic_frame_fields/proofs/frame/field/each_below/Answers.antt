use Rattle.std.proofs.Common.{◌∙◌, arith}
use Rattle.std.proofs.lemmas.Result.{err_from_is_err_and}
use Rattle.quic_frame_fields.proofs.Gaps.{goes_on, range_ends, is_done}
use Rattle.quic_frame_fields.proofs.frame.field.each_below.Goals as goal

pub returns-then-others-eq0 : goal.returns-then-others-eq0
returns-then-others-eq0 c =
    is_done c.pass_wide-others.result.0 c.pass_wide-others.result.1 c.pass_wide-others.result.2.now _ (omega arith)
    (c.pass_wide-others.ensures.same ∙ c.pass_short-others.ensures.same ∙ c.loop-behind.invariant)

pub returns-in_err-least : goal.returns-in_err-least
returns-in_err-least c =
    let p = err_from_is_err_and c.from_residual.result c.from_residual.ensures.1 in
    rw (p.1, p.2) (range_ends c.pass_wide-others.result.0 c.pass_wide-others.result.1 c.pass_wide-others.result.2.now _
    _ (omega arith) c.in_err-least.ensures (c.pass_wide-others.ensures.same ∙ c.pass_short-others.ensures.same
    ∙ c.loop-behind.invariant))

pub loop-behind-preserved : goal.loop-behind-preserved
loop-behind-preserved c =
    goes_on c.pass_wide-others.result.0 c.pass_wide-others.result.1 _ c.in_ok-least.least
    c.pass_wide-others.result.2.now c.in_ok-least.after.now _ (omega arith) c.in_ok-least.ensures
    (c.pass_wide-others.ensures.same ∙ c.pass_short-others.ensures.same ∙ c.loop-behind.invariant)
