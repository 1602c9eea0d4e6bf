use Rattle.std.proofs.Common.{◌++◌, ◌∙◌, sym, ap, subst}
use Rattle.quic_canon.specs.Least.{IsLeast}
use Rattle.quic_canon.proofs.canonical.rewritten.Goals as goal

pub returns : goal.returns
returns c =
    let w = c.write_least.ensures in
    subst (λ l. IsLeast l c.args.payload.now) (sym (w.appended
    ∙ ap (λ l. l ++ w.least) (c.reserve.ensures.items ∙ c.new-out.ensures.items))) w.is_least
