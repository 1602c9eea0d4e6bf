use Rattle.std.proofs.Common.{◌<◌, ◌^◌, sym, ◌∙◌, arith}
use Rattle.quic_c.proofs.Types.{last_fits}
use Rattle.quic_c.proofs.frames.type_read.Goals as goal

pub returns-clause-fits : goal.returns-clause-fits
returns-clause-fits c =
    let r = c.requires in
    let small : c.in-Some.ty < 2 ^ 16 =
    last_fits r.0 c.args.iter.now r.1 r.2 c.in-Some.ty (sym c.last_type.ensures ∙ c.in-Some.is) in
    omega (arith, small, c.into_inner.ensures)
