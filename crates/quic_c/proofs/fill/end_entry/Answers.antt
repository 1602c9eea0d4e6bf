use Rattle.std.proofs.Common.{◌<◌, arith}
use Rattle.quic_c.proofs.FillSteps.{one_entry, run_entry}
use Rattle.quic_c.proofs.fill.end_entry.Goals as goal

pub returns-then-out-eq0-clause-gives : goal.returns-then-out-eq0-clause-gives
returns-then-out-eq0-clause-gives c = λ by old g.
    run_entry by old c.args.payload.now c.args.frames.now c.pass_run.new.frames c.args.out.now c.pass_run.new.out
    c.pass_run.ensures.run.0 g c.if-out-eq0.true c.pass_run.ensures.run.1 c.pass_run.ensures.words

pub returns-else-out-eq0-clause-gives : goal.returns-else-out-eq0-clause-gives
returns-else-out-eq0-clause-gives c = λ by old g.
    let some : 0 < c.args.out.now.kind = omega (arith, c.if-out-eq0.false) in
    one_entry by old c.args.payload.now c.args.frames.now c.args.out.now g some
