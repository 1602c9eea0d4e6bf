-- By the law of what is printed.
use Rattle.std.proofs.lemmas.Result.{IfOk-weaker}
use Rattle.quic_bench.proofs.OneLine.{prints}
use Rattle.quic_bench.proofs.printed.parameters_printed.Goals as goal

pub returns : goal.returns
returns g c = IfOk-weaker c.run.result _ _
    (λ clean text list answer fit is. prints _ list _ _ _ _ _ clean text
    (c.parameter_lines.ensures c.args.side list answer fit is)) c.run.ensures.text
