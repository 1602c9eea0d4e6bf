-- By the law of what is printed.
use Rattle.std.proofs.lemmas.Result.{IfOk-weaker}
use Rattle.quic_bench.proofs.OneLine.{prints}
use Rattle.quic_bench.proofs.printed.least_printed.Goals as goal

pub returns : goal.returns
returns g c = IfOk-weaker c.run.result _ _
    (λ clean text payload least is. prints _ payload _ _ _ _ _ clean text
    (c.canonical_printed.ensures.least payload least is)) c.run.ensures.text
