-- By the law of what is printed.
use Rattle.std.proofs.lemmas.Result.{IfOk-weaker}
use Rattle.quic_bench.proofs.OneLine.{prints}
use Rattle.quic_bench.proofs.printed.strict_printed.Goals as goal

pub returns : goal.returns
returns g c = IfOk-weaker c.run.result _ _
    (λ clean text placed bytes some are. prints _ bytes _ _ _ _ _ clean text
    (c.strict_printed.ensures.frames placed bytes some are)) c.run.ensures.text
