-- By the law of what is printed.
use Rattle.std.proofs.lemmas.Result.{IfOk-weaker}
use Rattle.quic_bench.proofs.OneLine.{prints}
use Rattle.quic_bench.proofs.printed.frames_printed.Goals as goal

pub returns-clause-frames : goal.returns-clause-frames
returns-clause-frames g c = IfOk-weaker c.run.result _ _
    (λ clean text placed bytes some are. prints _ bytes _ _ _ _ _ clean text
    (c.frames_printed.ensures.frames placed bytes some are)) c.run.ensures.text

pub returns-clause-broken : goal.returns-clause-broken
returns-clause-broken g c = IfOk-weaker c.run.result _ _
    (λ clean text placed bytes type reason some fit are.
    prints _ bytes _ _ _ _ _ clean text (c.frames_printed.ensures.broken placed bytes type reason some fit are)) c.run.ensures.text
