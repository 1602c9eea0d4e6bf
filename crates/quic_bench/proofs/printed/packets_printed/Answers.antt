-- By the law of what is printed.
use Rattle.std.proofs.lemmas.Result.{IfOk-weaker}
use Rattle.quic_bench.proofs.OneLine.{prints}
use Rattle.quic_bench.proofs.printed.packets_printed.Goals as goal

pub returns : goal.returns
returns g c = IfOk-weaker c.run.result _ _ (λ clean text bytes are.
    let row = c.packets_printed.ensures.some c.args.len bytes are in (
      row.0,
      row.1,
      record { are = row.2; alone = λ others other is. c.one_row_of_packets.ensures.one _ bytes others row.0 other row.1 are is row.2 },
      prints _ bytes _ _ _ _ _ clean text (c.packets_printed.ensures.lines c.args.len bytes row.0 row.1 are row.2),
    )) c.run.ensures.text
