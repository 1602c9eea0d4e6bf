use Rattle.std.proofs.Common.{arith}
use Rattle.quic_frame_fields.proofs.Encoded.{longer_at}
use Rattle.std.proofs.lemmas.Grind.{common_steps}
use Rattle.quic_frame_fields.proofs.frame.write.numbers_len.Goals as goal

pub loop-number-preserved : goal.loop-number-preserved
loop-number-preserved c =
    let i = c.loop-number.number-index in
    record {
      value = longer_at c.args.numbers.now i c.loop-number.total c.var_size-total.result c.loop-number-test.true
          c.var_size-total.ensures.value c.loop-number.invariant.value;
      small = omega (arith, c.loop-number.invariant.small, c.var_size-total.ensures.small);
    }

pub returns-clause-value : goal.returns-clause-value
returns-clause-value c = grind (arith, common_steps)
