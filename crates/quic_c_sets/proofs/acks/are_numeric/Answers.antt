use Rattle.std.proofs.Common.{add-one, arith}
use Rattle.std.proofs.lemmas.Bool.{false≢true}
use Rattle.quic_frame_fields.proofs.Numbers.{numeric_at}
use Rattle.quic_c_sets.proofs.Writing.{numeric_more}
use Rattle.quic_c_sets.proofs.acks.are_numeric.Goals as goal

pub returns-then-number : goal.returns-then-number
returns-then-number c = (
  λ e. absurd (false≢true e),
  λ h. absurd (omega (
    arith,
    numeric_at c.args.numbers.now c.loop-number.number-index h
        c.loop-number-test.true,
    c.if-number.true,
  )),
)

pub loop-number-preserved : goal.loop-number-preserved
loop-number-preserved c =
    rw add-one (numeric_more c.args.numbers.now c.loop-number.number-index c.loop-number-test.true c.if-number.false
    c.loop-number.invariant)
