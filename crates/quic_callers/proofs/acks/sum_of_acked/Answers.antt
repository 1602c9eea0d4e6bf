use Rattle.std.proofs.Common.{sum, arith}
use Rattle.quic_callers.specs.Acked.{numbers_in}
use Rattle.quic_callers.proofs.Sums.{number_came, added}
use Rattle.quic_frame_fields.specs.Acks.{ranges_acked, ranges_left}
use Rattle.quic_callers.proofs.acks.sum_of_acked.Goals as goal

pub loop-number-preserved : goal.loop-number-preserved
loop-number-preserved c =
    let s = c.in-Some-number.ensures.steps.1 in
    let step =
    number_came c.loop-number.number-iterator c.next-in-loop-number.new.self c.in-Some-number.number s.0 s.1 s.2 in
    let all =
    added (sum (numbers_in (ranges_acked c.args.ack.now))) c.loop-number.sum c.in-Some-number.number
    (sum (numbers_in (ranges_left c.next.new.self))) c.loop-number.number-iterator
    c.next-in-loop-number.new.self step c.loop-number.invariant.2 in
    (tt, tt, omega (arith, all, c.in-Some-checked_add.ensures.1))

pub returns-in_default : goal.returns-in_default
returns-in_default c =
    let s = c.in-Some-number.ensures.steps.1 in
    let step =
    number_came c.loop-number.number-iterator c.next-in-loop-number.new.self c.in-Some-number.number s.0 s.1 s.2 in
    let all =
    added (sum (numbers_in (ranges_acked c.args.ack.now))) c.loop-number.sum c.in-Some-number.number
    (sum (numbers_in (ranges_left c.next.new.self))) c.loop-number.number-iterator
    c.next-in-loop-number.new.self step c.loop-number.invariant.2 in
    omega (arith, all, c.in_default.ensures)
