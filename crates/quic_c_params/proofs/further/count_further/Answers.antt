use Rattle.std.proofs.Common.{rules, sym, ◌∙◌, arith}
use Rattle.std.proofs.lemmas.Bool.{false≢true}
use Rattle.quic_params.proofs.Progress.{empty_list}
use Rattle.quic_c_params.proofs.Others.{counted_all, counted_more, cut_off, known_one, there_twice, too_many, unknown_there}
use Rattle.quic_c_params.proofs.further.count_further.Goals.{then-count-via-then-count, then-count-via-else-count+then-is_some, then-count-via-else-count+else-is_some+then-has_number}
use Rattle.quic_c_params.proofs.further.count_further.Goals as goal

pub returns-in_err-number-clause-none : goal.returns-in_err-number-clause-none
returns-in_err-number-clause-none c =
    λ _. cut_off c.args.list.now c.loop-rest.rest.now c.loop-rest.count c.in_err-number.ensures (search rules) c.loop-rest.invariant

pub returns-then-count-clause-none : goal.returns-then-count-clause-none
returns-then-count-clause-none c = λ _. elim c.then-count.branch [
  | then-count-via-then-count w ↦
      too_many c.args.list.now c.loop-rest.rest.now c.in_ok-number.behind.now c.in_ok-number.number _ c.loop-rest.count
      c.in_ok-number.ensures (omega (arith, w.if-count)) c.loop-rest.invariant
  | then-count-via-else-count+then-is_some w ↦
      known_one c.args.list.now c.loop-rest.rest.now c.in_ok-number.behind.now c.in_ok-number.number _ c.loop-rest.count
      w.known.result c.in_ok-number.ensures (sym w.is_some.ensures ∙ w.if-is_some.true) w.known.ensures
      c.loop-rest.invariant
  | then-count-via-else-count+else-is_some+then-has_number w ↦
      there_twice c.args.list.now c.loop-rest.rest.now c.in_ok-number.behind.now c.in_ok-number.number _
      c.loop-rest.count c.in_ok-number.ensures
      (λ es h. (w.has_number.ensures es h).0 w.if-has_number.true) c.loop-rest.invariant
]

pub loop-rest-preserved : goal.loop-rest-preserved
loop-rest-preserved c =
    counted_more c.args.list.now c.loop-rest.rest.now c.in_ok-number.behind.now c.in_ok-number.number _
    c.loop-rest.count c.in_ok-number.ensures (unknown_there c.in_ok-number.number c.known.result
    (sym c.is_some.ensures ∙ c.if-is_some.false) c.known.ensures)
    (λ es h has. false≢true (sym c.if-has_number.false ∙ (c.has_number.ensures es h).1 has))
    (omega (arith, c.if-count.false, c.loop-rest.invariant.few)) c.loop-rest.invariant

pub returns-clause-some : goal.returns-clause-some
returns-clause-some c =
    counted_all c.args.list.now c.loop-rest.rest.now c.loop-rest.count (empty_list c.loop-rest.rest.now (search rules))
    (omega (arith, c.if-list.false)) c.loop-rest.invariant
