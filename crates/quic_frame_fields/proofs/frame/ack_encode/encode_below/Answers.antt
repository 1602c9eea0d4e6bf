use Rattle.std.proofs.Common.{List, ℕ, rules, ◌++◌, ◌∙◌, ap, refl, Err, arith}
use Rattle.std.proofs.lemmas.Result.{err_from_is_err_and}
use Rattle.quic_frame_fields.specs.Numbers.{shortest_varints}
use Rattle.quic_frame_fields.proofs.Sets.{has_below}
use Rattle.quic_frame_fields.proofs.AckParts.{holds_last, holds_more, holds_refused, next_held, refuses_held, run_numbers}
use Rattle.quic_frame_fields.proofs.frame.ack_encode.encode_below.Goals as goal

pub returns-in_err-at : goal.returns-in_err-at
returns-in_err-at g c =
    let p = err_from_is_err_and c.from_residual.result c.from_residual.ensures.1 in
    holds_refused (Err c.in_err-at.field-0.0) c.from_residual.result p.0 c.in_err-at.field-0.0 _ _ c.loop-run.above
    c.loop-run.runs _ _ _ _ _ _ c.loop-run.invariant.holds
    (refuses_held c.in_err-at.field-0.0 c.loop-run.at c.loop-run.chunk _ _ _ _ c.in_err-at.ensures.flushes) refl p.1

pub overflow_sub-gap : goal.overflow_sub-gap
overflow_sub-gap g c =
    let b = has_below c.next_back.new.self c.loop-run.runs c.in-Some.run' c.loop-run.above c.in-Some.ensures.steps
    c.loop-run.invariant.holds.maximal in omega (arith, b.apart)

pub overflow_sub-gap-in-Some : goal.overflow_sub-gap-in-Some
overflow_sub-gap-in-Some g c =
    let b = has_below c.next_back.new.self c.loop-run.runs c.in-Some.run' c.loop-run.above c.in-Some.ensures.steps
    c.loop-run.invariant.holds.maximal in omega (arith, b.apart)

pub overflow_sub-run : goal.overflow_sub-run
overflow_sub-run g c =
    let b = has_below c.next_back.new.self c.loop-run.runs c.in-Some.run' c.loop-run.above c.in-Some.ensures.steps
    c.loop-run.invariant.holds.maximal in omega (arith, b.some)

pub overflow_sub-run-in-Some : goal.overflow_sub-run-in-Some
overflow_sub-run-in-Some g c =
    let b = has_below c.next_back.new.self c.loop-run.runs c.in-Some.run' c.loop-run.above c.in-Some.ensures.steps
    c.loop-run.invariant.holds.maximal in omega (arith, b.some)

pub store_two-at-requires-clause-len : goal.store_two-at-requires-clause-len
store_two-at-requires-clause-len g c =
    (next_held _ _ c.loop-run.above c.in-Some.run' c.next_back.new.self c.loop-run.runs _ _ _ _
    c.loop-run.invariant.holds c.in-Some.ensures.steps).numeric.1.0

pub loop-run-preserved : goal.loop-run-preserved
loop-run-preserved g c =
    let flushes = c.in_ok-at.ensures.flushes in
    let numbers : List ℕ = shortest_varints (run_numbers c.loop-run.above c.in-Some.run') in
    record {
      near = c.store_two-at.ensures.near;
      holds = holds_more _ _ _ c.loop-run.above c.in-Some.run' c.next_back.new.self c.loop-run.runs _ _ _ _ _ _
          c.loop-run.invariant.holds c.in-Some.ensures.steps flushes.begun flushes.room
          (c.store_two-at.ensures.front ∙ ap (λ (l : List ℕ). l ++ numbers) flushes.left);
    }

pub returns : goal.returns
returns g c =
    holds_last c.bytes.result _ _ c.loop-run.above c.loop-run.runs _ _ _ _ _ _ c.loop-run.invariant.holds
    (search (rules, c.in_default)) c.bytes.ensures
