use Rattle.std.proofs.Common.{Some, subst, ◌∙◌}
use Rattle.quic_frames.specs.Walk.{Advances}
use Rattle.quic_callers.proofs.Walks.{reports}
use Rattle.quic_callers.proofs.Counts.{counted_first, counted_other, counted_stream, all_counted}
use Rattle.quic_callers.proofs.payloads.all_stream_data.Goals as goal

pub loop-item-init : goal.loop-item-init
loop-item-init c = (
  tt,
  tt,
  counted_first c.args.payload.now c.into_iter-item-iterator.result
      (c.into_iter-item-iterator.ensures.into_iter_gives ∙ c.in_ok-item-items.ensures.first),
)

pub loop-item-preserved-in-Stream : goal.loop-item-preserved-in-Stream
loop-item-preserved-in-Stream c =
    let finds = subst (λ r. Advances c.loop-item.item-iterator (Some r) c.next.new.self) c.in-Ok.is c.in-Some.ensures.steps in (
      tt,
      tt,
      counted_stream c.args.payload.now c.loop-item.item-iterator c.next.new.self c.in-Ok.frame c.in-Stream.stream
          c.loop-item.count c.saturating_add-count.result
          c.loop-item.invariant.2 finds c.in-Stream.is c.saturating_add-count.ensures,
    )

pub loop-item-preserved : goal.loop-item-preserved
loop-item-preserved c =
    let finds = subst (λ r. Advances c.loop-item.item-iterator (Some r) c.next.new.self) c.in-Ok.is c.in-Some.ensures.steps in (
      tt,
      tt,
      counted_other c.args.payload.now c.loop-item.item-iterator c.next.new.self c.in-Ok.frame c.loop-item.count
          c.loop-item.invariant.2 finds c.in_default.not-Stream,
    )

pub returns-in-Err-clause-err : goal.returns-in-Err-clause-err
returns-in-Err-clause-err c =
    let fails =
    subst (λ r. Advances c.loop-item.item-iterator (Some r) c.next.new.self) c.in-Err.is c.in-Some.ensures.steps in
    reports c.args.payload.now c.loop-item.invariant.2.found c.loop-item.item-iterator c.next.new.self
    c.in-Err.invalid c.to_error.result c.loop-item.invariant.2.read fails c.to_error.ensures

pub returns-clause-ok : goal.returns-clause-ok
returns-clause-ok c =
    all_counted c.args.payload.now c.loop-item.item-iterator c.loop-item.count c.loop-item.invariant.2
    c.in-None.ensures.steps.0
