use Rattle.std.proofs.Common.{Some, [], false, refl, subst, ◌∙◌}
use Rattle.quic_frames.specs.Walk.{Advances}
use Rattle.quic_frames.proofs.Turns.{has_read_none}
use Rattle.quic_wire.proofs.Walks.{on_the_way, lost, may_go_on, may_follow, may_begin}
use Rattle.quic_wire.proofs.calls.is_lost.Goals as goal

pub loop-item-init : goal.loop-item-init
loop-item-init c = (
  tt,
  tt,
  ([], has_read_none false c.args.front.now _ (c.into_iter-item-iterator.ensures.into_iter_gives ∙ c.in-Ok.ensures.first)),
)

pub loop-item-preserved : goal.loop-item-preserved
loop-item-preserved c = (
  tt,
  tt,
  on_the_way c.args.front.now c.loop-item.item-iterator c.next.new.self c.in-Ok-item.field-0 c.loop-item.invariant.2
      (subst (λ r. Advances c.loop-item.item-iterator (Some r) c.next.new.self) c.in-Ok-item.is c.in-Some.ensures.steps),
)

pub returns-in_default-clause-going : goal.returns-in_default-clause-going
returns-in_default-clause-going c = λ _. may_begin c.args.front.now
    (c.every_payload.ensures false c.args.front.now c.are_bytes.ensures) (c.in_default.ensures.empty.0 refl)

pub returns-in-Err-clause-lost : goal.returns-in-Err-clause-lost
returns-in-Err-clause-lost c =
    let fails =
    subst (λ r. Advances c.loop-item.item-iterator (Some r) c.next.new.self) c.in-Err.is c.in-Some.ensures.steps in
    lost c.args.front.now c.loop-item.item-iterator c.in-Err.invalid c.is_final.result c.lasting.ensures.front
    c.loop-item.invariant.2 fails.lacks c.is_final.ensures

pub returns-in-Err-clause-going : goal.returns-in-Err-clause-going
returns-in-Err-clause-going c =
    let fails =
    subst (λ r. Advances c.loop-item.item-iterator (Some r) c.next.new.self) c.in-Err.is c.in-Some.ensures.steps in
    may_go_on c.args.front.now c.loop-item.item-iterator c.in-Err.invalid c.is_final.result
    (c.every_payload.ensures false c.args.front.now c.are_bytes.ensures) c.loop-item.invariant.2 fails.lacks
    c.is_final.ensures

pub returns-clause-going : goal.returns-clause-going
returns-clause-going c = λ _. may_follow c.args.front.now c.loop-item.item-iterator
    (c.every_payload.ensures false c.args.front.now c.are_bytes.ensures) c.loop-item.invariant.2
    c.in-None.ensures.steps.0
