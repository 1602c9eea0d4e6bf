use Rattle.std.proofs.Common.{Some, false, subst, sym, ◌∙◌}
use Rattle.std.specs.Prelude.{List}
use Rattle.quic_frames.specs.Walk.{Advances}
use Rattle.quic_frames.specs.declared.frame.Frame.{Frame}
use Rattle.quic_wire.proofs.Walks.{HasCome, nothing_yet, one_more, is_kept, returns_all, returns_error}
use Rattle.quic_wire.proofs.calls.read_payload.Goals as goal

pub loop-item-init : goal.loop-item-init
loop-item-init c =
    let begun = c.into_iter-item-iterator.ensures.into_iter_gives ∙ c.in-Ok.ensures.first in (
      tt,
      tt,
      subst (λ (frames : List Frame). HasCome c.args.payload.now frames c.into_iter-item-iterator.result)
          (sym c.new-frames.ensures.items) (nothing_yet c.args.payload.now c.into_iter-item-iterator.result begun),
    )

pub loop-item-preserved : goal.loop-item-preserved
loop-item-preserved c =
    let finds =
    subst (λ r. Advances c.loop-item.item-iterator (Some r) c.next.new.self) c.in-Ok-item.is c.in-Some.ensures.steps in
    let kept =
    is_kept c.push.result c.is_err.result _ _ _ c.if-is_err.false c.is_err.ensures.value c.push.ensures.items in (
      tt,
      tt,
      subst (λ (frames : List Frame). HasCome c.args.payload.now frames c.next.new.self) (sym kept)
          (one_more c.args.payload.now c.loop-item.frames.items c.loop-item.item-iterator c.next.new.self
          c.in-Ok-item.frame c.loop-item.invariant.2 finds),
    )

pub returns-in-Err-clause-one : goal.returns-in-Err-clause-one
returns-in-Err-clause-one c =
    let fails =
    subst (λ r. Advances c.loop-item.item-iterator (Some r) c.next.new.self) c.in-Err.is c.in-Some.ensures.steps in
    returns_error c.args.payload.now c.loop-item.frames.items c.loop-item.item-iterator c.in-Err.invalid
    c.loop-item.invariant.2 fails.lacks (c.every_payload.ensures false c.args.payload.now c.are_bytes.ensures)

pub returns-clause-one : goal.returns-clause-one
returns-clause-one c =
    returns_all c.args.payload.now c.loop-item.frames.items c.loop-item.item-iterator c.loop-item.invariant.2
    c.in-None.ensures.steps.0 (c.every_payload.ensures false c.args.payload.now c.are_bytes.ensures)
