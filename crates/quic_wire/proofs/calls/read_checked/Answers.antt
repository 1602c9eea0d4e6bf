use Rattle.std.proofs.Common.{Some, subst, sym, ◌∙◌}
use Rattle.std.specs.Prelude.{List}
use Rattle.quic_frames.specs.Checking.{AdvancesBy}
use Rattle.quic_frames.specs.declared.frame.Frame.{Frame}
use Rattle.quic_wire.proofs.Walks.{is_kept}
use Rattle.quic_wire.proofs.CheckedWalks.{HasComeBy, nothing_yet_by, one_more_by, returns_all_by, returns_refused_by}
use Rattle.quic_wire.proofs.calls.read_checked.Goals as goal

pub loop-item-init : goal.loop-item-init
loop-item-init c =
    let begun = c.into_iter-item-iterator.ensures.into_iter_gives ∙ c.in-Ok.ensures.first in (
      tt,
      tt,
      subst (λ (frames : List Frame). HasComeBy c.args.rules c.args.payload.now frames c.into_iter-item-iterator.result)
          (sym c.new-frames.ensures.items)
          (nothing_yet_by c.args.rules c.args.payload.now c.into_iter-item-iterator.result begun),
    )

pub loop-item-preserved : goal.loop-item-preserved
loop-item-preserved c =
    let finds =
    subst (λ r. AdvancesBy c.loop-item.item-iterator (Some r) c.next.new.self) c.in-Ok-item.is c.in-Some.ensures.steps in
    let kept =
    is_kept c.push.result c.is_err.result _ _ _ c.if-is_err.false c.is_err.ensures.value c.push.ensures.items in (
      tt,
      tt,
      subst (λ (frames : List Frame). HasComeBy c.args.rules c.args.payload.now frames c.next.new.self) (sym kept)
          (one_more_by c.args.rules c.args.payload.now c.loop-item.frames.items c.loop-item.item-iterator c.next.new.self
          c.in-Ok-item.frame c.loop-item.invariant.2 finds),
    )

pub returns-in-Err-clause-one : goal.returns-in-Err-clause-one
returns-in-Err-clause-one c =
    let fails =
    subst (λ r. AdvancesBy c.loop-item.item-iterator (Some r) c.next.new.self) c.in-Err.is c.in-Some.ensures.steps in
    returns_refused_by c.args.rules c.args.payload.now c.loop-item.frames.items c.loop-item.item-iterator c.in-Err.refused
    c.lasting.ensures.frames c.one_reading.ensures.one c.are_bytes.ensures c.loop-item.invariant.2 fails.0
    c.with_rules.ensures.one

pub returns-clause-one : goal.returns-clause-one
returns-clause-one c =
    returns_all_by c.args.rules c.args.payload.now c.loop-item.frames.items c.loop-item.item-iterator
    c.loop-item.invariant.2 c.in-None.ensures.steps.0 c.with_rules.ensures.one
