use Rattle.std.proofs.Common.{[], ◌∷◌, ◌++◌, None, Some, ap, subst, ◌∙◌}
use Rattle.quic_frames.specs.Checking.{AdvancesBy}
use Rattle.quic_frames.specs.Rules.{Checked}
use Rattle.quic_frames.specs.Walk.{invalid_of}
use Rattle.quic_frames.proofs.CheckedTurns.{all_read_by, ended_with, more_read_by, none_read_by, refused_by}
use Rattle.quic_frames.proofs.frame.checked.first_error.Goals as goal

pub loop-item-init : goal.loop-item-init
loop-item-init c =
    let begun = c.into_iter-item-iterator.ensures.into_iter_gives ∙ c.in-Some.ensures.state in
    (tt, tt, ([], none_read_by c.args.rules c.args.payload.now c.into_iter-item-iterator.result begun))

pub loop-item-preserved : goal.loop-item-preserved
loop-item-preserved c =
    let finds =
    subst (λ r. AdvancesBy c.loop-item.item-iterator (Some r) c.next.new.self) c.in-Ok.is c.in-Some-item.ensures.steps in
    let read = c.loop-item.invariant.2 in (
      tt,
      tt,
      (
        read.0 ++ finds.0.finds.found ∷ [],
        more_read_by c.args.rules c.args.payload.now read.0 c.loop-item.item-iterator c.next.new.self c.in-Ok._frame
            read.1 finds.0 finds.1,
      ),
    )

pub returns-in-Err : goal.returns-in-Err
returns-in-Err c =
    let fails =
    subst (λ r. AdvancesBy c.loop-item.item-iterator (Some r) c.next.new.self) c.in-Err.is c.in-Some-item.ensures.steps in
    let one = c.checked_readings.ensures.one c.args.rules None c.args.payload.now c.are_bytes.ensures in
    let read = c.loop-item.invariant.2 in
    record {
      one = one;
      returned = ap (λ (x : Checked). x.error) (one.only (ended_with read.0 (Some (invalid_of c.in-Err.invalid)))
          (refused_by c.args.rules c.args.payload.now read.0 c.loop-item.item-iterator (invalid_of c.in-Err.invalid)
          c.lasting.ensures.frames c.one_reading.ensures.one c.are_bytes.ensures read.1 fails.0));
    }

pub returns : goal.returns
returns c =
    let one = c.checked_readings.ensures.one c.args.rules None c.args.payload.now c.are_bytes.ensures in
    let read = c.loop-item.invariant.2 in
    record {
      one = one;
      returned = ap (λ (x : Checked). x.error) (one.only (ended_with read.0 None)
          (all_read_by c.args.rules c.args.payload.now read.0 c.loop-item.item-iterator read.1
          c.in-None.ensures.steps.0));
    }
