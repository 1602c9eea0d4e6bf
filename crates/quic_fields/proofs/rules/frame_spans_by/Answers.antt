use Rattle.std.proofs.Common.{◌∙◌, [], false, refl, sym, ap, subst, inl}
use Rattle.std.specs.Prelude.{IfSome}
use Rattle.quic_frame_fields.specs.Reading.{varint_at}
use Rattle.quic_fields.specs.Inside.{stop_in_frame}
use Rattle.quic_fields.specs.Stopping.{StopsAtField}
use Rattle.quic_fields.specs.Walk.{LacksSpans}
use Rattle.quic_fields.proofs.TypeRules.{judged, refused}
use Rattle.quic_fields.proofs.RuleSpans.{allowed_front, has_by, lacks_broken, lacks_by, none_left}
use Rattle.quic_fields.proofs.rules.frame_spans_by.Goals as goal

pub returns-in-Some-clause-err : goal.returns-in-Some-clause-err
returns-in-Some-clause-err c =
    let payload = c.args.payload.now in
    record {
      spans = [];
      refused = inl (
        refused c.args.rules payload (varint_at payload) c.in-Some.fault (λ i. (c.type_inv.payload i).fits) refl
            (sym c.in-Some.ensures),
        refl,
        refl,
      );
      room = refl;
      all = refl;
      stop = refl;
    }

pub returns-in-Some-breach_at-clause-err : goal.returns-in-Some-breach_at-clause-err
returns-in-Some-breach_at-clause-err c =
    let payload = c.args.payload.now in
    let kept = judged c.args.rules payload (varint_at payload) (λ i. (c.type_inv.payload i).fits) refl
    (sym c.type_fault.ensures ∙ none_left c.type_fault.result c.in_default.not-Some) in
    let breach = c.in-Some-breach_at.breach in
    let front = c.in-Some-breach_at.ensures.breaks in
    let w = c.walk_broken.ensures in
    lacks_broken c.args.rules payload c.args.room.now c.walk_broken.new.room c.walk_broken.result.count
    c.walk_broken.result.end breach (allowed_front c.args.rules payload breach front kept) front w.spans w.count w.end

pub returns-in-Some-fault-clause-err : goal.returns-in-Some-fault-clause-err
returns-in-Some-fault-clause-err c =
    let payload = c.args.payload.now in
    let kept = judged c.args.rules payload (varint_at payload) (λ i. (c.type_inv.payload i).fits) refl
    (sym c.type_fault.ensures ∙ none_left c.type_fault.result c.in_default.not-Some) in
    let w = c.frame_spans-walked in
    let lacks : LacksSpans payload c.args.room.now w.new.room w.result.count w.result.end c.in-Some-fault.fault =
    subst (λ o. IfSome o (λ reason. LacksSpans payload c.args.room.now w.new.room w.result.count w.result.end reason))
    c.in-Some-fault.is w.ensures.err in
    rw (c.reach_of.ensures.count, c.reach_of.ensures.end)
    (lacks_by c.args.rules payload c.args.room.now w.new.room w.result.count w.result.end c.in-Some-fault.fault lacks kept)

pub returns-in-Some-fault-clause-inside : goal.returns-in-Some-fault-clause-inside
returns-in-Some-fault-clause-inside c =
    let payload = c.args.payload.now in
    let w = c.frame_spans-walked in
    let reason = c.in-Some-fault.fault in
    let lacks : LacksSpans payload c.args.room.now w.new.room w.result.count w.result.end reason =
    subst (λ o. IfSome o (λ reason. LacksSpans payload c.args.room.now w.new.room w.result.count w.result.end reason))
    c.in-Some-fault.is w.ensures.err in
    rw (c.reach_of.ensures.inside, c.reach_of.ensures.numbers, c.reach_of.ensures.count, c.reach_of.ensures.end)
    (subst (StopsAtField payload w.result.count w.result.end reason) (sym w.ensures.inside)
    (c.where_reading_stops.ensures.front payload lacks.spans w.result.count w.result.end reason
    (λ i. (c.type_inv.payload i).fits) lacks.no_frame lacks.stop))

pub returns-in-None-clause-inside : goal.returns-in-None-clause-inside
returns-in-None-clause-inside c =
    let w = c.frame_spans-walked in
    let has = w.ensures.ok c.in-None.is in
    rw (c.reach_of-in-None.ensures.inside, c.reach_of-in-None.ensures.numbers)
    (w.ensures.inside ∙ ap stop_in_frame has.parts
    ∙ c.where_reading_stops.ensures.frame false has.found has.spans has.front has.back has.frame has.opens)

pub returns-in-None-clause-ok : goal.returns-in-None-clause-ok
returns-in-None-clause-ok c = λ _.
    let payload = c.args.payload.now in
    let kept = judged c.args.rules payload (varint_at payload) (λ i. (c.type_inv.payload i).fits) refl
    (sym c.type_fault.ensures ∙ none_left c.type_fault.result c.in_default.not-Some) in
    let w = c.frame_spans-walked in
    let keeps = c.breach_at.ensures.keeps (none_left c.breach_at.result c.in_default-breach_at.not-Some) in
    rw (c.reach_of-in-None.ensures.count, c.reach_of-in-None.ensures.end)
    (has_by c.args.rules payload c.args.room.now w.new.room w.result.count w.result.end (w.ensures.ok c.in-None.is) kept keeps)
