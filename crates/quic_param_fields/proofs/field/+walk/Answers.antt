use Rattle.std.proofs.Common.{◌+◌, List, sym, subst}
use Rattle.std.specs.Prelude.{IfSome}
use Rattle.quic_param_fields.specs.declared.row.Kind.{Kind}
use Rattle.quic_param_fields.specs.declared.field.Reason.{Reason}
use Rattle.quic_param_fields.specs.Fields.{HasFields, StopsIn}
use Rattle.quic_param_fields.proofs.Reading.{fields_more, stops_more, stops_if}
use Rattle.quic_param_fields.proofs.field.+walk.Goals as goal

pub returns-in-Ok-clause-ok : goal.returns-in-Ok-clause-ok
returns-in-Ok-clause-ok t c = λ none.
    subst (λ (kinds : List Kind). HasFields c.args.index c.args.start kinds c.args.bytes.now c.args.room.now c.walk.new.room c.walk.result)
    (sym c.in-Some.ensures.cases.0)
    (fields_more c.args.index c.args.start c.in-Some.kind.now c.in-Some.others.now c.in-Ok.number c.args.bytes.now c.in-Ok.rest.now
    c.saturating_sub.result c.args.room.now c.put.new.room c.walk.new.room c.walk.result c.in-Ok.ensures.ok c.saturating_sub.ensures
    c.put.ensures (c.walk.ensures.ok none))

pub returns-in-Ok-clause-err : goal.returns-in-Ok-clause-err
returns-in-Ok-clause-err t c =
    subst (λ (kinds : List Kind). IfSome c.walk.result.fault (λ (reason : Reason). StopsIn c.args.index c.args.start kinds c.args.bytes.now c.args.room.now c.walk.new.room c.walk.result))
    (sym c.in-Some.ensures.cases.0)
    (stops_if c.args.index c.args.start (c.args.index + 1) (c.args.start + c.saturating_sub.result) c.in-Some.kind.now c.in-Some.others.now
    c.args.bytes.now c.in-Ok.rest.now c.args.room.now c.put.new.room c.walk.new.room c.walk.result c.walk.result.fault
    (stops_more c.args.index c.args.start c.in-Some.kind.now c.in-Some.others.now c.in-Ok.number c.args.bytes.now c.in-Ok.rest.now
    c.saturating_sub.result c.args.room.now c.put.new.room c.walk.new.room c.walk.result c.in-Ok.ensures.ok c.saturating_sub.ensures
    c.put.ensures) c.walk.ensures.err)
