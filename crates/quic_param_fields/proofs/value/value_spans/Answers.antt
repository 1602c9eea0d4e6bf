use Rattle.std.proofs.Common.{ap, ◌∙◌}
use Rattle.quic_param_fields.specs.Rows.{fields_of}
use Rattle.quic_param_fields.proofs.Reading.{ruled_value, ruled_fault}
use Rattle.quic_param_fields.proofs.value.value_spans.Goals as goal

pub returns-in-None-clause-ok : goal.returns-in-None-clause-ok
returns-in-None-clause-ok c =
    ruled_value c.args.any_width c.args.id c.in-Some.id c.row-2.result.now c.args.value.now c.args.room.now c.walk-read.new.room
    c.walk-read.result c.rule.result (c.row-2.ensures.fields ∙ ap fields_of c.sort_of.ensures) c.in-Some.ensures
    (c.walk-read.ensures.ok c.in-None.is) c.rule.ensures

pub returns-in-None-clause-err : goal.returns-in-None-clause-err
returns-in-None-clause-err c =
    ruled_fault c.args.any_width c.args.id c.in-Some.id c.row-2.result.now c.args.value.now c.args.room.now c.walk-read.new.room
    c.walk-read.result c.rule.result (c.row-2.ensures.fields ∙ ap fields_of c.sort_of.ensures) c.in-Some.ensures
    (c.walk-read.ensures.ok c.in-None.is) c.rule.ensures
