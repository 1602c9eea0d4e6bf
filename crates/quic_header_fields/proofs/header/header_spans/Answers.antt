use Rattle.quic_header_decode.specs.Places.{any_fixed, header_in, refusal_in}
use Rattle.std.specs.Prelude.{drop}
use Rattle.quic_header_fields.proofs.HeaderLaws.{has_header, lacks_header}
use Rattle.quic_header_fields.proofs.header.header_spans.Goals as goal

pub returns-in-Ok-clause-ok : goal.returns-in-Ok-clause-ok
returns-in-Ok-clause-ok c = λ none.
    let w = c.walk_header-count.ensures in
    let bytes = c.args.bytes.now in
    has_header (any_fixed c.args.id_len c.args.versions.now) bytes c.args.room.now c.walk_header-count.new.room
    c.walk_header-count.result.0 c.walk_header-count.result.1 (header_in bytes c.in-Ok.field-0)
    (drop c.in-Ok.field-0.header_end bytes) c.in-Ok.ensures.answer w.spans w.count w.end

pub returns-in-Err-clause-err : goal.returns-in-Err-clause-err
returns-in-Err-clause-err c =
    let w = c.walk_header-count.ensures in
    let bytes = c.args.bytes.now in
    lacks_header c.args.id_len c.args.versions.now bytes c.args.room.now c.walk_header-count.new.room
    c.walk_header-count.result.0 c.walk_header-count.result.1 (refusal_in bytes c.in-Err.e)
    (λ i. (c.type_inv.bytes i).fits) c.in-Err.ensures.answer w.spans w.count w.end
