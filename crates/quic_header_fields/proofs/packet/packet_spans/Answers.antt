use Rattle.std.specs.Prelude.{drop}
use Rattle.quic_header_decode.specs.Places.{any_fixed, dst_part, src_part, refusal_in}
use Rattle.quic_header_fields.proofs.After.{has_fields}
use Rattle.quic_header_fields.proofs.HeaderLaws.{lacks_header}
use Rattle.quic_header_fields.proofs.packet.packet_spans.Goals as goal

pub returns-in-Ok-clause-ok : goal.returns-in-Ok-clause-ok
returns-in-Ok-clause-ok c = λ none.
    let w = c.walk_header-count.ensures in
    let p = c.put_after-all.ensures in
    let bytes = c.args.bytes.now in
    let x = c.in-Ok.x in
    has_fields (any_fixed c.args.id_len c.args.versions.now) bytes c.args.room.now c.walk_header-count.new.room
    c.put_after-all.new.room c.walk_header-count.result.0 c.walk_header-count.result.1 c.put_after-all.result.0
    c.put_after-all.result.1 x.kind x.first (dst_part bytes x) (src_part bytes x) x.token x.len x.version
    (drop x.header_end bytes) c.in-Ok.ensures.answer w.spans w.count w.end p.spans p.count p.end

pub returns-in-Err-clause-err : goal.returns-in-Err-clause-err
returns-in-Err-clause-err c =
    let w = c.walk_header-count.ensures in
    let bytes = c.args.bytes.now in
    lacks_header c.args.id_len c.args.versions.now bytes c.args.room.now c.walk_header-count.new.room
    c.walk_header-count.result.0 c.walk_header-count.result.1 (refusal_in bytes c.in-Err.e)
    (λ i. (c.type_inv.bytes i).fits) c.in-Err.ensures.answer w.spans w.count w.end
