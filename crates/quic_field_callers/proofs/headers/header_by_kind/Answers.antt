use Rattle.std.proofs.Common.{◌-◌, length, slice_index, ap, ◌∙◌}
use Rattle.quic_fields.specs.Walk.{stored}
use Rattle.quic_header_fields.specs.Headers.{spans_in}
use Rattle.quic_field_callers.proofs.headers.header_by_kind.Goals as goal

pub returns-in-None : goal.returns-in-None
returns-in-None c =
    let s = c.header_spans-walked in
    let bytes = c.args.bytes.now in
    let laws = c.one_list_of_spans.ensures in
    let h = s.ensures.ok c.in-None.is in
    let head = laws.headers c.args.id_len c.args.versions.now (length bytes) bytes h.header h.spans h.rest h.here in
    let spans = spans_in (slice_index bytes 0) (length bytes - length h.rest) h.header in
    let kind = c.spans_of_each_kind.ensures.headers c.args.id_len c.args.versions.now bytes h.header h.rest head in
    let same = laws.one c.args.id_len c.args.versions.now (length bytes) bytes h.header h.header h.spans spans h.rest h.rest
    h.here kind in
    (h.header, h.rest, head, h.room ∙ ap (λ l. stored 0 l c.args.room.now) same.0, h.stop)
