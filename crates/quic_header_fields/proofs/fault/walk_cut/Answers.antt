-- The first byte and the fields of the row but the last are read.
use Rattle.std.proofs.Common.{[], map, refl, ap, ◌∙◌, ℕ}
use Rattle.quic_header_decode.specs.Places.{any_fixed}
use Rattle.quic_header_fields.specs.Fault.{but_last, cut_walk}
use Rattle.quic_header_fields.specs.Kinds.{field_of}
use Rattle.quic_header_fields.proofs.Faults.{long_cut}
use Rattle.quic_header_fields.proofs.Whole.{whole_stored, whole_counted, whole_ended}
use Rattle.quic_header_fields.proofs.fault.walk_cut.Goals as goal

pub returns-clause-spans : goal.returns-clause-spans
returns-clause-spans c =
    let options = any_fixed c.args.id_len c.args.versions.now in
    let first : ℕ = c.in-Some.first.now in
    let version : ℕ = c.in-Some-word.version in
    let row = c.but_last-kinds.ensures.fields version ∙ ap but_last c.row.ensures.fields in
    let whole = long_cut options first version c.is_known-known.result c.in-Some.text.now c.in-Some-word.field-0-1.now
    c.args.bytes.now (map (field_of version) c.but_last-kinds.result.now) c.in-Some.ensures.cases.0
    c.in-Some-word.ensures.finds (c.is_known-known.ensures c.args.id_len) row in
    whole_stored first _ (cut_walk options c.args.bytes.now) c.args.room.now c.put.new.room c.walk-count.new.room
    c.from.result whole c.from.ensures c.put.ensures (c.walk-count.ensures.spans [] refl)

pub returns-clause-count : goal.returns-clause-count
returns-clause-count c =
    let options = any_fixed c.args.id_len c.args.versions.now in
    let first : ℕ = c.in-Some.first.now in
    let version : ℕ = c.in-Some-word.version in
    let row = c.but_last-kinds.ensures.fields version ∙ ap but_last c.row.ensures.fields in
    let whole = long_cut options first version c.is_known-known.result c.in-Some.text.now c.in-Some-word.field-0-1.now
    c.args.bytes.now (map (field_of version) c.but_last-kinds.result.now) c.in-Some.ensures.cases.0
    c.in-Some-word.ensures.finds (c.is_known-known.ensures c.args.id_len) row in
    whole_counted first _ (cut_walk options c.args.bytes.now) c.walk-count.result.0 whole
    (c.walk-count.ensures.count [] refl)

pub returns-clause-end : goal.returns-clause-end
returns-clause-end c =
    let options = any_fixed c.args.id_len c.args.versions.now in
    let first : ℕ = c.in-Some.first.now in
    let version : ℕ = c.in-Some-word.version in
    let row = c.but_last-kinds.ensures.fields version ∙ ap but_last c.row.ensures.fields in
    let whole = long_cut options first version c.is_known-known.result c.in-Some.text.now c.in-Some-word.field-0-1.now
    c.args.bytes.now (map (field_of version) c.but_last-kinds.result.now) c.in-Some.ensures.cases.0
    c.in-Some-word.ensures.finds (c.is_known-known.ensures c.args.id_len) row in
    whole_ended first _ (cut_walk options c.args.bytes.now) c.walk-count.result.1 whole
    (c.walk-count.ensures.end [] refl)
