use Rattle.std.proofs.Common.{sym, ◌∙◌, ℕ, ◌≡◌, [], false, map, refl, arith}
use Rattle.std.proofs.lemmas.Bool.Decides.{nat_tests}
use Rattle.quic_header_decode.specs.Grammar.{is_long}
use Rattle.quic_header_decode.specs.Places.{any_fixed}
use Rattle.quic_header_fields.specs.Kinds.{field_of}
use Rattle.quic_header_fields.specs.Walk.{header_walk}
use Rattle.quic_header_fields.proofs.Whole.{short_whole, long_whole, short_stop, long_stop, whole_stored, whole_counted, whole_ended}
use Rattle.quic_header_fields.proofs.header.walk_header.Goals as goal

pub returns-then-first-lt128-clause-spans : goal.returns-then-first-lt128-clause-spans
returns-then-first-lt128-clause-spans c =
    let options = any_fixed c.args.id_len c.args.versions.now in
    let first : ℕ = c.in-Some.first.now in
    let short : is_long first ≡ false = grind (arith, nat_tests, c.if-first-lt128.true) in
    let whole = short_whole options first c.in-Some.text.now c.args.bytes.now (map (field_of 0) c.row.result.now)
    c.in-Some.ensures.cases.0 short c.row.ensures.fields in
    whole_stored first _ (header_walk options c.args.bytes.now).0 c.args.room.now c.put.new.room c.walk.new.room c.from.result whole c.from.ensures c.put.ensures (c.walk.ensures.spans [] refl)

pub returns-then-first-lt128-clause-count : goal.returns-then-first-lt128-clause-count
returns-then-first-lt128-clause-count c =
    let options = any_fixed c.args.id_len c.args.versions.now in
    let first : ℕ = c.in-Some.first.now in
    let short : is_long first ≡ false = grind (arith, nat_tests, c.if-first-lt128.true) in
    let whole = short_whole options first c.in-Some.text.now c.args.bytes.now (map (field_of 0) c.row.result.now)
    c.in-Some.ensures.cases.0 short c.row.ensures.fields in
    whole_counted first _ (header_walk options c.args.bytes.now).0 c.walk.result.0 whole (c.walk.ensures.count [] refl)

pub returns-then-first-lt128-clause-end : goal.returns-then-first-lt128-clause-end
returns-then-first-lt128-clause-end c =
    let options = any_fixed c.args.id_len c.args.versions.now in
    let first : ℕ = c.in-Some.first.now in
    let short : is_long first ≡ false = grind (arith, nat_tests, c.if-first-lt128.true) in
    let whole = short_whole options first c.in-Some.text.now c.args.bytes.now (map (field_of 0) c.row.result.now)
    c.in-Some.ensures.cases.0 short c.row.ensures.fields in
    whole_ended first _ (header_walk options c.args.bytes.now).0 c.walk.result.1 whole (c.walk.ensures.end [] refl)

pub returns-clause-spans : goal.returns-clause-spans
returns-clause-spans c =
    let options = any_fixed c.args.id_len c.args.versions.now in
    let first : ℕ = c.in-Some.first.now in
    let version : ℕ = c.in-Some-word.version in
    let whole = long_whole options first version c.is_known-known.result c.in-Some.text.now c.in-Some-word.field-0-1.now
    c.args.bytes.now (map (field_of version) c.row-2.result.now) c.in-Some.ensures.cases.0 c.in-Some-word.ensures.finds
    (c.is_known-known.ensures c.args.id_len) c.row-2.ensures.fields in
    whole_stored first _ (header_walk options c.args.bytes.now).0 c.args.room.now c.put.new.room c.walk-2.new.room c.from.result whole c.from.ensures c.put.ensures (c.walk-2.ensures.spans [] refl)

pub returns-clause-count : goal.returns-clause-count
returns-clause-count c =
    let options = any_fixed c.args.id_len c.args.versions.now in
    let first : ℕ = c.in-Some.first.now in
    let version : ℕ = c.in-Some-word.version in
    let whole = long_whole options first version c.is_known-known.result c.in-Some.text.now c.in-Some-word.field-0-1.now
    c.args.bytes.now (map (field_of version) c.row-2.result.now) c.in-Some.ensures.cases.0 c.in-Some-word.ensures.finds
    (c.is_known-known.ensures c.args.id_len) c.row-2.ensures.fields in
    whole_counted first _ (header_walk options c.args.bytes.now).0 c.walk-2.result.0 whole (c.walk-2.ensures.count [] refl)

pub returns-clause-end : goal.returns-clause-end
returns-clause-end c =
    let options = any_fixed c.args.id_len c.args.versions.now in
    let first : ℕ = c.in-Some.first.now in
    let version : ℕ = c.in-Some-word.version in
    let whole = long_whole options first version c.is_known-known.result c.in-Some.text.now c.in-Some-word.field-0-1.now
    c.args.bytes.now (map (field_of version) c.row-2.result.now) c.in-Some.ensures.cases.0 c.in-Some-word.ensures.finds
    (c.is_known-known.ensures c.args.id_len) c.row-2.ensures.fields in
    whole_ended first _ (header_walk options c.args.bytes.now).0 c.walk-2.result.1 whole (c.walk-2.ensures.end [] refl)

pub returns-then-first-lt128-clause-inside : goal.returns-then-first-lt128-clause-inside
returns-then-first-lt128-clause-inside c =
    let options = any_fixed c.args.id_len c.args.versions.now in
    let first : ℕ = c.in-Some.first.now in
    let short : is_long first ≡ false = grind (arith, nat_tests, c.if-first-lt128.true) in
    let whole = short_stop options first c.in-Some.text.now c.args.bytes.now (map (field_of 0) c.row.result.now)
    c.in-Some.ensures.cases.0 short c.row.ensures.fields in
    c.walk.ensures.inside [] refl ∙ sym whole

pub returns-clause-inside : goal.returns-clause-inside
returns-clause-inside c =
    let options = any_fixed c.args.id_len c.args.versions.now in
    let first : ℕ = c.in-Some.first.now in
    let version : ℕ = c.in-Some-word.version in
    let whole = long_stop options first version c.is_known-known.result c.in-Some.text.now c.in-Some-word.field-0-1.now
    c.args.bytes.now (map (field_of version) c.row-2.result.now) c.in-Some.ensures.cases.0 c.in-Some-word.ensures.finds
    (c.is_known-known.ensures c.args.id_len) c.row-2.ensures.fields in
    c.walk-2.ensures.inside [] refl ∙ sym whole
