use Rattle.std.proofs.Common.{List, ◌≡◌, ◌+◌, length, map, sym, subst, ◌∙◌}
use Rattle.quic_fields.specs.Walk.{stored, last_end}
use Rattle.quic_header_decode.specs.Places.{any_fixed}
use Rattle.quic_header_fields.specs.declared.row.Kind.{Kind}
use Rattle.quic_header_fields.specs.Kinds.{field_of}
use Rattle.quic_header_fields.specs.Inside.{stop_at}
use Rattle.quic_header_fields.specs.Walk.{walk_at}
use Rattle.quic_header_fields.proofs.WalkSteps.{step_found, all_stored, all_counted, all_ended}
use Rattle.quic_header_fields.proofs.field.+walk.Goals as goal

pub returns-clause-spans : goal.returns-clause-spans
returns-clause-spans t c = λ before same.
    let known = c.args.given.known in
    let options = any_fixed c.args.given.id_len c.args.versions.now in
    let others : List Kind = c.in-Some.others.now in
    let fields = map (field_of c.args.given.version) others in
    let step = step_found known options c.args.index c.args.start (field_of c.args.given.version c.in-Some.kind.now) fields
    before c.args.bytes.now c.in-Some-read_field.number c.in-Some-read_field.seen c.in-Some-read_field.rest.now
    (c.in-Some-read_field.ensures.gives before same) in
    subst (λ (kinds : List Kind). c.walk.new.room ≡ stored c.args.index (walk_at known options c.args.index c.args.start (map (field_of c.args.given.version) kinds) before c.args.bytes.now).0 c.args.room.now)
    (sym c.in-Some.ensures.cases.0)
    (all_stored known options c.args.index c.args.start fields before c.args.bytes.now c.in-Some-read_field.number
    c.in-Some-read_field.seen c.in-Some-read_field.rest.now _ _ c.saturating_sub.result c.args.room.now c.put.new.room c.walk.new.room step c.saturating_sub.ensures
    c.put.ensures (c.walk.ensures.spans _ step.seen))

pub returns-clause-count : goal.returns-clause-count
returns-clause-count t c = λ before same.
    let known = c.args.given.known in
    let options = any_fixed c.args.given.id_len c.args.versions.now in
    let others : List Kind = c.in-Some.others.now in
    let fields = map (field_of c.args.given.version) others in
    let step = step_found known options c.args.index c.args.start (field_of c.args.given.version c.in-Some.kind.now) fields
    before c.args.bytes.now c.in-Some-read_field.number c.in-Some-read_field.seen c.in-Some-read_field.rest.now
    (c.in-Some-read_field.ensures.gives before same) in
    subst (λ (kinds : List Kind). c.walk.result.0 ≡ c.args.index + length (walk_at known options c.args.index c.args.start (map (field_of c.args.given.version) kinds) before c.args.bytes.now).0)
    (sym c.in-Some.ensures.cases.0)
    (all_counted known options c.args.index c.args.start fields before c.args.bytes.now c.in-Some-read_field.number
    c.in-Some-read_field.seen c.in-Some-read_field.rest.now _ _ c.saturating_sub.result c.walk.result.0 step c.saturating_sub.ensures
    (c.walk.ensures.count _ step.seen))

pub returns-clause-end : goal.returns-clause-end
returns-clause-end t c = λ before same.
    let known = c.args.given.known in
    let options = any_fixed c.args.given.id_len c.args.versions.now in
    let others : List Kind = c.in-Some.others.now in
    let fields = map (field_of c.args.given.version) others in
    let step = step_found known options c.args.index c.args.start (field_of c.args.given.version c.in-Some.kind.now) fields
    before c.args.bytes.now c.in-Some-read_field.number c.in-Some-read_field.seen c.in-Some-read_field.rest.now
    (c.in-Some-read_field.ensures.gives before same) in
    subst (λ (kinds : List Kind). c.walk.result.1 ≡ last_end c.args.start (walk_at known options c.args.index c.args.start (map (field_of c.args.given.version) kinds) before c.args.bytes.now).0)
    (sym c.in-Some.ensures.cases.0)
    (all_ended known options c.args.index c.args.start fields before c.args.bytes.now c.in-Some-read_field.number
    c.in-Some-read_field.seen c.in-Some-read_field.rest.now _ _ c.saturating_sub.result c.walk.result.1 step c.saturating_sub.ensures
    (c.walk.ensures.end _ step.seen))

pub returns-clause-inside : goal.returns-clause-inside
returns-clause-inside t c = λ before same.
    let known = c.args.given.known in
    let options = any_fixed c.args.given.id_len c.args.versions.now in
    let others : List Kind = c.in-Some.others.now in
    let fields = map (field_of c.args.given.version) others in
    let step = step_found known options c.args.index c.args.start (field_of c.args.given.version c.in-Some.kind.now) fields
    before c.args.bytes.now c.in-Some-read_field.number c.in-Some-read_field.seen c.in-Some-read_field.rest.now
    (c.in-Some-read_field.ensures.gives before same) in
    subst (λ (kinds : List Kind). (c.walk.result.2, c.walk.result.3)
    ≡ stop_at known options (map (field_of c.args.given.version) kinds) before c.args.bytes.now)
    (sym c.in-Some.ensures.cases.0) (c.walk.ensures.inside _ step.seen ∙ sym step.stops)
