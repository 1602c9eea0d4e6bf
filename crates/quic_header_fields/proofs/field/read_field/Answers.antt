use Rattle.quic_header_decode.specs.Places.{any_fixed}
use Rattle.quic_header_fields.proofs.field.read_field.Goals as goal

pub returns-then-given-clause-gives : goal.returns-then-given-clause-gives
returns-then-given-clause-gives c = λ before same.
    rw (c.if-given.true, c.in-DestinationId.is)
    (c.read_id.ensures.destination (any_fixed c.args.given.id_len c.args.versions.now) before same)

pub returns-else-given-clause-gives : goal.returns-else-given-clause-gives
returns-else-given-clause-gives c = λ before same.
    rw (c.if-given.false, c.in-DestinationId.is)
    (c.read_any_id.ensures.destination (any_fixed c.args.given.id_len c.args.versions.now) before same)

pub returns-then-given-2-clause-gives : goal.returns-then-given-2-clause-gives
returns-then-given-2-clause-gives c = λ before same.
    rw (c.if-given-2.true, c.in-SourceId.is)
    (c.read_id-then-given-2.ensures.source (any_fixed c.args.given.id_len c.args.versions.now) before same)

pub returns-else-given-2-clause-gives : goal.returns-else-given-2-clause-gives
returns-else-given-2-clause-gives c = λ before same.
    rw (c.if-given-2.false, c.in-SourceId.is)
    (c.read_any_id-else-given-2.ensures.source (any_fixed c.args.given.id_len c.args.versions.now) before same)
