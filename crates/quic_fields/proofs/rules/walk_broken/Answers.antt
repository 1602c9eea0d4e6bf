use Rattle.std.proofs.Common.{[], map, refl, ◌∙◌, arith}
use Rattle.quic_fields.specs.Kinds.{field_of}
use Rattle.quic_fields.proofs.RuleSpans.{broken_walk_is}
use Rattle.quic_fields.proofs.rules.walk_broken.Goals as goal

pub returns-clause-spans : goal.returns-clause-spans
returns-clause-spans c =
    let here = broken_walk_is c.args.payload.now c.in-Ok.read.0 c.in-Ok.read.1.now (map field_of c.in-Some.kinds.now)
    c.in-Ok.ensures.gives c.in-Some.ensures.fields in
    c.walk-walked.ensures.spans [] refl
    ∙ rw (here, c.put.ensures, c.saturating_sub-end.ensures, c.before_number.ensures.fields) refl

pub returns-clause-count : goal.returns-clause-count
returns-clause-count c =
    let here = broken_walk_is c.args.payload.now c.in-Ok.read.0 c.in-Ok.read.1.now (map field_of c.in-Some.kinds.now)
    c.in-Ok.ensures.gives c.in-Some.ensures.fields in
    let counted = c.walk-walked.ensures.count [] refl in
    rw (here, ← c.saturating_sub-end.ensures, ← c.before_number.ensures.fields) (omega (arith, counted))

pub returns-clause-end : goal.returns-clause-end
returns-clause-end c =
    let here = broken_walk_is c.args.payload.now c.in-Ok.read.0 c.in-Ok.read.1.now (map field_of c.in-Some.kinds.now)
    c.in-Ok.ensures.gives c.in-Some.ensures.fields in
    rw (here, ← c.saturating_sub-end.ensures, ← c.before_number.ensures.fields) (c.walk-walked.ensures.end [] refl)
