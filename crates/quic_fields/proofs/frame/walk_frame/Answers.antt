use Rattle.std.proofs.Common.{[], map, refl, sym, ◌∙◌, arith}
use Rattle.quic_fields.specs.Kinds.{field_of}
use Rattle.quic_fields.proofs.FrameWalks.{frame_walk_is, stop_is}
use Rattle.quic_fields.proofs.frame.walk_frame.Goals as goal

pub returns-clause-spans : goal.returns-clause-spans
returns-clause-spans c =
    let here = frame_walk_is c.args.payload.now c.in-Ok.read.0 c.in-Ok.read.1.now (map field_of c.in-Some.kinds.now)
    c.in-Ok.ensures.gives c.in-Some.ensures.fields in
    c.walk.ensures.spans [] refl ∙ rw (here, c.put.ensures, c.saturating_sub-end.ensures) refl

pub returns-clause-count : goal.returns-clause-count
returns-clause-count c =
    let here = frame_walk_is c.args.payload.now c.in-Ok.read.0 c.in-Ok.read.1.now (map field_of c.in-Some.kinds.now)
    c.in-Ok.ensures.gives c.in-Some.ensures.fields in
    let counted = c.walk.ensures.count [] refl in
    rw (here, ← c.saturating_sub-end.ensures) (omega (arith, counted))

pub returns-clause-ends : goal.returns-clause-ends
returns-clause-ends c =
    let here = frame_walk_is c.args.payload.now c.in-Ok.read.0 c.in-Ok.read.1.now (map field_of c.in-Some.kinds.now)
    c.in-Ok.ensures.gives c.in-Some.ensures.fields in
    rw (here, ← c.saturating_sub-end.ensures) (c.walk.ensures.ends [] refl)

pub returns-clause-end : goal.returns-clause-end
returns-clause-end c =
    let here = frame_walk_is c.args.payload.now c.in-Ok.read.0 c.in-Ok.read.1.now (map field_of c.in-Some.kinds.now)
    c.in-Ok.ensures.gives c.in-Some.ensures.fields in
    rw (here, ← c.saturating_sub-end.ensures) (c.walk.ensures.end [] refl)

pub returns-clause-inside : goal.returns-clause-inside
returns-clause-inside c =
    c.walk.ensures.inside [] refl ∙ sym (stop_is c.args.payload.now c.in-Ok.read.0 c.in-Ok.read.1.now
    (map field_of c.in-Some.kinds.now) c.in-Ok.ensures.gives c.in-Some.ensures.fields)
