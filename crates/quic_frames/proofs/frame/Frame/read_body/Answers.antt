use Rattle.std.proofs.Common.{◌<◌, ◌^◌, refl, rules}
use Rattle.quic_frames.proofs.Bodies.{reads_body, lacks_body}
use Rattle.quic_frames.proofs.frame.Frame.read_body.Goals as goal

pub returns-in-Ok-clause-frame : goal.returns-in-Ok-clause-frame
returns-in-Ok-clause-frame c strict =
    let given = c.in-Ok.ensures in
    let lt : c.args.ty < 2 ^ 62 = search rules in
    reads_body strict c.args.ty c.args.body.now c.in-Ok.frame c.in-Ok.rest.now lt c.are_bytes.ensures given.1 given.2
    (rw (← c.into_inner.ensures) given.0)

pub returns-in-Err-clause-reason : goal.returns-in-Err-clause-reason
returns-in-Err-clause-reason c strict =
    let lt : c.args.ty < 2 ^ 62 = search rules in
    rw c.reason.ensures (lacks_body strict c.args.ty c.args.body.now _ c.in-Err.fault lt c.are_bytes.ensures refl
    (rw (← c.into_inner.ensures) c.in-Err.ensures.0))
