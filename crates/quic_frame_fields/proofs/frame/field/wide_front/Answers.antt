use Rattle.quic_frame_fields.proofs.Varints.{varint_found}
use Rattle.quic_frame_fields.proofs.WideRanges.{wide_few, wide_read}
use Rattle.std.proofs.Common.{arith}
use Rattle.quic_frame_fields.proofs.frame.field.wide_front.Goals as goal

pub overflow_sub-result-2 : goal.overflow_sub-result-2
overflow_sub-result-2 c =
    let few =
    wide_few c.in-Ok.between c.in-Ok-split_var.length c.args.front.now c.in-Ok.rest.now
    c.in-Ok-split_var.rest.now c.fits-front (varint_found _ _ c.in-Ok.ensures.found) (varint_found _ _ c.in-Ok-split_var.ensures.found) in
    omega (arith, few, c.told-front)

pub returns-clause-read : goal.returns-clause-read
returns-clause-read c =
    wide_read c.args.low c.in-Ok.between c.in-Ok-split_var.length c.args.front.now c.in-Ok.rest.now
    c.in-Ok-split_var.rest.now c.told-front c.fits-front (varint_found _ _ c.in-Ok.ensures.found)
    (varint_found _ _ c.in-Ok-split_var.ensures.found) (omega (arith, c.if-all-low.false))
