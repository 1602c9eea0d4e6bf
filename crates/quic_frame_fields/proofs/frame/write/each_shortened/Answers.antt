use Rattle.std.proofs.Common.{arith}
use Rattle.std.proofs.lemmas.Result.{err_from_is_err_and}
use Rattle.quic_frame_fields.proofs.Varints.{varint_found, varint_none}
use Rattle.quic_frame_fields.proofs.Encoded.{after_shorter, after_fits, read_more, read_all, wrote_one, wrote_them, refused_one}
use Rattle.std.proofs.lemmas.Grind.{common_steps}
use Rattle.quic_frame_fields.proofs.frame.write.each_shortened.Goals as goal

pub returns-in_err-write_var : goal.returns-in_err-write_var
returns-in_err-write_var g c ns s =
    let p = err_from_is_err_and c.from_residual.result c.from_residual.ensures.1 in
    let e = c.write_var.ensures in
    let i = c.loop-number.invariant in
    refused_one c.write_var.result c.from_residual.result p.0 _ c.loop-number.rest.now ns c.in-Ok.number
    c.in-Ok.after.now _ _ _ _ _ _ i.fits (i.read ns s) (varint_found _ _ c.in-Ok.ensures.found)
    (record { ok = e.ok; err = e.err; full = e.full; room = e.room }) c.in_err-write_var.was p.1

pub loop-number-smaller : goal.loop-number-smaller
loop-number-smaller g c =
    after_shorter c.loop-number.rest.now c.in-Ok.number c.in-Ok.after.now c.loop-number.invariant.fits (varint_found _ _ c.in-Ok.ensures.found)

pub loop-number-preserved : goal.loop-number-preserved
loop-number-preserved g c =
    let e = c.write_var.ensures in
    let i = c.loop-number.invariant in
    record {
      read = λ ns s.
          read_more _ _ c.loop-number.rest.now ns c.in-Ok.number c.in-Ok.after.now i.fits (i.read ns s) (varint_found _ _ c.in-Ok.ensures.found)
          (wrote_one c.write_var.result c.in-Ok.number _ _ _ _ _ _
          (record { ok = e.ok; err = e.err; full = e.full; room = e.room }) c.in_ok-write_var.was);
      fits = after_fits c.loop-number.rest.now c.in-Ok.number c.in-Ok.after.now i.fits (varint_found _ _ c.in-Ok.ensures.found);
    }

pub returns : goal.returns
returns g c ns s =
    wrote_them ns _ _ _ _ (read_all _ c.loop-number.rest.now ns _ (c.loop-number.invariant.read ns s) (varint_none _ c.in_default.ensures.found))

pub loop-number-init : goal.loop-number-init
loop-number-init g c = grind (arith, common_steps)
