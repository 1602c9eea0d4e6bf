use Rattle.std.proofs.lemmas.Result.{err_from_is_err_and}
use Rattle.quic_base.specs.ConnectionId.{long_id}
use Rattle.quic_base.proofs.Encoders.{wrote_first, writes_last, writes_begun}
use Rattle.quic_frame_fields.proofs.frame.write.id_and_bytes.Goals as goal

pub returns-in_err-encode_long : goal.returns-in_err-encode_long
returns-in_err-encode_long g c =
    let e = c.encode_long.ensures in
    let p = err_from_is_err_and c.from_residual.result c.from_residual.ensures.1 in
    writes_begun c.encode_long.result c.from_residual.result p.0 (long_id c.args.id.now) c.args.tail.now _ _ _ _ _
    (record { ok = e.ok; err = e.err; full = e.full; room = e.room }) c.in_err-encode_long.was p.1

pub returns : goal.returns
returns g c =
    let e = c.encode_long.ensures in
    writes_last c.bytes.result (long_id c.args.id.now) c.args.tail.now _ _ _ _ _ _
    (wrote_first c.encode_long.result _ _ _ _ _ (record { ok = e.ok; err = e.err; full = e.full; room = e.room })
    c.in_ok-encode_long.was) c.bytes.ensures
