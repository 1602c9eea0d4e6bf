use Rattle.std.proofs.Common.{sym}
use Rattle.std.proofs.lemmas.Result.{err_from_is_err_and}
use Rattle.quic_frame_fields.specs.Shortest.{stream_header}
use Rattle.quic_base.proofs.Encoders.{wrote_first, writes_last, writes_begun}
use Rattle.quic_frame_fields.proofs.StreamParts.{stream_parts_as}
use Rattle.quic_frames.proofs.frame.encode.encode_stream.Goals as goal

pub returns-in_err-encode_header : goal.returns-in_err-encode_header
returns-in_err-encode_header g c =
    let s = c.args.stream.now in
    let p = err_from_is_err_and c.from_residual.result c.from_residual.ensures.1 in
    rw (sym (stream_parts_as c.args.last s.fin s.id s.offset s.bytes.now c.then_some-counted.result c.then_some-counted.ensures))
    (writes_begun c.encode_header.result c.from_residual.result p.0 (stream_header s.id s.offset s.fin _) s.bytes.now _
    _ _ _ _ c.encode_header.ensures c.in_err-encode_header.was p.1)

pub returns : goal.returns
returns g c =
    let s = c.args.stream.now in
    rw (sym (stream_parts_as c.args.last s.fin s.id s.offset s.bytes.now c.then_some-counted.result c.then_some-counted.ensures))
    (writes_last c.bytes.result (stream_header s.id s.offset s.fin _) _ _ _ _ _ _ _
    (wrote_first c.encode_header.result _ _ _ _ _ c.encode_header.ensures c.in_ok-encode_header.was)
    c.bytes.ensures)
