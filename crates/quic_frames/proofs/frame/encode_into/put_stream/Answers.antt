use Rattle.std.proofs.Common.{sym}
use Rattle.quic_frame_fields.proofs.StreamParts.{stream_parts_as}
use Rattle.quic_frames.proofs.frame.encode_into.put_stream.Goals as goal

pub returns : goal.returns
returns c =
    let s = c.args.stream.now in
    rw (sym (stream_parts_as c.args.last s.fin s.id s.offset s.bytes.now c.then_some-counted.result
    c.then_some-counted.ensures)) c.stream.ensures
