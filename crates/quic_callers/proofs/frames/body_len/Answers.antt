use Rattle.std.proofs.Common.{length, ap, arith}
use Rattle.std.proofs.lemmas.List.{length-append}
use Rattle.quic_base.specs.Varint.{shortest_varint, size}
use Rattle.quic_base.proofs.PublicLaws.{length-short}
use Rattle.quic_frame_fields.specs.Bodies.{shortest_body, type_written}
use Rattle.quic_frames.specs.Meaning.{meaning_of}
use Rattle.quic_callers.proofs.frames.body_len.Goals as goal

pub overflow_sub-result : goal.overflow_sub-result
overflow_sub-result c =
    let m = meaning_of c.args.frame.now in
    let t = type_written c.args.last m in
    let parts = ap length (c.body_behind_its_type.ensures c.args.last m) in
    let same = ap size c.into_inner-ty.ensures in
    let typed = ap size c.written_type.ensures in
    omega (arith, parts, length-append (shortest_varint t) (shortest_body c.args.last m), length-short t, same, typed)

pub returns : goal.returns
returns c =
    let m = meaning_of c.args.frame.now in
    let t = type_written c.args.last m in
    let parts = ap length (c.body_behind_its_type.ensures c.args.last m) in
    let same = ap size c.into_inner-ty.ensures in
    let typed = ap size c.written_type.ensures in
    omega (arith, parts, length-append (shortest_varint t) (shortest_body c.args.last m), length-short t, same, typed)
