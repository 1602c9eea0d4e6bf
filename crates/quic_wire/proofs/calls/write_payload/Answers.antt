use Rattle.std.proofs.Common.{ℕ, ◌+◌, drop, length, nat_eq, false}
use Rattle.std.proofs.lemmas.Result.{err_from_is_err_and}
use Rattle.quic_frame_fields.specs.Shortest.{shortest_frame}
use Rattle.quic_frames.specs.Meaning.{meaning_of}
use Rattle.quic_packets.specs.Sealing.{payload_of}
use Rattle.quic_packets.proofs.Payloads.{got_at, can_stand, is_least, payload_at, payload_past}
use Rattle.quic_wire.proofs.Written.{puts_all, puts_part, puts_some, writes_all}
use Rattle.quic_wire.proofs.calls.write_payload.Goals as goal

pub encode-requires : goal.encode-requires
encode-requires c =
    can_stand c.args.frames.now c.loop-i.i c.index-frames-i.result
    (got_at c.args.frames.now c.loop-i.i c.index-frames-i.result c.loop-i-test.true c.index-frames-i.is) c.requires

pub loop-i-preserved : goal.loop-i-preserved
loop-i-preserved c =
    let frames = c.args.frames.now in
    let i : ℕ = c.loop-i.i in
    let got = got_at frames i c.index-frames-i.result c.loop-i-test.true c.index-frames-i.is in
    puts_part c.encode.result (payload_of frames) (payload_of (drop i frames)) _ _ _
    (shortest_frame (nat_eq (i + 1) (length frames)) (meaning_of c.index-frames-i.result))
    (payload_of (drop (i + 1) frames)) _ _ _ c.loop-i.invariant
    (payload_at frames i c.index-frames-i.result got) c.encode.ensures c.in_ok-encode.was

pub returns-in_err-encode-clause-written : goal.returns-in_err-encode-clause-written
returns-in_err-encode-clause-written c =
    let frames = c.args.frames.now in
    let i : ℕ = c.loop-i.i in
    let got = got_at frames i c.index-frames-i.result c.loop-i-test.true c.index-frames-i.is in
    let p = err_from_is_err_and c.from_residual.result c.from_residual.ensures.1 in
    puts_some c.encode.result c.from_residual.result p.0 (payload_of frames) (payload_of (drop i frames)) _ _ _
    (shortest_frame (nat_eq (i + 1) (length frames)) (meaning_of c.index-frames-i.result))
    (payload_of (drop (i + 1) frames)) _ _ _ _ c.loop-i.invariant
    (payload_at frames i c.index-frames-i.result got) c.encode.ensures c.in_err-encode.was p.1

pub returns-clause-appended : goal.returns-clause-appended
returns-clause-appended c =
    let frames = c.args.frames.now in
    let back = c.read_back.ensures.all false frames c.are_typed.ensures c.requires in
    let wrote =
    puts_all _ _ _ _ _ _ c.loop-i.invariant (payload_past frames c.loop-i.i c.loop-i-test.false) in (
      payload_of frames,
      is_least frames back.0 back.1 c.least_encoding.ensures.all_least,
      wrote.stands,
    )

pub returns-clause-written : goal.returns-clause-written
returns-clause-written c =
    let frames = c.args.frames.now in
    writes_all _ _ _ _ _ (puts_all _ _ _ _ _ _ c.loop-i.invariant (payload_past frames c.loop-i.i c.loop-i-test.false))
