use Rattle.quic_frames.proofs.BodyParts.{open_at_zero, counted_at_zero, open_further, counted_further}
use Rattle.quic_frames.proofs.frame.body.stream_body.Goals as goal

pub returns-then-last : goal.returns-then-last
returns-then-last c =
    let s = c.args.stream.now in
    rw (c.if-last.true, open_at_zero s.fin s.id s.offset s.bytes.now c.if-offset-eq0.true)
    (rw c.from-id.ensures.0 at c.numbers_and_bytes.ensures)

pub returns-then-offset-eq0 : goal.returns-then-offset-eq0
returns-then-offset-eq0 c =
    let s = c.args.stream.now in
    rw (c.if-last.false, counted_at_zero s.fin s.id s.offset s.bytes.now c.if-offset-eq0.true)
    (rw c.from-id.ensures.0 at c.numbers_and_bytes-then-offset-eq0.ensures)

pub returns-then-last-2 : goal.returns-then-last-2
returns-then-last-2 c =
    let s = c.args.stream.now in
    rw (c.if-last-2.true, open_further s.fin s.id s.offset s.bytes.now c.if-offset-eq0.false)
    (rw c.from-id.ensures.0 at c.numbers_and_bytes-then-last-2.ensures)

pub returns : goal.returns
returns c =
    let s = c.args.stream.now in
    rw (c.if-last-2.false, counted_further s.fin s.id s.offset s.bytes.now c.if-offset-eq0.false)
    (rw c.from-id.ensures.0 at c.numbers_and_bytes-2.ensures)
