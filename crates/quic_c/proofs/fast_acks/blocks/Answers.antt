use Rattle.std.proofs.Common.{◌≡◌, ℕ, ◌-◌, length, take, Ok, refl, ap, ◌∙◌, arith}
use Rattle.quic_frame_fields.proofs.Gaps.{is_done}
use Rattle.quic_c.proofs.FastAcks.{blocks_read, blocks_encoded, cut_reads}
use Rattle.quic_c.proofs.fast_acks.blocks.Goals as goal

pub returns-then-count-eq0-clause-read : goal.returns-then-count-eq0-clause-read
returns-then-count-eq0-clause-read c =
    let behind = c.in_ok-first.behind.now in
    rw (c.split_at.ensures.front, c.split_at.ensures.back)
    (blocks_read c.args.greatest c.in_ok-count.count c.in_ok-first.first c.args.bytes.now c.in_ok-count.all.now behind
    behind c.in_ok-count.ensures.read c.in_ok-first.ensures.read (omega arith)
    (is_done c.in_ok-count.count (c.args.greatest - c.in_ok-first.first) behind _ (omega arith) refl))

pub returns-then-count-eq0-clause-encoded : goal.returns-then-count-eq0-clause-encoded
returns-then-count-eq0-clause-encoded c =
    blocks_encoded c.args.greatest c.args.bytes.now c.split_at.result.0.now c.split_at.result.1.now
    c.are_bytes.ensures (returns-then-count-eq0-clause-read c)

pub returns-then-count-eq0-clause-first : goal.returns-then-count-eq0-clause-first
returns-then-count-eq0-clause-first c =
    let behind = c.in_ok-first.behind.now in
    let none : length behind - length behind ≡ 0 = omega arith in
    rw (c.split_at.ensures.front, c.split_at-then-count-eq0.ensures.front)
    (cut_reads c.in_ok-count.all.now behind behind c.in_ok-first.first c.are_bytes-2.ensures c.in_ok-first.ensures.read
    (omega arith)
    ∙ ap (λ (k : ℕ). Ok (c.in_ok-first.first, take k behind)) none)

pub returns-clause-read : goal.returns-clause-read
returns-clause-read c =
    rw (c.split_at-2.ensures.front, c.split_at-2.ensures.back)
    (blocks_read c.args.greatest c.in_ok-count.count c.in_ok-first.first c.args.bytes.now c.in_ok-count.all.now
    c.in_ok-first.behind.now c.in_ok-rest.rest.now c.in_ok-count.ensures.read c.in_ok-first.ensures.read (omega arith)
    c.in_ok-rest.ensures.read)

pub returns-clause-encoded : goal.returns-clause-encoded
returns-clause-encoded c =
    blocks_encoded c.args.greatest c.args.bytes.now c.split_at-2.result.0.now c.split_at-2.result.1.now
    c.are_bytes.ensures (returns-clause-read c)

pub returns-clause-first : goal.returns-clause-first
returns-clause-first c =
    rw (c.split_at-2.ensures.front, c.split_at-3.ensures.front)
    (cut_reads c.in_ok-count.all.now c.in_ok-first.behind.now c.in_ok-rest.rest.now c.in_ok-first.first
    c.are_bytes-2.ensures c.in_ok-first.ensures.read c.in_ok-rest.ensures.fewer)
