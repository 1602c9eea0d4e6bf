use Rattle.std.proofs.Common.{length, List, ℕ, subst, arith}
use Rattle.std.proofs.lemmas.Result.{err_from_is_err_and}
use Rattle.quic_frame_fields.proofs.UncountedBlocks.{Comes, comes_first, comes_further, first_stops, gap_stops, block_stops, all_read, block_reason, gap_reason, block_shorter, gap_shorter, block_left, nothing_is, zero_of, some_of}
use Rattle.quic_frame_fields.proofs.frame.field.all_blocks.Goals as goal

pub returns-in_err-low-clause-err : goal.returns-in_err-low-clause-err
returns-in_err-low-clause-err c =
    let p = err_from_is_err_and c.from_residual.result c.from_residual.ensures.1 in
    let e = c.in_err-low.ensures.gives in
    rw (p.1, p.2) (
      first_stops c.args.greatest c.args.bytes.now _ c.in_err-low.ensures.bytes e,
      (block_reason c.args.greatest c.args.bytes.now _ e).either,
    )

pub loop-rest-init : goal.loop-rest-init
loop-rest-init c = record {
  comes = comes_first c.args.greatest c.in_ok-low.low c.args.bytes.now c.in_ok-low.rest.now c.in_ok-low.ensures.gives;
  fits = block_left c.args.greatest c.args.bytes.now (c.in_ok-low.low, c.in_ok-low.rest.now) c.in_ok-low.ensures.bytes
      c.in_ok-low.ensures.gives;
}

pub returns-in_err-high-clause-err : goal.returns-in_err-high-clause-err
returns-in_err-high-clause-err c =
    let p = err_from_is_err_and c.from_residual-in_err-high.result c.from_residual-in_err-high.ensures.1 in
    let e = c.in_err-high.ensures.gives in
    let fits = c.block.ensures.bytes in
    rw (p.1, p.2) (
      gap_stops c.args.greatest c.loop-rest.low c.args.bytes.now c.loop-rest.rest.now _ fits
          c.loop-rest.invariant.comes (some_of (length c.loop-rest.rest.now) c.loop-rest-test.ensures) e,
      (gap_reason c.loop-rest.low c.loop-rest.rest.now _ e).either,
    )

pub returns-in_err-least-clause-err : goal.returns-in_err-least-clause-err
returns-in_err-least-clause-err c =
    let p = err_from_is_err_and c.from_residual-in_err-least.result c.from_residual-in_err-least.ensures.1 in
    let e = c.in_err-least.ensures.gives in
    let fits = c.block.ensures.bytes in
    rw (p.1, p.2) (
      block_stops c.args.greatest c.loop-rest.low c.in_ok-high.high c.args.bytes.now c.loop-rest.rest.now
          c.in_ok-high.after_gap.now _ fits c.loop-rest.invariant.comes
          (some_of (length c.loop-rest.rest.now) c.loop-rest-test.ensures) c.in_ok-high.ensures.gives e,
      (block_reason c.in_ok-high.high c.in_ok-high.after_gap.now _ e).either,
    )

pub loop-rest-smaller : goal.loop-rest-smaller
loop-rest-smaller c =
    let one =
    gap_shorter c.loop-rest.low c.loop-rest.rest.now (c.in_ok-high.high, c.in_ok-high.after_gap.now)
    c.loop-rest.invariant.fits c.in_ok-high.ensures.gives in
    let two =
    block_shorter c.in_ok-high.high c.in_ok-high.after_gap.now (c.in_ok-least.least, c.in_ok-least.after.now)
    c.in_ok-least.ensures.bytes c.in_ok-least.ensures.gives in
    omega (arith, one, two)

pub loop-rest-preserved : goal.loop-rest-preserved
loop-rest-preserved c = record {
  comes = comes_further c.args.greatest c.loop-rest.low c.in_ok-high.high c.in_ok-least.least c.args.bytes.now
      c.loop-rest.rest.now c.in_ok-high.after_gap.now c.in_ok-least.after.now c.loop-rest.invariant.comes
      c.in_ok-high.ensures.gives c.in_ok-least.ensures.gives;
  fits = block_left c.in_ok-high.high c.in_ok-high.after_gap.now (c.in_ok-least.least, c.in_ok-least.after.now)
      c.in_ok-least.ensures.bytes c.in_ok-least.ensures.gives;
}

pub returns-clause-ok : goal.returns-clause-ok
returns-clause-ok c =
    let none = nothing_is c.loop-rest.rest.now (zero_of (length c.loop-rest.rest.now) c.loop-rest-test.ensures) in
    let fits = c.block.ensures.bytes in
    all_read c.args.greatest c.loop-rest.low c.args.bytes.now fits
    (subst (λ (l : List ℕ). Comes c.args.greatest c.args.bytes.now c.loop-rest.low l) none
    c.loop-rest.invariant.comes)
