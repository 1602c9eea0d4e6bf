use Rattle.std.proofs.Common.{arith, length}
use Rattle.std.proofs.lemmas.Result.{err_from_is_err_and}
use Rattle.quic_frame_fields.proofs.UncountedBlocks.{zero_of, some_of}
use Rattle.quic_frame_fields.proofs.FirstRanges.{no_block, last_block, no_gap_after, block_and_gap}
use Rattle.std.proofs.lemmas.Grind.{common_steps}
use Rattle.quic_frame_fields.proofs.frame.field.checked_wide_range.Goals as goal

pub returns-in_err-least-clause-gives : goal.returns-in_err-least-clause-gives
returns-in_err-least-clause-gives c =
    let p = err_from_is_err_and c.from_residual.result c.from_residual.ensures.1 in
    rw (p.1, p.2) (no_block c.args.greatest c.args.blocks.now _ c.in_err-least.ensures.gives)

pub returns-then-is_empty-clause-gives : goal.returns-then-is_empty-clause-gives
returns-then-is_empty-clause-gives c =
    last_block c.args.greatest c.in_ok-least.least c.args.blocks.now c.in_ok-least.rest.now c.in_ok-least.ensures.gives
    (zero_of (length c.in_ok-least.rest.now) c.if-is_empty.ensures)

pub returns-in_err-next-clause-gives : goal.returns-in_err-next-clause-gives
returns-in_err-next-clause-gives c =
    let p = err_from_is_err_and c.from_residual-in_err-next.result c.from_residual-in_err-next.ensures.1 in
    rw (p.1, p.2) (no_gap_after c.args.greatest c.in_ok-least.least c.args.blocks.now c.in_ok-least.rest.now _
    c.in_ok-least.ensures.gives (some_of (length c.in_ok-least.rest.now) c.if-is_empty.ensures)
    c.in_err-next.ensures.gives)

pub returns-clause-gives : goal.returns-clause-gives
returns-clause-gives c =
    block_and_gap c.args.greatest c.in_ok-least.least c.in_ok-next.next c.args.blocks.now c.in_ok-least.rest.now
    c.in_ok-next.others.now c.in_ok-least.ensures.gives (some_of (length c.in_ok-least.rest.now)
    c.if-is_empty.ensures) c.in_ok-next.ensures.gives

pub returns-clause-bytes : goal.returns-clause-bytes
returns-clause-bytes c = grind (arith, common_steps)

pub returns-then-is_empty-clause-bytes : goal.returns-then-is_empty-clause-bytes
returns-then-is_empty-clause-bytes c = grind (arith, common_steps)
