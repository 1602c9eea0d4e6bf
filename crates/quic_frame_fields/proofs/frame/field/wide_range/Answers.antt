use Rattle.std.proofs.Common.{length}
use Rattle.quic_frame_fields.proofs.UncountedBlocks.{is_blocks, are_left, first_of, has_first, first_is_last, first_and_next, has_next, zero_of, some_of}
use Rattle.quic_frame_fields.proofs.frame.field.wide_range.Goals as goal

pub unreachable-requires : goal.unreachable-requires
unreachable-requires c =
    let valid = is_blocks c.args.greatest c.args.blocks.now c.requires.some c.requires.valid in
    has_first c.args.greatest c.args.blocks.now _ c.in_default.ensures.bytes valid c.in_default.ensures.gives

pub returns-then-is_empty-clause-first : goal.returns-then-is_empty-clause-first
returns-then-is_empty-clause-first c =
    let valid = is_blocks c.args.greatest c.args.blocks.now c.requires.some c.requires.valid in
    let first =
    first_of c.args.greatest c.args.blocks.now c.in-Ok.least c.in-Ok.rest.now c.in-Ok.ensures.bytes valid c.in-Ok.ensures.gives in
    first_is_last c.args.greatest c.args.blocks.now c.in-Ok.least c.in-Ok.rest.now first
    (zero_of (length c.in-Ok.rest.now) c.if-is_empty.ensures)

pub unreachable-requires-in_default-gap : goal.unreachable-requires-in_default-gap
unreachable-requires-in_default-gap c =
    let valid = is_blocks c.args.greatest c.args.blocks.now c.requires.some c.requires.valid in
    let first =
    first_of c.args.greatest c.args.blocks.now c.in-Ok.least c.in-Ok.rest.now c.in-Ok.ensures.bytes valid c.in-Ok.ensures.gives in
    has_next c.args.greatest c.args.blocks.now c.in-Ok.least c.in-Ok.rest.now _ first
    (some_of (length c.in-Ok.rest.now) c.if-is_empty.ensures) c.in_default-gap.ensures.gives

pub returns-clause-first : goal.returns-clause-first
returns-clause-first c =
    let valid = is_blocks c.args.greatest c.args.blocks.now c.requires.some c.requires.valid in
    let first =
    first_of c.args.greatest c.args.blocks.now c.in-Ok.least c.in-Ok.rest.now c.in-Ok.ensures.bytes valid c.in-Ok.ensures.gives in
    (first_and_next c.args.greatest c.args.blocks.now c.in-Ok.least c.in-Ok.rest.now
    (c.in-Ok-gap.next, c.in-Ok-gap.others.now) first c.in-Ok-gap.ensures.gives).0

pub returns-clause-valid : goal.returns-clause-valid
returns-clause-valid c =
    let valid = is_blocks c.args.greatest c.args.blocks.now c.requires.some c.requires.valid in
    let first =
    first_of c.args.greatest c.args.blocks.now c.in-Ok.least c.in-Ok.rest.now c.in-Ok.ensures.bytes valid c.in-Ok.ensures.gives in
    are_left c.in-Ok-gap.next c.in-Ok-gap.others.now (first_and_next c.args.greatest c.args.blocks.now c.in-Ok.least
    c.in-Ok.rest.now (c.in-Ok-gap.next, c.in-Ok-gap.others.now) first c.in-Ok-gap.ensures.gives).1
