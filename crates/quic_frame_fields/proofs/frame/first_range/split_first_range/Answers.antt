use Rattle.quic_frame_fields.proofs.FirstRanges.{splits_first, none_first}
use Rattle.quic_frame_fields.proofs.frame.first_range.split_first_range.Goals as goal

pub returns-in-Ok-clause-begins : goal.returns-in-Ok-clause-begins
returns-in-Ok-clause-begins c =
    (splits_first c.args.greatest c.args.blocks.now _ c.in-Ok.ensures.bytes c.in-Ok.ensures.gives).begins

pub returns-in-Ok-clause-shorter : goal.returns-in-Ok-clause-shorter
returns-in-Ok-clause-shorter c =
    (splits_first c.args.greatest c.args.blocks.now _ c.in-Ok.ensures.bytes c.in-Ok.ensures.gives).shorter

pub returns-in-Ok-clause-left : goal.returns-in-Ok-clause-left
returns-in-Ok-clause-left c =
    (splits_first c.args.greatest c.args.blocks.now _ c.in-Ok.ensures.bytes c.in-Ok.ensures.gives).left

pub returns-in-Ok-clause-ranges : goal.returns-in-Ok-clause-ranges
returns-in-Ok-clause-ranges c =
    (splits_first c.args.greatest c.args.blocks.now _ c.in-Ok.ensures.bytes c.in-Ok.ensures.gives).ranges

pub reported-requires : goal.reported-requires
reported-requires c =
    (none_first c.args.greatest c.args.blocks.now _ c.in-Err.ensures.bytes c.in-Err.ensures.gives).reason.either

pub returns-in-Err-clause-stops : goal.returns-in-Err-clause-stops
returns-in-Err-clause-stops c =
    (none_first c.args.greatest c.args.blocks.now _ c.in-Err.ensures.bytes (rw (← c.reported.ensures) at c.in-Err.ensures.gives)).stops

pub returns-in-Err-clause-refused : goal.returns-in-Err-clause-refused
returns-in-Err-clause-refused c =
    (none_first c.args.greatest c.args.blocks.now _ c.in-Err.ensures.bytes (rw (← c.reported.ensures) at c.in-Err.ensures.gives)).refused
