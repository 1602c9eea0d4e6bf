use Rattle.quic_c.proofs.FastAcks.{blocks_shorter}
use Rattle.quic_c.proofs.fast_acks.many_blocks.Goals as goal

pub returns-clause-fewer : goal.returns-clause-fewer
returns-clause-fewer c =
    blocks_shorter c.args.greatest c.args.bytes.now c.in-Ok.ranges.now c.in-Ok.rest.now c.are_bytes.ensures
    c.in-Ok.ensures.gives
