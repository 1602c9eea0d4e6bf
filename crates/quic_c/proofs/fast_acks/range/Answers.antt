use Rattle.std.proofs.Common.{arith}
use Rattle.quic_c.proofs.FastAcks.{range_reads}
use Rattle.quic_c.proofs.fast_acks.range.Goals as goal

pub returns-clause-read : goal.returns-clause-read
returns-clause-read c =
    range_reads c.args.low c.in_ok-between.between c.in_ok-len.len c.args.bytes.now c.in_ok-between.behind.now
    c.in_ok-len.rest.now c.in_ok-between.ensures.read c.in_ok-len.ensures.read (omega arith)
