use Rattle.std.proofs.Common.{arith}
use Rattle.quic_c.proofs.FastCalls.{ack_shows}
use Rattle.quic_c.proofs.fast_acks.ack_words.Goals as goal

pub returns : goal.returns
returns c =
    ack_shows c.args.begin c.args.end c.args.ty c.args.first c.args.ack.now c.with_first.result c.show_parts.result
    (omega arith) c.requires c.with_first.ensures c.show_parts.ensures
