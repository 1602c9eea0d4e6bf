use Rattle.std.proofs.Common.{arith}
use Rattle.quic_base.proofs.Encodings.{size_small}
use Rattle.quic_base.proofs.Sizes.{by_highest_bit}
use Rattle.quic_base.proofs.varint.var_size.Goals as goal

pub overflow_sub-highest : goal.overflow_sub-highest
overflow_sub-highest c = (by_highest_bit c.args.n (omega arith)).few

pub returns-clause-value : goal.returns-clause-value
returns-clause-value c = (by_highest_bit c.args.n (omega arith)).size

pub returns-clause-small : goal.returns-clause-small
returns-clause-small c =
    let is = (by_highest_bit c.args.n (omega arith)).size in omega (arith, size_small c.args.n, is)
