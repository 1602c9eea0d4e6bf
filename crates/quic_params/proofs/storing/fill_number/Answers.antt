use Rattle.std.proofs.Common.{arith}
use Rattle.quic_params.proofs.Lengths.{short_below}
use Rattle.quic_params.proofs.storing.fill_number.Goals as goal

pub unreachable-requires : goal.unreachable-requires
unreachable-requires c = omega (arith, short_below c.args.number, c.in-Err.ensures.full, c.requires.empty)
