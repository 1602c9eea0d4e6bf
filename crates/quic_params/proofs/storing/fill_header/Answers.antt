use Rattle.std.proofs.Common.{arith}
use Rattle.quic_params.proofs.Lengths.{header_below}
use Rattle.quic_params.proofs.storing.fill_header.Goals as goal

pub unreachable-requires : goal.unreachable-requires
unreachable-requires c = omega (arith, header_below c.args.number c.args.len, c.in-Err.ensures.full, c.requires.empty)
