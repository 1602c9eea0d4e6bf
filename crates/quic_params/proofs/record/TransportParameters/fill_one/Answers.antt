use Rattle.std.proofs.Common.{arith}
use Rattle.quic_params.proofs.Lengths.{for_below}
use Rattle.quic_params.proofs.record.TransportParameters.fill_one.Goals as goal

pub unreachable-requires : goal.unreachable-requires
unreachable-requires c =
    omega (arith, for_below c.args.self.now c.type_bounds-2.ensures c.args.id, c.in-Err.ensures.full, c.requires)
