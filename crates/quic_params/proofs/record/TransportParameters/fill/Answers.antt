-- No list is longer than the room.
use Rattle.std.proofs.Common.{arith}
use Rattle.quic_params.proofs.Lengths.{written_below}
use Rattle.quic_params.proofs.record.TransportParameters.fill.Goals as goal

pub unreachable-requires : goal.unreachable-requires
unreachable-requires c =
    omega (arith, written_below c.args.self.now c.type_bounds-2.ensures, c.in-Err.ensures.full, c.requires)
