use Rattle.std.proofs.Common.{arith}
use Rattle.quic_params.proofs.Lengths.{address_below}
use Rattle.quic_params.proofs.value.PreferredAddress.fill.Goals as goal

pub unreachable-requires : goal.unreachable-requires
unreachable-requires c = omega (arith, address_below c.args.self.now c.type_bounds-2.ensures, c.in-Err.ensures.full, c.requires)
