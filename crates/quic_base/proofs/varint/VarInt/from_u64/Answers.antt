use Rattle.std.proofs.Common.{rules}
use Rattle.quic_base.proofs.varint.VarInt.from_u64.Goals as goal

pub invariant_of-result : goal.invariant_of-result
invariant_of-result c = search rules

pub returns-then-x : goal.returns-then-x
returns-then-x c = search rules
