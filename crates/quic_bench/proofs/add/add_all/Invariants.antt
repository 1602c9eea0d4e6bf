-- The bytes so far are changed, and the others are not.
use Rattle.std.proofs.Common.{◌≡◌, ◌++◌, map, take, drop}
use Rattle.quic_bench.specs.Add.{add_byte}
use Rattle.quic_bench.proofs.add.add_all.Given as goal

abbrev pub invariant-loop-x : goal.invariant-loop-x
invariant-loop-x l = l.bytes ≡ map (add_byte l.low) (take l.x-index l.fn.bytes) ++ drop l.x-index l.fn.bytes
