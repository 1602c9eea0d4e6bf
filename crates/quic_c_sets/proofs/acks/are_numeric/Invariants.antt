use Rattle.std.proofs.Common.{take}
use Rattle.quic_frame_fields.specs.Numbers.{AreNumeric}
use Rattle.quic_c_sets.proofs.acks.are_numeric.Given as goal

abbrev pub invariant-loop-number : goal.invariant-loop-number
invariant-loop-number l = AreNumeric (take l.number-index l.numbers)
