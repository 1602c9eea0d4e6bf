use Rattle.std.proofs.Common.{drop}
use Rattle.quic_frames.specs.InRange.{AreTyped}
use Rattle.quic_wire.proofs.calls.are_typed.Given as goal

abbrev pub invariant-loop-i : goal.invariant-loop-i
invariant-loop-i l = AreTyped (drop l.i l.fn.frames) → AreTyped l.fn.frames
