use Rattle.std.proofs.Common.{ℕ, ◌<◌, ◌≤◌, ◌-◌, length, get_or}
use Rattle.quic_frame_fields.proofs.frame.write.ones.Given as goal

abbrev pub invariant-loop-n : goal.invariant-loop-n
invariant-loop-n l = record {
  within : l.n ≤ length l.bytes;
  ones : (i : ℕ) → i < l.n → get_or l.bytes i 0 < 64;
}

abbrev pub decreases-loop-n : goal.decreases-loop-n
decreases-loop-n l = length l.bytes - l.n
