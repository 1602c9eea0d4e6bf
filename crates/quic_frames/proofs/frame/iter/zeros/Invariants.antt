use Rattle.std.proofs.Common.{◌≡◌, ℕ, ◌-◌, ◌<◌, ◌≤◌, length, get_or}
use Rattle.quic_frames.proofs.frame.iter.zeros.Given as goal

-- The bytes that were passed are 0.
abbrev pub invariant-loop-word : goal.invariant-loop-word
invariant-loop-word l = (l.count ≤ length l.bytes) × ((k : ℕ) → k < l.count → get_or l.bytes k 0 ≡ 0)

abbrev pub decreases-loop-word : goal.decreases-loop-word
decreases-loop-word l = length l.bytes - l.count

abbrev pub invariant-loop-count : goal.invariant-loop-count
invariant-loop-count l = (l.count ≤ length l.bytes) × ((k : ℕ) → k < l.count → get_or l.bytes k 0 ≡ 0)

abbrev pub decreases-loop-count : goal.decreases-loop-count
decreases-loop-count l = length l.bytes - l.count
