use Rattle.std.proofs.Common.{◌≡◌, ◌≤◌, ◌-◌, length}
use Rattle.quic_c_words.specs.Shown.{rules_in, state_of}
use Rattle.quic_c.proofs.Filling.{Filling}
use Rattle.quic_c.proofs.fill.fill.Given as goal

-- The entries before the count show what was read up to the place in the words; without any, nothing has changed.
abbrev pub invariant-loop-filled : goal.invariant-loop-filled
invariant-loop-filled l =
    Filling (rules_in l.fn.frames.flags) (state_of l.fn.frames l.fn.payload) l.fn.out (state_of l.frames l.fn.payload) l.out
    l.filled
    × (l.frames.offset ≤ length l.fn.payload)
    × (l.frames.ended ≡ 0)
    × (l.frames.flags ≡ l.fn.frames.flags)
    × (l.count ≡ l.fn.count)
    × (l.filled ≡ 0 → (l.frames ≡ l.fn.frames) × (l.out ≡ l.fn.out))

abbrev pub decreases-loop-filled : goal.decreases-loop-filled
decreases-loop-filled l = length l.out - l.filled
