-- Masking the bytes that are left makes the whole.
use Rattle.std.proofs.Common.{◌≡◌, ◌+◌, ◌-◌}
use Rattle.quic_bench.specs.Mask.{mask_at}
use Rattle.quic_bench.proofs.mask.mask.Given as goal

abbrev pub invariant-loop-i : goal.invariant-loop-i
invariant-loop-i l = mask_at l.i (l.at + l.count - l.i) l.sample l.packet ≡ mask_at l.at l.count l.sample l.fn.packet
