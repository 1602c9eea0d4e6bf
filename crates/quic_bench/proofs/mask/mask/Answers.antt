-- One more byte is masked.
use Rattle.std.proofs.Common.{◌∙◌}
use Rattle.quic_bench.proofs.Masks.{mask_more}
use Rattle.quic_bench.proofs.mask.mask.Goals as goal

pub loop-i-preserved : goal.loop-i-preserved
loop-i-preserved c = mask_more c.loop-i.i _ c.args.sample c.loop-i.packet c.loop-i-test.true ∙ c.loop-i.invariant
