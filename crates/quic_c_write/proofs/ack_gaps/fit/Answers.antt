use Rattle.std.proofs.Common.{refl, arith}
use Rattle.std.proofs.lemmas.Bool.{false≢true}
use Rattle.quic_c_write.proofs.StoredAcks.{fits_all, fits_here, fits_more}
use Rattle.quic_c_write.proofs.ack_gaps.fit.Goals.{then-low-lt2-via-then-low-lt2, then-low-lt2-via-else-low-lt2+then-gap-low, then-low-lt2-via-else-low-lt2+else-gap-low+then-gap-low-2}
use Rattle.quic_c_write.proofs.ack_gaps.fit.Goals as goal

pub returns-then-low-lt2 : goal.returns-then-low-lt2
returns-then-low-lt2 c = (
  λ e. absurd (false≢true e),
  λ f.
      absurd (let h = fits_here c.args.low c.loop-gap.low c.args.gaps.now c.loop-gap.gap-index c.loop-gap-test.true
      c.loop-gap.invariant f in
      elim c.then-low-lt2.branch [
        | then-low-lt2-via-then-low-lt2 w ↦ omega (arith, h, w.if-low-lt2)
        | then-low-lt2-via-else-low-lt2+then-gap-low w ↦ omega (arith, h, w.if-gap-low)
        | then-low-lt2-via-else-low-lt2+else-gap-low+then-gap-low-2 w ↦ omega (arith, h, w.if-gap-low, w.if-gap-low-2)
      ]),
)

pub loop-gap-preserved : goal.loop-gap-preserved
loop-gap-preserved c =
    fits_more c.args.low c.loop-gap.low c.args.gaps.now c.loop-gap.gap-index c.loop-gap-test.true
    (omega (arith, c.if-low-lt2.false, c.if-gap-low.false, c.if-gap-low-2.false)) c.loop-gap.invariant

pub returns : goal.returns
returns c = (
  λ _. fits_all c.args.low c.loop-gap.low c.args.gaps.now c.loop-gap.gap-index (omega (arith, c.loop-gap-test.false))
      c.loop-gap.invariant,
  λ _. refl,
)
