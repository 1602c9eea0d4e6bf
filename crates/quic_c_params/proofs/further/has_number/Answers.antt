use Rattle.std.proofs.Common.{refl}
use Rattle.std.proofs.lemmas.Bool.{false≢true}
use Rattle.quic_c_params.proofs.Others.{so_far_end, so_far_here, so_far_more}
use Rattle.quic_c_params.proofs.further.has_number.Goals as goal

pub returns-then-other-number : goal.returns-then-other-number
returns-then-other-number c = λ es h. (
  λ _. so_far_here c.args.number c.in-Some.other _ c.args.list.now c.loop-other.rest.now c.in-Some.behind.now
      c.if-other-number.true c.in-Some.ensures c.loop-other.invariant es h,
  λ _. refl,
)

pub loop-other-preserved : goal.loop-other-preserved
loop-other-preserved c =
    so_far_more c.args.number c.in-Some.other _ c.args.list.now c.loop-other.rest.now c.in-Some.behind.now
    c.if-other-number.false c.in-Some.ensures c.loop-other.invariant

pub returns : goal.returns
returns c = λ es h. (
  λ e. absurd (false≢true e),
  λ has. absurd (so_far_end c.args.number c.args.list.now c.loop-other.rest.now
      c.in_default.ensures c.loop-other.invariant es h has),
)
