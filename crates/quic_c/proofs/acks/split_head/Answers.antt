use Rattle.std.proofs.Common.{◌≡◌, inl, inr, arith}
use Rattle.std.specs.Prelude.{◌⊎◌}
use Rattle.quic_base.proofs.PublicLaws.{on_err}
use Rattle.quic_c.proofs.Fronts.{head_read, lacks_type, has_type, lacks_largest, lacks_delay, lacks_count}
use Rattle.quic_c.proofs.acks.split_head.Goals.{else-ty-ne2-via-then-ty-ne2+else-ty-ne3, else-ty-ne2-via-else-ty-ne2}
use Rattle.quic_c.proofs.acks.split_head.Goals as goal

pub returns-clause-begins : goal.returns-clause-begins
returns-clause-begins c =
    let is : (c.in_ok-ty.ty ≡ 2) ⊎ (c.in_ok-ty.ty ≡ 3) = elim c.else-ty-ne2.branch [
      | else-ty-ne2-via-then-ty-ne2+else-ty-ne3 w ↦ inr (omega (arith, w.if-ty-ne3.false))
      | else-ty-ne2-via-else-ty-ne2 w ↦ inl (omega (arith, w.if-ty-ne2.false))
    ] in
    head_read c.args.bytes.now c.in_ok-ty.behind_type.now c.in_ok-largest.behind_largest.now
    c.in_ok-behind_delay.behind_delay.now c.in_ok-count.blocks.now
    c.in_ok-ty.ty c.in_ok-largest.largest c.in_ok-behind_delay.field-0-0 c.in_ok-count.count is
    c.in_ok-ty.ensures.read c.in_ok-largest.ensures.read c.in_ok-behind_delay.ensures.read c.in_ok-count.ensures.read

pub returns-in_err-ty-clause-none : goal.returns-in_err-ty-clause-none
returns-in_err-ty-clause-none c = on_err _ (lacks_type c.args.bytes.now c.in_err-ty.ensures.read)

pub returns-then-ty-ne3-clause-none : goal.returns-then-ty-ne3-clause-none
returns-then-ty-ne3-clause-none c =
    has_type c.args.bytes.now c.in_ok-ty.behind_type.now c.in_ok-ty.ty c.in_ok-ty.ensures.read (λ is. elim is [
      | inl two ↦ absurd (omega (arith, two, c.if-ty-ne2.true))
      | inr three ↦ absurd (omega (arith, three, c.if-ty-ne3.true))
    ])

pub returns-in_err-largest-clause-none : goal.returns-in_err-largest-clause-none
returns-in_err-largest-clause-none c =
    on_err _ (lacks_largest c.args.bytes.now c.in_ok-ty.behind_type.now c.in_ok-ty.ty c.in_ok-ty.ensures.read
    c.in_err-largest.ensures.read)

pub returns-in_err-behind_delay-clause-none : goal.returns-in_err-behind_delay-clause-none
returns-in_err-behind_delay-clause-none c =
    on_err _ (lacks_delay c.args.bytes.now c.in_ok-ty.behind_type.now c.in_ok-largest.behind_largest.now c.in_ok-ty.ty
    c.in_ok-largest.largest c.in_ok-ty.ensures.read c.in_ok-largest.ensures.read c.in_err-behind_delay.ensures.read)

pub returns-in_err-count-clause-none : goal.returns-in_err-count-clause-none
returns-in_err-count-clause-none c =
    on_err _ (lacks_count c.args.bytes.now c.in_ok-ty.behind_type.now c.in_ok-largest.behind_largest.now
    c.in_ok-behind_delay.behind_delay.now c.in_ok-ty.ty c.in_ok-largest.largest c.in_ok-behind_delay.field-0-0
    c.in_ok-ty.ensures.read c.in_ok-largest.ensures.read c.in_ok-behind_delay.ensures.read c.in_err-count.ensures.read)
