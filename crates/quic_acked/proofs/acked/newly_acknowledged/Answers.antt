-- A range is removed up to its greatest number, or up to the set's end.
use Rattle.std.proofs.Common.{◌≡◌, ◌+◌, ◌<◌, ◌≤◌, ℕ, List, subst, arith}
use Rattle.std.specs.Range.{range_inclusive_end}
use Rattle.quic_frame_fields.specs.Acks.{bounds_of, ranges_acked, ranges_left}
use Rattle.quic_acked.proofs.Left.{goes_on, IsLeft}
use Rattle.quic_acked.proofs.acked.newly_acknowledged.Goals.{then-greatest-end, else-greatest-end}
use Rattle.quic_acked.proofs.acked.newly_acknowledged.Goals as goal

pub loop-range-preserved : goal.loop-range-preserved
loop-range-preserved c =
    let runs = c.args.in_flight.now in
    let ranges : List (ℕ × ℕ) = ranges_acked c.args.ack.now in
    let end : ℕ = c.above_all-end.result in
    let above : ℕ = c.if-greatest-end.above in
    let greatest : ℕ = range_inclusive_end c.in-Some.range in
    let w = subst (λ (l : List (ℕ × ℕ)). IsLeft runs ranges end c.loop-range.left l) c.in-Some.ensures.steps.0 c.loop-range.invariant.2 in
    let up : greatest < end → above ≡ greatest + 1 = λ lt. elim c.if-greatest-end.branch [
      | then-greatest-end w ↦ omega (arith, w.above-is, c.into_inner-least.ensures.end)
      | else-greatest-end w ↦ absurd (omega (arith, w.if-greatest-end, lt, c.into_inner-least.ensures.end))
    ] in
    let to : end ≤ greatest → above ≡ end = λ le. elim c.if-greatest-end.branch [
      | then-greatest-end w ↦ absurd (omega (arith, w.if-greatest-end, le, c.into_inner-least.ensures.end))
      | else-greatest-end w ↦ w.above-is
    ] in (
      tt,
      tt,
      goes_on runs ranges end c.loop-range.left c.remove.new.self (bounds_of c.in-Some.range) (ranges_left c.next.new.self)
          above w up to (rw c.into_inner-least.ensures.start at c.in_ok-remove.ensures.difference),
    )
