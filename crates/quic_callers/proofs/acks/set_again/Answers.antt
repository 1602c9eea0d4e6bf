use Rattle.std.proofs.Common.{◌≡◌, ℕ, false, true, None, refl, sym, ap, subst, ◌∙◌, arith}
use Rattle.quic_frame_fields.specs.Acks.{ranges_left}
use Rattle.quic_frame_fields.specs.Field.{AreApart}
use Rattle.quic_frame_fields.specs.Sets.{ack_of, is_in, ranges_in}
use Rattle.quic_frame_fields.specs.Shortest.{shortest_frame}
use Rattle.quic_frames.specs.Least.{as_written}
use Rattle.quic_frames.specs.Meaning.{meaning_of}
use Rattle.quic_frames.specs.declared.frame.Frame.TheVariants as frames
use Rattle.quic_callers.proofs.Again.{IsUnderWay, begins, greatest_fits, goes_on, is_again}
use Rattle.quic_callers.proofs.Reread.{not_empty, content_is, one_left, gives_it, ack_only}
use Rattle.quic_ranges.specs.Runs.{member}
use Rattle.quic_callers.proofs.acks.set_again.Goals as goal

pub unreachable-requires : goal.unreachable-requires
unreachable-requires c =
    let m = ack_of c.args.delay c.args.set.now None in
    let encoded =
    c.set_acknowledged.ensures.encoded false true c.args.delay c.args.set.now None c.iter-runs.ensures.maximal
    c.requires.some c.requires.members c.requires.delay tt in
    let content =
    content_is c.encode.result c.in_ok-encode.field-0 _ _ _ (shortest_frame true m) c.deref.ensures.value
    (c.encode.ensures true).ok c.in_ok-encode.was c.requires.empty in
    not_empty (as_written true m) (shortest_frame true m) encoded (sym content ∙ c.in_default.ensures.empty.0 refl)

pub unreachable-requires-in-None : goal.unreachable-requires-in-None
unreachable-requires-in-None c =
    let m = ack_of c.args.delay c.args.set.now None in
    let encoded =
    c.set_acknowledged.ensures.encoded false true c.args.delay c.args.set.now None c.iter-runs.ensures.maximal
    c.requires.some c.requires.members c.requires.delay tt in
    let content =
    content_is c.encode.result c.in_ok-encode.field-0 _ _ _ (shortest_frame true m) c.deref.ensures.value
    (c.encode.ensures true).ok c.in_ok-encode.was c.requires.empty in
    let one =
    one_left (as_written true m) (shortest_frame true m) _ c.in-Ok.frames encoded content c.in-Ok.ensures.first in
    let first = gives_it (as_written true m) c.in-Ok.frames c.next.new.self c.next.result one c.next.ensures.steps in
    let given = first.1 in
    cc

pub unreachable-requires-in-Some-Err : goal.unreachable-requires-in-Some-Err
unreachable-requires-in-Some-Err c =
    let m = ack_of c.args.delay c.args.set.now None in
    let encoded =
    c.set_acknowledged.ensures.encoded false true c.args.delay c.args.set.now None c.iter-runs.ensures.maximal
    c.requires.some c.requires.members c.requires.delay tt in
    let content =
    content_is c.encode.result c.in_ok-encode.field-0 _ _ _ (shortest_frame true m) c.deref.ensures.value
    (c.encode.ensures true).ok c.in_ok-encode.was c.requires.empty in
    let one =
    one_left (as_written true m) (shortest_frame true m) _ c.in-Ok.frames encoded content c.in-Ok.ensures.first in
    let first = gives_it (as_written true m) c.in-Ok.frames c.next.new.self c.next.result one c.next.ensures.steps in
    let given = first.1 in
    cc

pub unreachable-requires-in_default-frame : goal.unreachable-requires-in_default-frame
unreachable-requires-in_default-frame c =
    let m = ack_of c.args.delay c.args.set.now None in
    let encoded =
    c.set_acknowledged.ensures.encoded false true c.args.delay c.args.set.now None c.iter-runs.ensures.maximal
    c.requires.some c.requires.members c.requires.delay tt in
    let content =
    content_is c.encode.result c.in_ok-encode.field-0 _ _ _ (shortest_frame true m) c.deref.ensures.value
    (c.encode.ensures true).ok c.in_ok-encode.was c.requires.empty in
    let one =
    one_left (as_written true m) (shortest_frame true m) _ c.in-Ok.frames encoded content c.in-Ok.ensures.first in
    let first = gives_it (as_written true m) c.in-Ok.frames c.next.new.self c.next.result one c.next.ensures.steps in
    let given = first.1 in
    let same : c.in-Some-Ok.frame ≡ first.0 = cc in
    ack_only c.in-Some-Ok.frame (ap (λ f. (meaning_of f).name) same ∙ ap (λ f. f.name) first.2) c.in_default-frame.not-Ack

pub loop-range-init : goal.loop-range-init
loop-range-init c =
    let m = ack_of c.args.delay c.args.set.now None in
    let encoded =
    c.set_acknowledged.ensures.encoded false true c.args.delay c.args.set.now None c.iter-runs.ensures.maximal
    c.requires.some c.requires.members c.requires.delay tt in
    let content =
    content_is c.encode.result c.in_ok-encode.field-0 _ _ _ (shortest_frame true m) c.deref.ensures.value
    (c.encode.ensures true).ok c.in_ok-encode.was c.requires.empty in
    let one =
    one_left (as_written true m) (shortest_frame true m) _ c.in-Ok.frames encoded content c.in-Ok.ensures.first in
    let first = gives_it (as_written true m) c.in-Ok.frames c.next.new.self c.next.result one c.next.ensures.steps in
    let given = first.1 in
    let same : frames.Ack c.in-Ack.ack ≡ first.0 = cc in
    let says : meaning_of (frames.Ack c.in-Ack.ack) ≡ m = ap meaning_of same ∙ first.2 in
    let ranges = (c.set_acknowledged.ensures.read c.in-Ack.ack c.args.delay c.args.set.now None says).0 in
    let left : ranges_left c.into_iter-range-iterator.result ≡ ranges_in c.args.set.now =
    ap ranges_left c.into_iter-range-iterator.ensures.into_iter_gives ∙ c.iter-range-items.ensures.ranges
    ∙ ranges in
    let members : (n : ℕ) → is_in (ranges_left c.into_iter-range-iterator.result) n ≡ member c.args.set.now n =
    λ n. ap (λ l. is_in l n) left ∙ c.set_acknowledged.ensures.members c.args.set.now n c.iter-runs.ensures.maximal in
    let apart =
    subst AreApart (sym left) (c.set_acknowledged.ensures.apart c.args.set.now c.iter-runs.ensures.maximal) in (
      tt,
      tt,
      subst (λ s. IsUnderWay c.args.set.now s (ranges_left c.into_iter-range-iterator.result))
          (sym c.new-again.ensures) (begins c.args.set.now (ranges_left c.into_iter-range-iterator.result) members apart),
    )

pub overflow_add-greatest : goal.overflow_add-greatest
overflow_add-greatest c =
    let w = subst (IsUnderWay c.args.set.now c.loop-range.again) c.in-Some.ensures.steps.0 c.loop-range.invariant.2 in
    let small = greatest_fits c.args.set.now c.loop-range.again _ _ _ w c.requires.members in
    omega (arith, small, c.into_inner-least.ensures.end)

pub loop-range-preserved : goal.loop-range-preserved
loop-range-preserved c =
    let w = subst (IsUnderWay c.args.set.now c.loop-range.again) c.in-Some.ensures.steps.0 c.loop-range.invariant.2 in (
      tt,
      tt,
      goes_on c.args.set.now c.loop-range.again c.insert.new.self _ _ _ w
          (rw (c.into_inner-least.ensures.start, c.into_inner-least.ensures.end) at c.in_ok-insert.ensures.union),
    )

pub returns : goal.returns
returns c =
    let m = ack_of c.args.delay c.args.set.now None in
    let encoded =
    c.set_acknowledged.ensures.encoded false true c.args.delay c.args.set.now None c.iter-runs.ensures.maximal
    c.requires.some c.requires.members c.requires.delay tt in
    let content =
    content_is c.encode.result c.in_ok-encode.field-0 _ _ _ (shortest_frame true m) c.deref.ensures.value
    (c.encode.ensures true).ok c.in_ok-encode.was c.requires.empty in
    let one =
    one_left (as_written true m) (shortest_frame true m) _ c.in-Ok.frames encoded content c.in-Ok.ensures.first in
    let first = gives_it (as_written true m) c.in-Ok.frames c.next.new.self c.next.result one c.next.ensures.steps in
    let given = first.1 in
    let same : frames.Ack c.in-Ack.ack ≡ first.0 = cc in
    let says : meaning_of (frames.Ack c.in-Ack.ack) ≡ m = ap meaning_of same ∙ first.2 in
    let read = c.set_acknowledged.ensures.read c.in-Ack.ack c.args.delay c.args.set.now None says in
    let none = c.in-None-range.ensures.steps.0.0 in
    let w = subst (IsUnderWay c.args.set.now c.loop-range.again) none c.loop-range.invariant.2 in
    (is_again c.args.set.now c.loop-range.again w c.runs.ensures.unique c.iter-runs.ensures.maximal, c.delay.ensures ∙ read.1)
