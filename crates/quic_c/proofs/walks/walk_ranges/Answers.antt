use Rattle.std.proofs.Common.{◌≡◌, ◌∙◌, ap, rules, set, subst, sym, to_z, of_z, w32}
use Rattle.std.specs.Prelude.{◌≢◌, ℤ, pos}
use Rattle.std.proofs.lemmas.List.{set-get_or}
use Rattle.quic_frame_fields.specs.Acks.{ranges_acked}
use Rattle.quic_results.specs.declared.results.Failure.TheVariants as failure
use Rattle.quic_results.specs.Results.{failed}
use Rattle.quic_c.specs.Walks.{StoresRanges}
use Rattle.quic_c.proofs.RangeWalks.{but_first, head_there, range_stops, range_walk_begins, range_walk_next, ranges_left, stores_full}
use Rattle.quic_c.proofs.walks.walk_ranges.Goals as goal

pub loop-count-init : goal.loop-count-init
loop-count-init c =
    range_walk_begins c.quic_wire_ack_ranges_init_-begun.new.ranges c.args.payload.now c.args.out.now

pub loop-count-preserved : goal.loop-count-preserved
loop-count-preserved c =
    let here = c.loop-count in
    let s = c.quic_wire_ack_ranges_next_-last in
    let one : s.result ≡ pos 1 = search rules in
    range_walk_next c.quic_wire_ack_ranges_init_-begun.new.ranges c.args.payload.now c.args.out.now here.ranges s.new.ranges
    here.out here.count s.new.out here.invariant c.loop-count-test.true (s.ensures.range one)

pub returns-then-begun-ne0 : goal.returns-then-begun-ne0
returns-then-begun-ne0 c = λ r old new ack given is.
    let s = c.quic_wire_ack_ranges_init_-begun in
    let place : s.result ≡ failed failure.Place = search rules in
    absurd (head_there r old new c.args.payload.now c.args.frame.now ack given is (s.ensures.refused place).0)

pub returns : goal.returns
returns c = λ r old new ack given is.
    let s = c.quic_wire_ack_ranges_init_-begun in
    let here = c.loop-count in
    let begun : s.result ≡ pos 0 = search rules in
    let left = ranges_left r old new c.args.payload.now c.args.frame.now ack s.new.ranges given is (s.ensures.head begun) in
    stores_full s.new.ranges c.args.payload.now c.args.out.now here.ranges here.out here.count (ranges_acked ack)
    here.invariant left (search rules)

pub returns-then-last-ne1 : goal.returns-then-last-ne1
returns-then-last-ne1 c = λ r old new ack given is.
    let s = c.quic_wire_ack_ranges_init_-begun in
    let here = c.loop-count in
    let begun : s.result ≡ pos 0 = search rules in
    let left = ranges_left r old new c.args.payload.now c.args.frame.now ack s.new.ranges given is (s.ensures.head begun) in
    let t = c.quic_wire_ack_ranges_next_-last in
    let stops : t.result ≢ pos 1 = search rules in
    let count : to_z w32 (of_z w32 t.result) ≡ t.result = search rules in
    let same = but_first _ _ t.ensures.same stops in
    let stored = set here.out here.count t.new.out in
    let all : stored ≡ here.out = ap (set here.out here.count) same.1 ∙ set-get_or here.out here.count _ in
    subst (λ (z : ℤ). StoresRanges (ranges_acked ack) c.args.out.now here.count z stored) (sym count)
    (range_stops s.new.ranges c.args.payload.now c.args.out.now here.ranges here.out stored here.count t.result
    (ranges_acked ack) here.invariant left (but_first _ _ t.ensures.returns stops) t.ensures.end.0 t.ensures.invalid all)
