use Rattle.std.proofs.Common.{inr, refl, arith}
use Rattle.quic_c.proofs.RangeFilling.{none_of_left, ranges_go_on, ranges_end}
use Rattle.quic_c.proofs.fill_ranges.fill_ranges.Goals as goal

pub loop-count-preserved : goal.loop-count-preserved
loop-count-preserved c =
    let here = c.loop-count in
    let facts = c.in-Some.ensures in
    ranges_go_on c.args.from c.args.payload.now c.args.out.now here.bytes.now here.left here.largest here.out here.count
    c.in-Some.rest.now c.in-Some.least c.in-Some.next here.invariant c.loop-count-test.true (omega arith) facts.takes
    facts.shorter facts.left

pub returns-in_default : goal.returns-in_default
returns-in_default c =
    let here = c.loop-count in
    let s = here.invariant in
    let cut = c.in_default.ensures.cut refl in
    let none =
    none_of_left c.args.payload.now here.left here.largest here.bytes.now cut.0 s.is_end (omega arith) cut.1 in
    rw c.words_at.ensures (ranges_end c.args.from c.args.payload.now c.args.out.now here.bytes.now here.left here.largest
    here.out here.count s (inr none))
