use Rattle.std.proofs.Common.{length, ap, ◌∙◌, arith}
use Rattle.quic_frame_fields.specs.Reading.{varint_at}
use Rattle.quic_frame_fields.proofs.UncountedBlocks.{some_of}
use Rattle.quic_frame_fields.proofs.Varints.{one_at, varint_found, varint_none}
use Rattle.quic_c.proofs.GapFilling.{gaps_begin, gap_is_there, len_is_there, gaps_go_on, gaps_end, gaps_whole, gaps_full}
use Rattle.quic_c.proofs.front.fill_gaps.Goals as goal
use Rattle.quic_c.proofs.front.fill_gaps.Goals.{then-loop-count-2-test+else-not-is_empty, else-loop-count-2-test}

pub returns-then-is_empty-clause-fills : goal.returns-then-is_empty-clause-fills
returns-then-is_empty-clause-fills c = λ least ranges are.
    let s = gaps_begin least ranges c.args.blocks.now c.args.gaps.now are in
    gaps_end least ranges c.args.gaps.now c.args.blocks.now c.args.gaps.now 0 s
    (λ fewer. gaps_full least ranges c.args.gaps.now c.args.blocks.now c.args.gaps.now 0 s c.if-is_empty.ensures fewer)

pub returns-then-is_empty-clause-whole : goal.returns-then-is_empty-clause-whole
returns-then-is_empty-clause-whole c = λ least ranges are.
    gaps_whole least ranges c.args.gaps.now c.args.blocks.now c.args.gaps.now 0 _
    (gaps_begin least ranges c.args.blocks.now c.args.gaps.now are) c.if-is_empty.ensures

pub loop-count-init : goal.loop-count-init
loop-count-init c = λ least ranges are. gaps_begin least ranges c.args.blocks.now c.args.gaps.now are

pub loop-count-preserved : goal.loop-count-preserved
loop-count-preserved c = λ least ranges are.
    let here = c.loop-count in
    let front = c.in-Some.ensures in
    gaps_go_on least ranges c.args.gaps.now here.left.now here.gaps here.count c.in-Some.between c.in-Some.len _
    c.in-Some.rest.now (here.invariant least ranges are) c.loop-count-test.true (omega (arith, ap length front.0))
    (ap varint_at front.0 ∙ one_at _ _ front.1) (one_at _ _ front.2)

pub unreachable-requires : goal.unreachable-requires
unreachable-requires c =
    let here = c.loop-count-2 in
    let asked = c.requires in
    gap_is_there asked.0 asked.1 c.args.gaps.now here.left.now here.gaps here.count _ (here.invariant asked.0 asked.1 asked.2)
    (some_of (length here.left.now) c.if-not-is_empty.ensures) (varint_none _ c.in_default-split_var.ensures.found)

pub unreachable-requires-in_default-split_var-2 : goal.unreachable-requires-in_default-split_var-2
unreachable-requires-in_default-split_var-2 c =
    let here = c.loop-count-2 in
    let asked = c.requires in
    len_is_there asked.0 asked.1 c.args.gaps.now here.left.now here.gaps here.count c.in-Ok.gap c.in-Ok.behind.now _
    (here.invariant asked.0 asked.1 asked.2)
    (some_of (length here.left.now) c.if-not-is_empty.ensures) (varint_found _ _ c.in-Ok.ensures.found)
    (varint_none _ c.in_default-split_var-2.ensures.found)

pub loop-count-2-preserved : goal.loop-count-2-preserved
loop-count-2-preserved c = λ least ranges are.
    let here = c.loop-count-2 in
    let some = some_of (length here.left.now) c.if-not-is_empty.ensures in
    gaps_go_on least ranges c.args.gaps.now here.left.now here.gaps here.count c.in-Ok.gap c.in-Ok-split_var.len
    c.in-Ok.behind.now c.in-Ok-split_var.rest.now
    (here.invariant least ranges are) c.loop-count-2-test.true some
    (varint_found _ _ c.in-Ok.ensures.found) (varint_found _ _ c.in-Ok-split_var.ensures.found)

pub returns-clause-fills : goal.returns-clause-fills
returns-clause-fills c = λ least ranges are.
    let here = c.loop-count-2 in
    let s = here.invariant least ranges are in
    elim c.loop-count-2-test.branch [
      | then-loop-count-2-test+else-not-is_empty w ↦ gaps_end least ranges c.args.gaps.now here.left.now here.gaps here.count s
          (λ fewer. gaps_full least ranges c.args.gaps.now here.left.now here.gaps here.count s w.if-not-is_empty.ensures fewer)
      | else-loop-count-2-test w ↦ gaps_end least ranges c.args.gaps.now here.left.now here.gaps here.count s
          (λ fewer. omega (arith, s.few, s.all, w.loop-count-2-test.false))
    ]

pub returns-clause-whole : goal.returns-clause-whole
returns-clause-whole c = λ least ranges are.
    let here = c.loop-count-2 in
    gaps_whole least ranges c.args.gaps.now here.left.now here.gaps here.count c.is_empty-2.result
    (here.invariant least ranges are) c.is_empty-2.ensures
