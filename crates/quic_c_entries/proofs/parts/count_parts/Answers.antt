use Rattle.std.proofs.Common.{arith}
use Rattle.quic_c_entries.specs.Entries.{range_of}
use Rattle.quic_c_entries.proofs.RangeParts.{counted_few, counted_more}
use Rattle.quic_c_entries.proofs.parts.count_parts.Goals as goal

pub overflow_add-count : goal.overflow_add-count
overflow_add-count c = omega (
  arith,
  counted_few c.args.runs.now (range_of c.args.x) c.loop-run.run-index c.loop-run.count c.len-count.result c.part_of.result
      c.loop-run-test.true c.loop-run.invariant c.part_of.ensures c.len-count.ensures.count,
)

pub loop-run-preserved : goal.loop-run-preserved
loop-run-preserved c =
    counted_more c.args.runs.now (range_of c.args.x) c.loop-run.run-index c.loop-run.count c.len-count.result c.part_of.result
    c.loop-run-test.true c.loop-run.invariant c.part_of.ensures c.len-count.ensures.count
