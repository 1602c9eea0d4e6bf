use Rattle.quic_c_entries.specs.Entries.{range_of}
use Rattle.quic_c_entries.proofs.RangeParts.{room_for, stored_more}
use Rattle.quic_c_entries.proofs.parts.store_parts.Goals as goal

pub write-requires : goal.write-requires
write-requires c =
    room_for c.args.runs.now (range_of c.args.x) c.args.dest.now c.loop-run.dest c.loop-run.run-index c.loop-run.count
    c.part_of-part.result c.loop-run-test.true c.loop-run.invariant c.part_of-part.ensures c.requires

pub loop-run-preserved : goal.loop-run-preserved
loop-run-preserved c =
    stored_more c.args.runs.now (range_of c.args.x) c.args.dest.now c.loop-run.dest c.write.new.runs
    c.loop-run.run-index c.loop-run.count c.len-count.result c.part_of-part.result c.loop-run-test.true
    c.loop-run.invariant c.part_of-part.ensures c.requires c.len-count.ensures.count c.write.ensures
