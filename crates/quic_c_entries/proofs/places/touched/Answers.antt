use Rattle.quic_c_entries.specs.Entries.{range_of}
use Rattle.quic_c_entries.proofs.Touching.{in_touched}
use Rattle.quic_c_entries.proofs.places.touched.Goals as goal

pub returns-clause-same : goal.returns-clause-same
returns-clause-same c h =
    in_touched (range_of c.args.x) c.args.runs.now c.count_ends_below-from.result c.count_starts_upto.result c.max-to.result h
    (c.count_ends_below-from.ensures.count h) (c.count_starts_upto.ensures.count h) c.max-to.ensures
