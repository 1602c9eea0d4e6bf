use Rattle.std.proofs.Common.{refl}
use Rattle.quic_ranges.specs.Runs.{in_difference}
use Rattle.quic_c_entries.specs.Entries.{span}
use Rattle.quic_c_runs.specs.Sets.{entries_at, runs_at}
use Rattle.quic_c_runs.proofs.Changing.{lacks_entry, planned}
use Rattle.quic_c_runs.proofs.runs.quic_wire_runs_remove_.Goals as goal

pub returns-else-make_at-clause-room : goal.returns-else-make_at-clause-room
returns-else-make_at-clause-room c valid _ =
    let runs = c.args.runs.now in
    let set = c.args.set.now in
    lacks_entry (in_difference (runs_at runs set) (span c.args.start c.args.end)) runs set c.in-Some.change
    (planned in_difference c.entries.result.now (entries_at runs set) (record { start = c.args.start; end = c.args.end })
    c.entries.ensures c.in-Some.change c.in-Some.ensures.some valid.maximal)
    (c.if-make_at.ensures.front refl) (c.if-make_at.ensures.full refl) (c.if-make_at.ensures.more refl)
