-- The parts of the set's runs are the runs of what it has in the range.
use Rattle.std.proofs.Common.{refl, arith}
use Rattle.quic_ranges.specs.Intersections.{intersections}
use Rattle.quic_ranges.proofs.RunsLemmas.{IsRunsOf-intersections}
use Rattle.quic_c_entries.specs.Entries.{first_runs, span}
use Rattle.quic_c_sets.proofs.within.quic_wire_set_within_.Goals as goal

pub returns-then-dest-needed-clause-room : goal.returns-then-dest-needed-clause-room
returns-then-dest-needed-clause-room c = λ _.
    let runs = first_runs c.args.count c.args.runs.now in
    let x = span c.args.start c.args.end in
    let set = c.if-not-is_set.ensures.0 refl in
    let full = c.if-dest-needed.true in
    (intersections runs x, IsRunsOf-intersections x runs set.maximal, c.count_parts-needed.ensures, omega (arith, full, c.count_parts-needed.ensures))

pub returns-clause-found : goal.returns-clause-found
returns-clause-found c = λ _.
    let runs = first_runs c.args.count c.args.runs.now in
    let x = span c.args.start c.args.end in
    let set = c.if-not-is_set.ensures.0 refl in
    (intersections runs x, IsRunsOf-intersections x runs set.maximal, c.store_parts.ensures)
