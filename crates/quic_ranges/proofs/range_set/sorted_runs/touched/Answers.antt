use Rattle.std.proofs.Common.{◌≤◌, arith, rules}
use Rattle.quic_ranges.specs.Places.{ends_below, starts_upto}
use Rattle.quic_ranges.proofs.PlacesLemmas.{ends_below-starts_upto}
use Rattle.quic_ranges.proofs.SubtractLemmas.{outside-touched, intersections-touched}
use Rattle.quic_ranges.proofs.range_set.sorted_runs.touched.Goals as goal

pub slice_bounds-result-count : goal.slice_bounds-result-count
slice_bounds-result-count c =
    let order : ends_below c.args.runs.now c.args.x.now.start
    ≤ starts_upto c.args.runs.now c.args.x.now.end = ends_below-starts_upto 0 c.args.x.now.start c.args.x.now.end
    c.args.runs.now c.requires.maximal c.requires.nonempty in omega arith

pub slice_bounds-result-start : goal.slice_bounds-result-start
slice_bounds-result-start c =
    let order : ends_below c.args.runs.now c.args.x.now.start
    ≤ starts_upto c.args.runs.now c.args.x.now.end = ends_below-starts_upto 0 c.args.x.now.start c.args.x.now.end
    c.args.runs.now c.requires.maximal c.requires.nonempty in search rules

pub returns-clause-outside : goal.returns-clause-outside
returns-clause-outside c =
    let same = outside-touched 0 c.args.x.now.start c.args.x.now.end c.args.runs.now c.requires.maximal
    c.requires.nonempty in rw (c.count_ends_below.ensures.count, c.count_starts_upto.ensures.count) same

pub returns-clause-intersections : goal.returns-clause-intersections
returns-clause-intersections c =
    let same = intersections-touched 0 c.args.x.now c.args.runs.now c.requires.maximal c.requires.nonempty in rw
    (c.count_ends_below.ensures.count, c.count_starts_upto.ensures.count) same
