-- The parts of the runs that were found are the runs of what the set has in the range.
use Rattle.std.proofs.Common.{◌≡◌, ◌∙◌, List, ℕ, ap, length, subst, sym, arith}
use Rattle.std.specs.declared.ops.Range.{Range}
use Rattle.quic_ranges.specs.Intersections.{intersections}
use Rattle.quic_ranges.specs.Runs.{IsMaximalRuns}
use Rattle.quic_ranges.proofs.RunsLemmas.{IsRunsOf-intersections}
use Rattle.quic_c_entries.specs.declared.words.CRange.{CRange}
use Rattle.quic_c_entries.specs.Entries.{Stores, runs_of, span}
use Rattle.quic_c_runs.specs.Sets.{entries_at, runs_at}
use Rattle.quic_c_runs.proofs.Changing.{found_in}
use Rattle.quic_c_runs.proofs.within.quic_wire_runs_within_.Goals as goal

pub returns-then-dest-needed-clause-room : goal.returns-then-dest-needed-clause-room
returns-then-dest-needed-clause-room c = λ valid _.
    let x = span c.args.start c.args.end in
    let runs = runs_at c.args.runs.now c.args.set.now in
    let same : intersections (runs_of c.touched-found.result.now) x ≡ intersections runs x =
    found_in x c.entries.result.now (entries_at c.args.runs.now c.args.set.now) c.touched-found.result.now c.entries.ensures
    c.touched-found.ensures.same valid.maximal in
    let full = c.if-dest-needed.true in
    let count = c.count_parts-needed.ensures ∙ ap length same in
    (intersections runs x, IsRunsOf-intersections x runs valid.maximal, count, omega (arith, full, count))

pub returns-clause-found : goal.returns-clause-found
returns-clause-found c = λ valid _.
    let x = span c.args.start c.args.end in
    let runs = runs_at c.args.runs.now c.args.set.now in
    let same : intersections (runs_of c.touched-found.result.now) x ≡ intersections runs x =
    found_in x c.entries.result.now (entries_at c.args.runs.now c.args.set.now) c.touched-found.result.now c.entries.ensures
    c.touched-found.ensures.same valid.maximal in (
      intersections runs x,
      IsRunsOf-intersections x runs valid.maximal,
      subst (λ (l : List (Range ℕ)). Stores l c.args.dest.now c.store_parts.new.dest c.store_parts.result) same c.store_parts.ensures,
    )
