use Rattle.std.proofs.Common.{◌≤◌, ◌<◌, ◌-◌, length, leb, ℕ, sym, rules, arith}
use Rattle.std.proofs.lemmas.List.Sorted.{IsPartitionPoint-from_clause}
use Rattle.std.specs.declared.ops.Range.{Range}
use Rattle.quic_ranges.specs.Places.{starts_upto}
use Rattle.quic_ranges.proofs.PlacesLemmas.{starts_upto-place, starts_partition, starts_upto-above, starts_upto-length}
use Rattle.quic_ranges.proofs.range_set.sorted_runs.count_starts_upto.Goals as goal

pub returns-clause-count : goal.returns-clause-count
returns-clause-count c =
    let point =
    IsPartitionPoint-from_clause (λ (r : Range ℕ). leb r.start c.args.x) _ _ c.partition_point.ensures.partitioned
    (starts_partition c.args.x c.args.runs.now c.requires) (λ a r q k. search rules) in
    sym (starts_upto-place c.args.x c.partition_point.result c.args.runs.now c.partition_point.ensures.bound point)

pub returns-then-runs-len-clause-count : goal.returns-then-runs-len-clause-count
returns-then-runs-len-clause-count c =
    let last : length c.args.runs.now - 1 < starts_upto c.args.runs.now c.args.x =
    starts_upto-above 0 (length c.args.runs.now - 1) c.args.x (record { start = 0; end = 0 }) c.args.runs.now
    c.requires (omega arith) c.if-runs-len.true in
    let most : starts_upto c.args.runs.now c.args.x ≤ length c.args.runs.now =
    starts_upto-length c.args.x c.args.runs.now in
    omega arith
