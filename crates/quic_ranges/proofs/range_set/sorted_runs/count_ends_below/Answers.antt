use Rattle.std.proofs.Common.{◌≡◌, ◌-◌, suc, length, ltb, ℕ, sym, ◌∙◌, rules, arith}
use Rattle.std.proofs.lemmas.List.Sorted.{IsPartitionPoint-from_clause}
use Rattle.std.specs.declared.ops.Range.{Range}
use Rattle.quic_ranges.proofs.PlacesLemmas.{ends_below-place, ends_partition, ends_below-all, ends_below-others}
use Rattle.quic_ranges.proofs.range_set.sorted_runs.count_ends_below.Goals as goal
use Rattle.quic_ranges.proofs.range_set.sorted_runs.count_ends_below.Goals.{then-runs-len-2, else-runs-len-2}

pub returns-clause-count : goal.returns-clause-count
returns-clause-count c =
    let point =
    IsPartitionPoint-from_clause (λ (r : Range ℕ). ltb r.end c.args.x) _ _ c.partition_point.ensures.partitioned
    (ends_partition c.args.x c.args.runs.now c.requires) (λ a r q k. search rules) in
    sym (ends_below-place c.args.x c.partition_point.result c.args.runs.now c.partition_point.ensures.bound point)

pub returns-then-runs-len-clause-count : goal.returns-then-runs-len-clause-count
returns-then-runs-len-clause-count c =
    let last : length c.args.runs.now ≡ suc (length c.args.runs.now - 1) = omega arith in
    elim c.if-runs-len-2.branch [
      | then-runs-len-2 w ↦ w.result-is ∙ last ∙ sym (ends_below-all 0 c.args.x (length c.args.runs.now - 1)
          (record { start = 0; end = 0 }) c.args.runs.now c.requires last w.if-runs-len-2.true)
      | else-runs-len-2 w ↦ w.result-is ∙ sym (ends_below-others 0 c.args.x (length c.args.runs.now - 1)
          (record { start = 0; end = 0 }) c.args.runs.now c.requires last c.if-runs-len.true w.if-runs-len-2.false)
    ]
