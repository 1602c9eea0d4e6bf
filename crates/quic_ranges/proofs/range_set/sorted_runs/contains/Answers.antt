use Rattle.std.proofs.Common.{◌≡◌, ◌-◌, arith, sym, ◌∙◌, suc}
use Rattle.std.proofs.lemmas.Bool.{le-ltb}
use Rattle.quic_ranges.proofs.RemovalLemmas.{member-before, member-place}
use Rattle.quic_ranges.specs.Places.{starts_upto}
use Rattle.quic_ranges.proofs.range_set.sorted_runs.contains.Goals as goal

pub returns-then-after-gt0 : goal.returns-then-after-gt0
returns-then-after-gt0 c =
    let count : starts_upto c.args.runs.now c.args.x ≡ suc (c.count_starts_upto-after.result - 1) =
    sym c.count_starts_upto-after.ensures.count ∙ (omega arith) in
    sym (member-place 0 c.args.x (c.count_starts_upto-after.result - 1) (record { start = 0; end = 0 }) c.args.runs.now c.requires count)

pub returns-else-after-gt0 : goal.returns-else-after-gt0
returns-else-after-gt0 c =
    let none : starts_upto c.args.runs.now c.args.x ≡ 0 = sym c.count_starts_upto-after.ensures.count ∙ (omega arith) in
    le-ltb 0 c.count_starts_upto-after.result (omega arith)
    ∙ sym (member-before 0 c.args.x c.args.runs.now c.requires none)
