use Rattle.std.proofs.Common.{◌≡◌, ◌-◌, arith, sym, ◌∙◌, suc}
use Rattle.std.proofs.lemmas.Bool.{le-ltb}
use Rattle.quic_ranges.proofs.RemovalLemmas.{member-before}
use Rattle.quic_ranges.specs.Places.{starts_upto}
use Rattle.quic_c_entries.specs.Entries.{runs_of}
use Rattle.quic_c_entries.proofs.Placing.{member_at}
use Rattle.quic_c_entries.proofs.places.contains.Goals as goal

pub returns-then-after-gt0 : goal.returns-then-after-gt0
returns-then-after-gt0 c h =
    let count : starts_upto (runs_of c.args.runs.now) c.args.x ≡ suc (c.count_starts_upto-after.result - 1) =
    sym (c.count_starts_upto-after.ensures.count h) ∙ (omega arith) in
    member_at c.args.runs.now c.args.x (c.count_starts_upto-after.result - 1) h count

pub returns-else-after-gt0 : goal.returns-else-after-gt0
returns-else-after-gt0 c h =
    let none : starts_upto (runs_of c.args.runs.now) c.args.x ≡ 0 =
    sym (c.count_starts_upto-after.ensures.count h) ∙ (omega arith) in
    le-ltb 0 c.count_starts_upto-after.result (omega arith)
    ∙ sym (member-before 0 c.args.x (runs_of c.args.runs.now) h none)
