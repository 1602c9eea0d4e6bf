use Rattle.std.proofs.Common.{arith, ◌≤◌, ◌+◌, length, refl, subst}
use Rattle.quic_ranges.specs.Splices.{substitutes}
use Rattle.quic_ranges.proofs.SpliceLemmas.{set-one, set-two}
use Rattle.std.proofs.lemmas.Grind.{common_steps}
use Rattle.quic_ranges.proofs.range_set.sorted_runs.Substitute.write.Goals as goal

pub returns-in-One : goal.returns-in-One
returns-in-One c =
    let fits = subst (λ s. c.args.at + length (substitutes s) ≤ length c.args.runs.now) c.in-One.is c.requires in
    rw c.in-One.is (set-one c.args.runs.now c.args.at _ c.in-One.run' refl fits)

pub returns-in-Two : goal.returns-in-Two
returns-in-Two c =
    let fits = subst (λ s. c.args.at + length (substitutes s) ≤ length c.args.runs.now) c.in-Two.is c.requires in
    rw c.in-Two.is (set-two c.args.runs.now c.args.at _ _ c.in-Two.front c.in-Two.back refl refl fits)

pub returns-in-Nothing : goal.returns-in-Nothing
returns-in-Nothing c = grind (arith, common_steps)
