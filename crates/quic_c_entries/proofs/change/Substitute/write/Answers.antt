use Rattle.std.proofs.Common.{◌≤◌, ◌+◌, length, refl, subst}
use Rattle.quic_ranges.proofs.SpliceLemmas.{set-one, set-two}
use Rattle.quic_c_entries.specs.Changes.{words_of}
use Rattle.quic_c_entries.proofs.change.Substitute.write.Goals as goal

pub returns-in-One : goal.returns-in-One
returns-in-One c =
    let fits = subst (λ s. c.args.at + length (words_of s) ≤ length c.args.runs.now) c.in-One.is c.requires in
    rw c.in-One.is (set-one c.args.runs.now c.args.at _ c.in-One.run' refl fits)

pub returns-in-Two : goal.returns-in-Two
returns-in-Two c =
    let fits = subst (λ s. c.args.at + length (words_of s) ≤ length c.args.runs.now) c.in-Two.is c.requires in
    rw c.in-Two.is (set-two c.args.runs.now c.args.at _ _ c.in-Two.front c.in-Two.back refl refl fits)
