use Rattle.std.proofs.Common.{List, refl, subst, arith}
use Rattle.quic_c_entries.specs.declared.words.CRange.{CRange}
use Rattle.quic_c_entries.specs.Changes.{Made}
use Rattle.quic_c_runs.proofs.Moving.{made_behind, part_is, part_put}
use Rattle.quic_c_runs.proofs.moves.make_behind.Goals as goal

pub returns-clause-made : goal.returns-clause-made
returns-clause-made c _ =
    let old = c.args.runs.now in
    let set = c.args.set.now in
    made_behind old c.make.new.runs _ set c.args.change c.make.new.count (omega arith)
    (subst (λ (l : List CRange). Made l set.count c.args.change c.make.new.runs c.make.new.count) (part_is old set.first)
    (c.if-not-make.ensures.made refl))
    (part_put old c.make.new.runs set.first)
