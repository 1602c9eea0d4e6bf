use Rattle.quic_c_runs.proofs.Moving.{moved_behind, moved_there}
use Rattle.quic_c_runs.proofs.moves.move_to_front.Goals as goal

pub returns-clause-moved : goal.returns-clause-moved
returns-clause-moved c =
    moved_there c.args.runs.now c.copy_within.new.self c.args.set.now.first c.args.set.now.count c.requires c.copy_within.ensures.after

pub returns-clause-behind : goal.returns-clause-behind
returns-clause-behind c =
    moved_behind c.args.runs.now c.copy_within.new.self c.args.set.now.first c.args.set.now.count c.requires c.copy_within.ensures.after
