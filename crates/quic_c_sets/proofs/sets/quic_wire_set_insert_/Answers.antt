use Rattle.std.proofs.Common.{refl}
use Rattle.quic_ranges.specs.Runs.{in_union}
use Rattle.quic_c_entries.specs.Entries.{first_runs, span}
use Rattle.quic_c_sets.proofs.Changing.{lacks_room}
use Rattle.quic_c_sets.proofs.sets.quic_wire_set_insert_.Goals as goal

pub returns-else-make-clause-room : goal.returns-else-make-clause-room
returns-else-make-clause-room c _ =
    lacks_room (in_union (first_runs c.args.count.now c.args.runs.now) (span c.args.start c.args.end)) c.args.runs.now
    c.args.count.now c.in-Some.change (c.if-not-is_set.ensures.0 refl)
    (c.in-Some.ensures.some (c.if-not-is_set.ensures.0 refl).maximal) (c.if-make.ensures.more refl)
