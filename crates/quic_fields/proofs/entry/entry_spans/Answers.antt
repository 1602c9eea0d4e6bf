use Rattle.std.proofs.Common.{[], refl}
use Rattle.quic_fields.proofs.Entries.{has_entry, lacks_entry}
use Rattle.quic_fields.proofs.entry.entry_spans.Goals as goal

pub returns-clause-ok : goal.returns-clause-ok
returns-clause-ok c = λ none.
    let w = c.walk.ensures in
    has_entry c.args.list.now c.args.room.now c.walk.new.room c.walk.result.count c.walk.result.end
    c.walk.result.fault none (λ i. (c.type_inv.list i).fits) (w.spans [] refl) (w.count [] refl) (w.end [] refl) (w.ends [] refl)

pub returns-clause-err : goal.returns-clause-err
returns-clause-err c =
    let w = c.walk.ensures in
    lacks_entry c.args.list.now c.args.room.now c.walk.new.room c.walk.result.count c.walk.result.end
    c.walk.result.fault (λ i. (c.type_inv.list i).fits) (w.spans [] refl) (w.count [] refl) (w.end [] refl) (w.ends [] refl)
