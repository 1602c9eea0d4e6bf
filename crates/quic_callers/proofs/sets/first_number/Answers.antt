use Rattle.quic_callers.proofs.Lowest.{first_number}
use Rattle.quic_callers.proofs.sets.first_number.Goals as goal

pub returns : goal.returns
returns c =
    first_number c.args.set.now _ _ c.next.result c.elts.ensures c.next.ensures.steps c.elements.ensures.members
