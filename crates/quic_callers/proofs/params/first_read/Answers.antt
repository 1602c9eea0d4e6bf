use Rattle.std.proofs.Common.{List, subst}
use Rattle.quic_params.specs.Entry.{Entry}
use Rattle.quic_params.specs.Further.{IsRecordOf}
use Rattle.quic_params.proofs.Further.{next}
use Rattle.quic_callers.proofs.params.first_read.Goals as goal

pub returns : goal.returns
returns c =
    let p = c.in-Ok._record in
    let made = c.entries.ensures.record c.args.side c.args.list.now p c.in-Ok.ensures.meant in
    let n =
    next c.in_ok-number.number c.in_ok-number.field-0-1.now c.args.list.now c.in_ok-number.field-0-2.now made.0
    c.in_ok-number.ensures made.1 in
    (p, n.first, n.others, c.in-Ok.ensures.meant, n.number, subst (λ (es : List Entry). IsRecordOf es p) n.whole made.2)
