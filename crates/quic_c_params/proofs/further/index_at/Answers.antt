use Rattle.std.proofs.Common.{rules, subst, arith}
use Rattle.quic_params.specs.Further.{IsOrderOf}
use Rattle.quic_c_params.proofs.Others.{asked_at, asked_some, below_all}
use Rattle.quic_c_params.proofs.further.index_at.Goals as goal

pub returns-then-is_empty-clause-value : goal.returns-then-is_empty-clause-value
returns-then-is_empty-clause-value c =
    asked_at c.args.count c.args.order.now c.args.place (search rules) c.requires.place

pub returns-else-is_empty-clause-below : goal.returns-else-is_empty-clause-below
returns-else-is_empty-clause-below c =
    let some = asked_some c.args.count c.args.order.now (search rules) in
    let all : IsOrderOf c.args.count c.args.order.now = subst (IsOrderOf c.args.count) some c.requires.order in
    omega (arith, c.from.ensures, below_all c.args.count c.args.order.now c.args.place all c.requires.place)
