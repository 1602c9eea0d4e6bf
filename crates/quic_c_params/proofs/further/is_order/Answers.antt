use Rattle.std.proofs.Common.{rules, subst, sym}
use Rattle.quic_params.specs.Further.{IsOrderOf}
use Rattle.quic_c_params.proofs.Others.{as_they_are, asked_none}
use Rattle.quic_c_params.proofs.further.is_order.Goals as goal

pub returns-then-is_empty : goal.returns-then-is_empty
returns-then-is_empty c = (
  λ _. subst (IsOrderOf c.args.count) (sym (asked_none c.args.count c.args.order.now (search rules)))
      (as_they_are c.args.count),
  λ _. c.if-is_empty.true,
)
