use Rattle.std.proofs.Common.{◌≡◌, ℕ, ◌+◌, ◌∙◌, length, ap, subst, sym, arith}
use Rattle.std.proofs.lemmas.Bool.{false≢true}
use Rattle.quic_params.specs.Further.{IsOrderOf, asked}
use Rattle.quic_params.specs.Table.{parameter_count}
use Rattle.quic_params.proofs.Further.{in_order_once}
use Rattle.quic_c_params.proofs.lists.count_entries.Goals as goal

pub returns-else-is_order-clause-none : goal.returns-else-is_order-clause-none
returns-else-is_order-clause-none c = λ _ es f o.
    let mine = c.in_ok-count.ensures.some in
    let same = in_order_once mine.0 es c.args.further.now mine.1.encoded f.encoded in
    let e : parameter_count + length es ≡ parameter_count + c.in_ok-count.field-0 =
    omega (arith, ap length same, mine.2) in
    let yes = c.is_order.ensures.1 (subst (λ (n : ℕ). IsOrderOf n (asked n c.args.order.now)) e o) in
    false≢true (sym c.if-is_order.false ∙ yes)
