use Rattle.std.proofs.Common.{ℕ, arith, sym, subst}
use Rattle.quic_base.specs.Varint.{Encodes}
use Rattle.quic_params.proofs.Values.{cut_number, part_number, whole_number}
use Rattle.quic_params.proofs.value_decode.value_number.Goals as goal

pub returns-in_default-clause-value : goal.returns-in_default-clause-value
returns-in_default-clause-value c = λ n. cut_number n _ (c.in_default.ensures.cut n)

pub returns-else-rest-eq0-clause-value : goal.returns-else-rest-eq0-clause-value
returns-else-rest-eq0-clause-value c = λ n. part_number c.in-Ok.n n _ _ c.in-Ok.ensures.ok (omega arith)

pub returns-then-rest-eq0-clause-value : goal.returns-then-rest-eq0-clause-value
returns-then-rest-eq0-clause-value c =
    subst (λ (n : ℕ). Encodes n c.args.bytes.now) (sym c.from_u64_unchecked.ensures)
    (whole_number c.in-Ok.n _ _ c.in-Ok.ensures.ok (omega arith))
