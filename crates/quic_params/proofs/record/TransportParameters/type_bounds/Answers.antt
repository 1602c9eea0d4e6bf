use Rattle.std.proofs.Common.{◌≡◌, ℕ, ◌+◌, ◌<◌, ◌⊎◌, inl, inr, arith, sym, subst}
use Rattle.std.specs.Prelude.{IfSome}
use Rattle.quic_params.specs.Order.{id_of_index}
use Rattle.quic_params.specs.Range.{IsTypedAs}
use Rattle.quic_params.specs.Record.{value_of}
use Rattle.quic_params.specs.Table.{row_of}
use Rattle.quic_params.proofs.Rows.{at_place, index_below}
use Rattle.quic_params.proofs.record.TransportParameters.type_bounds.Goals as goal

one_more : (n i : ℕ) → i < n + 1 → (i < n) ⊎ (i ≡ n)
one_more n i h = grind arith

pub loop-id-preserved : goal.loop-id-preserved
loop-id-preserved c = λ k lt. elim (one_more c.loop-id.id-index k lt) [
  | inl before ↦ c.loop-id.invariant k before
  | inr e ↦ subst (λ j. IfSome (value_of c.args.self.now (id_of_index j)) (IsTypedAs (row_of (id_of_index j)).kind))
      (sym e) (subst (λ o. IfSome o (IsTypedAs (row_of (id_of_index c.loop-id.id-index)).kind))
      c.get-value.ensures.value c.get-value.ensures.typed)
]

pub returns : goal.returns
returns c = record {
  values = λ id. subst (λ i. IfSome (value_of c.args.self.now i) (IsTypedAs (row_of i).kind)) (at_place id)
      (c.loop-id.invariant (row_of id).index (omega (arith, index_below id, c.loop-id-test.false)));
  grease = c.grease_bounds.ensures;
  order = c.order_bounds.ensures;
}
