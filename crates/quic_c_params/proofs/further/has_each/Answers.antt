use Rattle.std.proofs.Common.{◌≡◌, ℕ, ◌+◌, ◌<◌, arith, sym, ◌∙◌, rules, inl, inr, subst, eq-eqb}
use Rattle.std.specs.Prelude.{Contains, ◌⊎◌}
use Rattle.std.proofs.lemmas.Bool.{false≢true}
use Rattle.quic_c_params.proofs.further.has_each.Goals as goal

pub returns-then-not-contains : goal.returns-then-not-contains
returns-then-not-contains c = (
  λ e. absurd (false≢true e),
  λ h.
      let w = h.each c.loop-index.index c.loop-index-test.true in
      let f = c.if-not-contains.ensures.cases w.0 c.loop-index.index (omega arith) w.1 in
      absurd (false≢true (sym f ∙ eq-eqb _ _ w.2)),
)

one_more : (n i : ℕ) → i < n + 1 → (i < n) ⊎ (i ≡ n)
one_more n i h = grind arith

pub loop-index-preserved : goal.loop-index-preserved
loop-index-preserved c = λ i h. elim (one_more c.loop-index.index i h) [
  | inl lt ↦ c.loop-index.invariant i lt
  | inr e ↦ subst (λ (j : ℕ). Contains c.args.order.now j) (sym e) (search rules)
]
