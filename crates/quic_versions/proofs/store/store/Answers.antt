-- None is 0 of the versions that are stored, so they are read as such.
use Rattle.std.proofs.Common.{◌≡◌, ◌<◌, ◌^◌, ◌++◌, ◌∙◌, ℕ, List, take, inl, inr, ap, rules, arith}
use Rattle.std.specs.Prelude.{Contains, slice_index}
use Rattle.quic_base.specs.Number.{bytes_of}
use Rattle.quic_base.proofs.PublicLaws.{is_number_4}
use Rattle.quic_versions.specs.Versions.{version_bytes}
use Rattle.quic_versions.proofs.Stored.{are_stored, in_front, in_rest}
use Rattle.quic_base.proofs.Storing.{stays}
use Rattle.quic_versions.proofs.store.store.Goals.{then-chosen-eq0-via-then-chosen-eq0, then-chosen-eq0-via-else-chosen-eq0+then-has_zero, then-chosen-eq0-via-else-chosen-eq0+else-has_zero+then-dest-available}
use Rattle.quic_versions.proofs.store.store.Goals as goal

pub returns-then-chosen-eq0-clause-none : goal.returns-then-chosen-eq0-clause-none
returns-then-chosen-eq0-clause-none c = λ _. elim c.then-chosen-eq0.branch [
  | then-chosen-eq0-via-then-chosen-eq0 w ↦ inl (in_front c.args.chosen c.args.available.now (omega (arith, w.if-chosen-eq0)))
  | then-chosen-eq0-via-else-chosen-eq0+then-has_zero w ↦ inl
      (in_rest c.args.chosen c.args.available.now (w.has_zero.ensures.0 (search (rules, w.if-has_zero))))
  | then-chosen-eq0-via-else-chosen-eq0+else-has_zero+then-dest-available w ↦ inr (omega (arith, w.if-dest-available))
]

pub returns-clause-stored : goal.returns-clause-stored
unfolding bytes_of
returns-clause-stored c =
    let chosen : ℕ = c.args.chosen in
    let available : List ℕ = c.args.available.now in
    let front : take c.store_array-at.result c.store_array-at.new.bytes ≡ bytes_of 4 chosen =
    c.store_array-at.ensures.front ∙ c.to_be_bytes.ensures in
    let fits : (i : ℕ) → slice_index available i < 2 ^ 32 = λ i. (c.type_inv.available i).fits in
    let some : Contains available 0 → ⊥ = λ s. absurd (cc (c.has_zero.ensures.1 s, c.if-has_zero.false)) in (
      search (rules, c.if-chosen-eq0.false),
      bytes_of 4 chosen,
      version_bytes available,
      c.store_versions.ensures.front ∙ ap (λ (xs : List ℕ). xs ++ version_bytes available) front,
      is_number_4 chosen (omega arith),
      are_stored available fits some,
    )

pub returns-clause-back : goal.returns-clause-back
returns-clause-back c =
    let n : ℕ = c.store_versions.result in
    c.store_versions.ensures.back ∙ stays c.store_array-at.result n _ _ c.store_array-at.ensures.back (omega arith)
