-- What was written encodes the number.
use Rattle.std.proofs.Common.{◌≡◌, ℕ, ◌+◌, ◌*◌, ◌<◌, ◌≤◌, ◌^◌, ◌⊎◌, List, ◌++◌, length, take, drop, sym, ap, subst, ◌∙◌, inl, inr, arith}
use Rattle.std.proofs.lemmas.List.{take-append-drop}
use Rattle.std.proofs.lemmas.Bool.Decides.{nat_tests}
use Rattle.quic_base.specs.Varint.{encoding_in, size, CanEncode, Encodes, IsWidth}
use Rattle.quic_base.proofs.PublicLaws as law
use Rattle.quic_header_encode.proofs.Stores.{short_small}
use Rattle.quic_c_numbers.proofs.numbers.quic_wire_varint_write_.Goals as goal
use Rattle.quic_c_numbers.proofs.numbers.quic_wire_varint_write_.Goals.{then-width-eq0, else-width-eq0}

one : (v : ℕ) → size v ≤ 1 → v < 2 ^ 6
unfolding size
one v e = grind (arith, nat_tests)

two : (v : ℕ) → size v ≤ 2 → v < 2 ^ 14
unfolding size
two v e = grind (arith, nat_tests)

four : (v : ℕ) → size v ≤ 4 → v < 2 ^ 30
unfolding size
four v e = grind (arith, nat_tests)

encodes_one : (v : ℕ) → v < 2 ^ 6 → Encodes v (encoding_in 1 v)
encodes_one v lt = subst (Encodes v) (short_small v lt) (law.shortest_encodes v (omega arith))

encodes_two : (v : ℕ) → v < 2 ^ 14 → Encodes v (encoding_in 2 v)
encodes_two v lt =
    let is = law.is_number_2 (2 ^ 14 + v) (omega arith) in
    record { tag = 1; tag_fits = omega arith; bytes = is.bytes; width = is.width; fits = lt; value = is.value ∙ omega arith }

encodes_four : (v : ℕ) → v < 2 ^ 30 → Encodes v (encoding_in 4 v)
encodes_four v lt =
    let is = law.is_number_4 (2 * 2 ^ 30 + v) (omega arith) in
    record { tag = 2; tag_fits = omega arith; bytes = is.bytes; width = is.width; fits = lt; value = is.value }

encodes_eight : (v : ℕ) → v < 2 ^ 62 → Encodes v (encoding_in 8 v)
encodes_eight v lt =
    let is = law.is_number_8 (3 * 2 ^ 62 + v) (omega arith) in
    record { tag = 3; tag_fits = omega arith; bytes = is.bytes; width = is.width; fits = lt; value = is.value }

encoded : (n v : ℕ) → v < 2 ^ 62 → size v ≤ n → IsWidth n → Encodes v (encoding_in n v)
encoded n v lt enough known =
    let P : ℕ → Type 0 = λ k. size v ≤ k → Encodes v (encoding_in k v) in
    let all : P n = elim known [
      | inl e ↦ subst P (sym e) (λ h. encodes_one v (one v h))
      | inr more ↦ elim more [
        | inl e ↦ subst P (sym e) (λ h. encodes_two v (two v h))
        | inr most ↦ elim most [
          | inl e ↦ subst P (sym e) (λ h. encodes_four v (four v h))
          | inr e ↦ subst P (sym e) (λ h. encodes_eight v lt)
        ]
      ]
    ] in
    all enough

pub returns-clause-wrote : goal.returns-clause-wrote
returns-clause-wrote c =
    let old : List ℕ = c.args.dest.now in
    let new : List ℕ = c.store_encoding.new.dest in
    let n : ℕ = c.store_encoding.result in
    elim c.store_encoding.ensures.wrote [
      | inl none ↦ inl none
      | inr w ↦
          let front : take n new ≡ encoding_in n c.args.value =
          w.2 ∙ ap (λ (k : ℕ). encoding_in k c.args.value) (sym w.0) in
          let all : new ≡ encoding_in n c.args.value ++ drop n old =
          sym (take-append-drop n new) ∙ ap (λ (xs : List ℕ). xs ++ drop n new) front
          ∙ ap (λ (xs : List ℕ). encoding_in n c.args.value ++ xs) c.store_encoding.ensures.back in
          inr (encoded n c.args.value c.if-value.false (omega (arith, w.0, c.var_size-least.ensures.value)) (subst IsWidth (sym w.0) w.1), all)
    ]

chosen : (width value least n room : ℕ) → (width ≡ 0) × (n ≡ least) ⊎ (0 < width) × (n ≡ width)
    → least ≡ size value → value < 2 ^ 62 → IsWidth n
    → least ≤ n → n ≤ room → CanEncode value width room n
chosen width value least n room asked is lt known enough within = record {
  numeric = lt;
  asked = elim asked [ inl none ↦ inl (none.0, none.1 ∙ is) | inr some ↦ inr some ];
  known = known;
  enough = omega arith;
  within = within;
}

pub returns-clause-width : goal.returns-clause-width
returns-clause-width c =
    let n : ℕ = c.store_encoding.result in
    elim c.store_encoding.ensures.wrote [
      | inl none ↦ inl none
      | inr w ↦
          let asked : (c.args.width ≡ 0) × (n ≡ c.var_size-least.result) ⊎ (0 < c.args.width) × (n ≡ c.args.width) =
          elim c.if-width-eq0.branch [
            | then-width-eq0 b ↦ inl (b.if-width-eq0.true, w.0 ∙ b.width-is)
            | else-width-eq0 b ↦ inr (omega (arith, b.if-width-eq0.false), w.0 ∙ b.width-is)
          ] in
          inr (chosen c.args.width c.args.value c.var_size-least.result n (length c.args.dest.now) asked
          c.var_size-least.ensures.value c.if-value.false
          (subst IsWidth (sym w.0) w.1) (omega (arith, w.0)) (omega (arith, w.0)))
    ]
