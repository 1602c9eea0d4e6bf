-- By the fields.
use Rattle.std.specs.Prelude.{◌≡◌, ℕ, ◌+◌, ◌++◌, List, [], ◌∷◌, length}
use Rattle.std.proofs.Common.{arith, refl, ap, inl, inr, length-append}
use Rattle.quic_base.specs.Number.{bytes_of}
use Rattle.quic_base.specs.Varint.{shortest_varint}
use Rattle.quic_base.proofs.PublicLaws as law
use Rattle.quic_header_decode.specs.Grammar.{Number, Bytes}
use Rattle.quic_header_decode.proofs.Made.{fixed_set, initial_header}
use Rattle.quic_header_decode.proofs.laws.examples.Goals as goal

one_zero : (let n : ℕ = 1 in n) ≡ 0 → ⊥
one_zero e = omega (arith, e)

pub returns-clause-initial : goal.returns-clause-initial
unfolding shortest_varint bytes_of
returns-clause-initial c = λ options rest known.
    let dst : List ℕ = 0x83 ∷ 0x94 ∷ 0xc8 ∷ 0xf0 ∷ 0x3e ∷ 0x51 ∷ 0x57 ∷ 0x08 ∷ [] in
    initial_header options (18 + length rest) (0xc0 ∷ 0x00 ∷ 0x00 ∷ 0x00 ∷ 0x01 ∷ 0x08
    ∷ (dst ++ (0x00 ∷ 0x00 ∷ 0x44 ∷ 0x9e ∷ rest))) 0xc0 (0x00 ∷ []) [] (0x44 ∷ 0x9e ∷ []) rest
    (record { dst_cid = dst; src_cid = []; token_pos = record { start = 16; end = 16 }; len = 1182; version = 1 })
    (record {
      long = omega arith;
      fixed = fixed_set options 0xc0 refl;
      range = omega arith;
      dst_len = omega arith;
      src_len = omega arith;
      text = refl;
    })
    (one_zero, known) refl (law.shortest_encodes 0 (omega arith)) (law.shortest_encodes 1182 (omega arith)) (omega arith) refl

pub returns-clause-no_token : goal.returns-clause-no_token
unfolding shortest_varint bytes_of
returns-clause-no_token c = λ options known. inr (
  fixed_set options 0xc0 refl,
  inr (
    Number 1 ∷ [],
    0x00 ∷ 0x00 ∷ 0x05 ∷ 0xaa ∷ [],
    (bytes_of 4 1, refl, (1, refl, law.is_number_4 1 (omega arith))),
    inr (
      Bytes [] ∷ [],
      0x00 ∷ 0x05 ∷ 0xaa ∷ [],
      (0x00 ∷ [], refl, ([], refl, omega arith, refl)),
      inr (
        Bytes [] ∷ [],
        0x05 ∷ 0xaa ∷ [],
        (0x00 ∷ [], refl, ([], refl, omega arith, refl)),
        inr (
          [],
          0x05 ∷ 0xaa ∷ [],
          ([], refl, (refl, refl, known)),
          inr (
            Number 5 ∷ [],
            0xaa ∷ [],
            (0x05 ∷ [], refl, (5, refl, law.shortest_encodes 5 (omega arith))),
            inl (record {
              none = λ values rest (front, split, (values_are, width)). omega
                  (arith, width, ap length split, length-append front rest);
              why = refl;
            }),
          ),
        ),
      ),
    ),
  ),
)
