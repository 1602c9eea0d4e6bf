use Rattle.std.proofs.Common.{ℕ, List, add-one, ap, ◌∙◌, ◌++◌, get_or, arith}
use Rattle.quic_base.specs.Varint.{shortest_varint}
use Rattle.quic_base.proofs.PublicLaws.{size_small}
use Rattle.quic_frame_fields.proofs.Numbers.{all_short-at, numeric_at}
use Rattle.std.proofs.lemmas.Grind.{common_steps}
use Rattle.quic_frame_fields.proofs.frame.write.store_numbers.Goals as goal

pub loop-number-preserved : goal.loop-number-preserved
loop-number-preserved c =
    let ns : List ℕ = c.args.numbers.now in
    let i : ℕ = c.loop-number.number-index in
    record {
      near = omega (arith, c.loop-number.invariant.near, c.store_var-at.ensures.near);
      len = c.store_var-at.ensures.len ∙ c.loop-number.invariant.len;
      front = rw (add-one, all_short-at ns i c.loop-number-test.true)
          (c.store_var-at.ensures.front ∙ ap (λ (ys : List ℕ). ys ++ shortest_varint (get_or ns i 0))
          c.loop-number.invariant.front);
    }

pub store_var-at-requires-clause-numeric : goal.store_var-at-requires-clause-numeric
store_var-at-requires-clause-numeric c =
    numeric_at c.args.numbers.now c.loop-number.number-index c.requires.numeric c.loop-number-test.true

pub store_var-at-requires-clause-room : goal.store_var-at-requires-clause-room
store_var-at-requires-clause-room c = omega (arith, c.loop-number.invariant.near, c.loop-number.invariant.len, size_small)

pub returns-clause-front : goal.returns-clause-front
returns-clause-front c = grind (arith, common_steps)
