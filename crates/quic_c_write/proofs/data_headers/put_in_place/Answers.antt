use Rattle.std.proofs.Common.{ℕ, List, add-one, ◌∙◌, get_or, take, arith}
use Rattle.quic_base.specs.Varint.{shortest_varint}
use Rattle.quic_base.proofs.PublicLaws.{length-short}
use Rattle.quic_frame_fields.specs.Numbers.{shortest_varints}
use Rattle.quic_frame_fields.proofs.Numbers.{all_short-at, numeric_at}
use Rattle.quic_frame_fields.proofs.Putting.{stores_more}
use Rattle.quic_base.proofs.PublicLaws.{size_small}
use Rattle.quic_c_write.proofs.data_headers.put_in_place.Goals as goal

pub store-at-requires-clause-numeric : goal.store-at-requires-clause-numeric
store-at-requires-clause-numeric c =
    numeric_at c.args.numbers.now c.loop-number.number-index c.requires.numeric c.loop-number-test.true

pub store-at-requires-clause-room : goal.store-at-requires-clause-room
store-at-requires-clause-room c =
    let n : ℕ = get_or c.args.numbers.now c.loop-number.number-index 0 in
    omega (
      arith,
      c.loop-number.invariant.near,
      c.loop-number.invariant.len,
      c.loop-number-test.true,
      c.requires.few,
      length-short n,
      size_small n,
    )

pub loop-number-preserved : goal.loop-number-preserved
loop-number-preserved c =
    let ns : List ℕ = c.args.numbers.now in
    let i : ℕ = c.loop-number.number-index in
    let n : ℕ = get_or ns i 0 in
    let stores = c.store-at.ensures.stores in
    record {
      near = omega (arith, c.loop-number.invariant.near, stores.count, length-short n, size_small n);
      len = c.store-at.ensures.len ∙ c.loop-number.invariant.len;
      stores = rw (add-one, all_short-at ns i c.loop-number-test.true)
          (stores_more (shortest_varints (take i ns)) (shortest_varint n) c.args.dest.now
          c.loop-number.dest c.store-at.new.dest 0 c.loop-number.at c.store-at.result c.loop-number.invariant.stores stores);
    }
