use Rattle.std.proofs.Common.{◌≡◌, List, ℕ, ◌++◌, length, take, subst, arith}
use Rattle.quic_base.specs.Number.{bytes_of}
use Rattle.quic_base.specs.Varint.{shortest_varint}
use Rattle.quic_base.proofs.PublicLaws.{length-bytes_of, length-short, size_small}
use Rattle.quic_frame_fields.proofs.Putting.{puts_two}
use Rattle.quic_c_write.proofs.write_numbers.put_path.Goals as goal

pub store-at-requires-clause-room : goal.store-at-requires-clause-room
store-at-requires-clause-room c = omega (arith, c.requires.room, length-short c.args.ty, size_small c.args.ty)

pub store_array-requires : goal.store_array-requires
store_array-requires c =
    let stored = c.store-at.ensures in
    omega (arith, c.requires.room, stored.len, stored.stores.count, length-short c.args.ty, size_small c.args.ty)

pub returns : goal.returns
unfolding bytes_of
returns c =
    let stored = c.store-at.ensures.stores in
    let eight : length (bytes_of 8 c.args.n) ≡ 8 = length-bytes_of 8 c.args.n in
    puts_two (shortest_varint c.args.ty) (bytes_of 8 c.args.n) c.args.out.now c.store-at.new.dest c.store_array.new.bytes
    c.store-at.result c.store_array.result stored.count (omega (arith, c.store_array.ensures.end, eight)) stored.front
    (subst (λ (l : List ℕ). take c.store_array.result c.store_array.new.bytes ≡ take c.store-at.result c.store-at.new.dest ++ l)
    c.to_be_bytes.ensures c.store_array.ensures.front) stored.back c.store_array.ensures.back
