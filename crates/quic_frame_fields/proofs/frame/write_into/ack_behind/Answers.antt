use Rattle.std.proofs.Common.{◌++◌, ◌∙◌, ◌-◌, length, take, drop, refl, sym, subst, ap, arith}
use Rattle.quic_base.specs.Number.{AreBytes}
use Rattle.quic_frame_fields.specs.Numbers.{AreNumeric, AreEncoded, shortest_varints}
use Rattle.quic_frame_fields.specs.Sets.{count_numbers, header_numbers}
use Rattle.quic_frame_fields.specs.Shortest.{shortest_frame}
use Rattle.quic_frame_fields.specs.Parts.{ack_meaning}
use Rattle.quic_frame_fields.proofs.Held.{held_parts, held_many, held_behind, behind_length, numeric_behind, cut_behind, cut_few}
use Rattle.quic_frame_fields.proofs.Putting.{stores_more, stores_of, taken, puts_stores, puts_refused}
use Rattle.std.proofs.lemmas.Grind.{common_steps}
use Rattle.quic_frame_fields.proofs.frame.write_into.ack_behind.Goals as goal

pub header_of-requires : goal.header_of-requires
header_of-requires c =
    let a = c.args.ack.now in
    let h = held_parts a (subst AreBytes c.additional.ensures c.count_and_len-numbers.ensures.bytes) c.requires.in_range in
    held_many a h c.additional.result.now c.count_and_len-numbers.result.0 c.additional.ensures c.count_and_len-numbers.ensures.count

pub store_numbers-header_len-requires-clause-numeric : goal.store_numbers-header_len-requires-clause-numeric
store_numbers-header_len-requires-clause-numeric c =
    let h = held_parts c.args.ack.now (subst AreBytes c.additional.ensures c.count_and_len-numbers.ensures.bytes)
    c.requires.in_range in
    let first = c.args.first in
    let is = cut_behind c.header_of.result (header_numbers c.args.ack.now) first c.header_of.ensures refl in
    subst AreNumeric (sym is) (numeric_behind first (header_numbers c.args.ack.now) h.numeric)

pub returns-then-dest-needed : goal.returns-then-dest-needed
returns-then-dest-needed c last =
    let a = c.args.ack.now in
    let h = held_parts a (subst AreBytes c.additional.ensures c.count_and_len-numbers.ensures.bytes) c.requires.in_range in
    let blocks =
    c.count_and_len-numbers.ensures.len h.numbers (subst (AreEncoded h.numbers) (sym c.additional.ensures) h.encoded) in
    let front =
    taken c.store_numbers-header_len.result 40 c.store_numbers-header_len.new.dest _
    (omega (arith, c.store_numbers-header_len.ensures.within, cut_few c.header_of.result c.args.first))
    c.store_numbers-header_len.ensures.len c.store_numbers-header_len.ensures.front in
    let end =
    taken c.store_counts-counts_len.result 40 c.store_counts-counts_len.new.counts _
    c.store_counts-counts_len.ensures.within c.store_counts-counts_len.array_long
    c.store_counts-counts_len.ensures.front in
    let is = cut_behind c.header_of.result (header_numbers a) c.args.first c.header_of.ensures refl in
    puts_refused _ c.args.dest.now _
    (behind_length a h last c.args.first _ c.ecn.result _ _ _ is c.ecn.ensures front blocks end)
    c.if-dest-needed.true

pub store_shortened-at-requires-clause-shortens : goal.store_shortened-at-requires-clause-shortens
store_shortened-at-requires-clause-shortens c =
    let a = c.args.ack.now in
    let h = held_parts a (subst AreBytes c.additional.ensures c.count_and_len-numbers.ensures.bytes) c.requires.in_range in
    let same = c.additional.ensures ∙ sym c.additional-2.ensures in
    record {
      numbers = h.numbers;
      encodes = subst (AreEncoded h.numbers) (sym c.additional-2.ensures) h.encoded;
      long = λ ns s. c.count_and_len-numbers.ensures.len ns (subst (AreEncoded ns) (sym same) s);
    }

pub store_bytes-requires : goal.store_bytes-requires
store_bytes-requires c =
    let a = c.args.ack.now in
    let h = held_parts a (subst AreBytes c.additional.ensures c.count_and_len-numbers.ensures.bytes) c.requires.in_range in
    let blocks =
    c.count_and_len-numbers.ensures.len h.numbers (subst (AreEncoded h.numbers) (sym c.additional.ensures) h.encoded) in
    let middle =
    (c.store_shortened-at.ensures.stores h.numbers (subst (AreEncoded h.numbers) (sym c.additional-2.ensures) h.encoded)).count in
    let front =
    taken c.store_numbers-header_len.result 40 c.store_numbers-header_len.new.dest _
    (omega (arith, c.store_numbers-header_len.ensures.within, cut_few c.header_of.result c.args.first))
    c.store_numbers-header_len.ensures.len c.store_numbers-header_len.ensures.front in
    let end =
    taken c.store_counts-counts_len.result 40 c.store_counts-counts_len.new.counts _
    c.store_counts-counts_len.ensures.within c.store_counts-counts_len.array_long
    c.store_counts-counts_len.ensures.front in
    omega (
      arith,
      blocks,
      middle,
      front,
      end,
      ap length c.store_numbers-header_len.ensures.front,
      ap length c.store_counts-counts_len.ensures.front,
      c.store_bytes-at.ensures.end,
      c.if-dest-needed.false,
      c.store_shortened-at.ensures.len,
      c.store_bytes-at.ensures.len,
    )

pub returns : goal.returns
returns c last =
    let a = c.args.ack.now in
    let h = held_parts a (subst AreBytes c.additional.ensures c.count_and_len-numbers.ensures.bytes) c.requires.in_range in
    let cut = take (4 - c.args.first) (drop c.args.first c.header_of.result) in
    let is = cut_behind c.header_of.result (header_numbers a) c.args.first c.header_of.ensures refl in
    let one = c.store_bytes-at.ensures in
    let three = c.store_bytes.ensures in
    let first =
    stores_of c.store_numbers-header_len.result c.store_numbers-header_len.new.dest
    (shortest_varints cut) c.args.dest.now c.store_bytes-at.new.dest 0 _
    c.store_numbers-header_len.ensures.front one.end one.front one.back in
    let second =
    c.store_shortened-at.ensures.stores h.numbers (subst (AreEncoded h.numbers) (sym c.additional-2.ensures) h.encoded) in
    let third =
    stores_of c.store_counts-counts_len.result c.store_counts-counts_len.new.counts
    (shortest_varints (count_numbers c.ecn.result)) c.store_shortened-at.new.dest c.store_bytes.new.dest
    c.store_shortened-at.result _ c.store_counts-counts_len.ensures.front three.end three.front three.back in
    let behind =
    stores_more (shortest_varints h.numbers) (shortest_varints (count_numbers c.ecn.result))
    c.store_bytes-at.new.dest c.store_shortened-at.new.dest c.store_bytes.new.dest _ _ _ second third in
    let whole =
    stores_more (shortest_varints cut) (shortest_varints h.numbers
    ++ shortest_varints (count_numbers c.ecn.result)) c.args.dest.now c.store_bytes-at.new.dest
    c.store_bytes.new.dest 0 _ _ first behind in
    rw (held_behind a h last c.args.first cut c.ecn.result is c.ecn.ensures)
    (puts_stores _ c.args.dest.now c.store_bytes.new.dest _ whole)

pub store_bytes-at-requires : goal.store_bytes-at-requires
store_bytes-at-requires c = grind (arith, common_steps)

pub store_shortened-at-requires-clause-room : goal.store_shortened-at-requires-clause-room
store_shortened-at-requires-clause-room c = grind (arith, common_steps)

pub slice_bounds-store_bytes-end : goal.slice_bounds-store_bytes-end
slice_bounds-store_bytes-end c = grind (arith, common_steps)

pub slice_bounds-store_bytes-end-2 : goal.slice_bounds-store_bytes-end-2
slice_bounds-store_bytes-end-2 c = grind (arith, common_steps)
