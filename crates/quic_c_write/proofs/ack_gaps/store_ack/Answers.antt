use Rattle.std.proofs.Common.{◌≡◌, ℕ, List, [], ◌∷◌, ◌++◌, ◌∙◌, ◌-◌, length, ap, subst, sym, inl, inr, arith}
use Rattle.quic_frame_fields.proofs.Putting.{stores_none, puts_stores}
use Rattle.quic_frame_fields.specs.Numbers.{shortest_varints}
use Rattle.quic_frame_fields.specs.Putting.{Stores}
use Rattle.quic_c_write.specs.AckGaps.{ack_bytes, behind_type, counts_list, gap_numbers, greatest_of_words}
use Rattle.quic_c_write.proofs.AckGaps.{numeric}
use Rattle.quic_c_write.proofs.StoredAcks.{first_byte, first_without, stored_ack, no_counts, room_of}
use Rattle.quic_c_write.proofs.ack_gaps.store_ack.Goals as goal

pub store_front-at-requires-clause-room : goal.store_front-at-requires-clause-room
store_front-at-requires-clause-room c =
    let room =
    (room_of c.args.ack.now c.args.gaps.now (length c.args.dest.now) c.requires.ack.flags c.requires.room).all in
    omega (arith, room)

pub store_gaps-at-requires-clause-numeric : goal.store_gaps-at-requires-clause-numeric
store_gaps-at-requires-clause-numeric c =
    let small = c.requires.ack.greatest in
    numeric (greatest_of_words c.args.ack.now - c.args.ack.now.data_len) c.args.gaps.now (omega (arith, small)) c.requires.ack.fit

pub store_gaps-at-requires-clause-room : goal.store_gaps-at-requires-clause-room
store_gaps-at-requires-clause-room c =
    let room =
    (room_of c.args.ack.now c.args.gaps.now (length c.args.dest.now) c.requires.ack.flags c.requires.room).all in
    let one = c.store_front-at.ensures.stores.count in
    omega (arith, room, one, c.store_front-at.ensures.len)

pub store_array-requires : goal.store_array-requires
store_array-requires c =
    let room =
    (room_of c.args.ack.now c.args.gaps.now (length c.args.dest.now) c.requires.ack.flags c.requires.room).all in
    (omega arith, omega (arith, room, c.store_front-at.ensures.len, c.store_gaps-at.ensures.len))

pub store_array-requires-2 : goal.store_array-requires-2
store_array-requires-2 c =
    let room =
    (room_of c.args.ack.now c.args.gaps.now (length c.args.dest.now) c.requires.ack.flags c.requires.room).all in
    (omega arith, omega (arith, room, c.store_front-at.ensures.len, c.store_gaps-at.ensures.len))

pub store_counts-requires-clause-room : goal.store_counts-requires-clause-room
store_counts-requires-clause-room c =
    let room =
    (room_of c.args.ack.now c.args.gaps.now (length c.args.dest.now) c.requires.ack.flags c.requires.room).all in
    let one = c.store_front-at.ensures.stores.count in
    let two = c.store_gaps-at.ensures.stores.count in
    omega (arith, room, one, two, c.store_front-at.ensures.len, c.store_gaps-at.ensures.len, c.store_array-2.ensures.len)

pub returns-then-ack-ne2 : goal.returns-then-ack-ne2
returns-then-ack-ne2 c =
    let words = c.args.ack.now in
    let gaps = c.args.gaps.now in
    let behind : List ℕ = shortest_varints (behind_type words gaps) in
    let middle : List ℕ = shortest_varints (gap_numbers gaps) in
    let room = (room_of words gaps (length c.args.dest.now) c.requires.ack.flags c.requires.room).all in
    let none : c.args.ack.now.flags ≡ 0 = elim c.requires.ack.flags [
      | inl none ↦ none
      | inr some ↦ absurd (c.if-ack-ne2.true some)
    ] in
    let is : ack_bytes words gaps ≡ (0x02 ∷ behind) ++ (middle ++ []) =
    ap (λ (l : List ℕ). l ++ (middle ++ shortest_varints (counts_list words))) (first_without words gaps none)
    ∙ ap (λ (l : List ℕ). (0x02 ∷ behind) ++ (middle ++ shortest_varints l)) (no_counts words none) in
    let all = stored_ack 0x02 behind middle [] c.args.dest.now c.store_front-at.new.dest c.store_gaps-at.new.dest
    c.store_array.new.bytes c.store_array.new.bytes
    c.store_front-at.result c.store_gaps-at.result c.store_gaps-at.result c.store_array.result (omega (arith, room))
    c.store_front-at.ensures.stores c.store_gaps-at.ensures.stores
    c.store_array.ensures.end c.store_array.ensures.front c.store_array.ensures.back
    (stores_none c.store_gaps-at.result c.store_array.new.bytes) in
    puts_stores (ack_bytes words gaps) c.args.dest.now c.store_array.new.bytes c.store_gaps-at.result
    (subst (λ (l : List ℕ). Stores l 0 c.args.dest.now c.store_gaps-at.result c.store_array.new.bytes) (sym is) all)

pub returns : goal.returns
returns c =
    let words = c.args.ack.now in
    let gaps = c.args.gaps.now in
    let behind : List ℕ = shortest_varints (behind_type words gaps) in
    let middle : List ℕ = shortest_varints (gap_numbers gaps) in
    let end : List ℕ = shortest_varints (counts_list words) in
    let room = (room_of words gaps (length c.args.dest.now) c.requires.ack.flags c.requires.room).all in
    let is : ack_bytes words gaps ≡ (0x03 ∷ behind) ++ (middle ++ end) =
    ap (λ (l : List ℕ). l ++ (middle ++ end)) (first_byte words gaps c.if-ack-ne2.false) in
    let all = stored_ack 0x03 behind middle end c.args.dest.now c.store_front-at.new.dest c.store_gaps-at.new.dest
    c.store_array-2.new.bytes c.store_counts.new.dest
    c.store_front-at.result c.store_gaps-at.result c.store_counts.result c.store_array-2.result (omega (arith, room))
    c.store_front-at.ensures.stores c.store_gaps-at.ensures.stores
    c.store_array-2.ensures.end c.store_array-2.ensures.front c.store_array-2.ensures.back c.store_counts.ensures.stores in
    puts_stores (ack_bytes words gaps) c.args.dest.now c.store_counts.new.dest c.store_counts.result
    (subst (λ (l : List ℕ). Stores l 0 c.args.dest.now c.store_counts.result c.store_counts.new.dest) (sym is) all)
