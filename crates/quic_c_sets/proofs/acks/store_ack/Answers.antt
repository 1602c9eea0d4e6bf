use Rattle.std.proofs.Common.{ℕ, List, ◌++◌, ◌-◌, ◌∷◌, [], get_or, take, arith}
use Rattle.std.proofs.lemmas.List.{length-append}
use Rattle.quic_frame_fields.specs.Numbers.{shortest_varints}
use Rattle.quic_frame_fields.specs.Sets.{ranges_in}
use Rattle.quic_frame_fields.specs.Shortest.{shortest_below}
use Rattle.quic_frame_fields.proofs.Putting.{stores_more, puts_stores, puts_refused}
use Rattle.quic_c_entries.specs.Entries.{runs_of}
use Rattle.quic_c_entries.proofs.Placing.{nowhere}
use Rattle.quic_c_sets.proofs.Writing.{ack_parts_of, last_small, last_some, whole_ack}
use Rattle.quic_c_sets.proofs.acks.store_ack.Goals as goal

pub overflow_sub-greatest : goal.overflow_sub-greatest
overflow_sub-greatest c =
    let some = last_some c.args.runs.now c.args.count c.requires.set c.requires.some in omega (arith, some)

pub overflow_sub-head-2 : goal.overflow_sub-head-2
overflow_sub-head-2 c =
    let some = last_some c.args.runs.now c.args.count c.requires.set c.requires.some in omega (arith, some)

pub numbers_len-requires : goal.numbers_len-requires
numbers_len-requires c =
    (ack_parts_of c.args.delay c.args.runs.now c.args.count c.args.counts.now c.type_of-ty.result c.requires c.type_of-ty.ensures).numeric

pub numbers_at-at-requires-clause-numeric : goal.numbers_at-at-requires-clause-numeric
numbers_at-at-requires-clause-numeric c =
    (ack_parts_of c.args.delay c.args.runs.now c.args.count c.args.counts.now c.type_of-ty.result c.requires c.type_of-ty.ensures).numeric

pub below_len-requires-clause-bound : goal.below_len-requires-clause-bound
below_len-requires-clause-bound c =
    let some = last_some c.args.runs.now c.args.count c.requires.set c.requires.some in
    let small = last_small c.args.runs.now c.args.count c.requires.set c.requires.some c.requires.short in
    omega (arith, some, small)

pub store_below-at-requires-clause-bound : goal.store_below-at-requires-clause-bound
store_below-at-requires-clause-bound c =
    let some = last_some c.args.runs.now c.args.count c.requires.set c.requires.some in
    let small = last_small c.args.runs.now c.args.count c.requires.set c.requires.some c.requires.short in
    omega (arith, some, small)

pub returns-then-dest-needed : goal.returns-then-dest-needed
returns-then-dest-needed c last =
    let run = get_or c.args.runs.now (c.args.count - 1) nowhere in
    let whole =
    whole_ack c.args.delay c.args.runs.now c.args.count c.args.counts.now c.type_of-ty.result c.requires c.type_of-ty.ensures last in
    let head : List ℕ =
    shortest_varints (c.type_of-ty.result ∷ (run.end - 1) ∷ c.args.delay ∷ (c.args.count - 1) ∷ (run.end - 1 - run.start) ∷ []) in
    let below : List ℕ = shortest_below run.start (ranges_in (runs_of (take (c.args.count - 1) c.args.runs.now))) in
    let counts : List ℕ = shortest_varints c.args.counts.now in
    rw whole (puts_refused (head ++ (below ++ counts)) c.args.dest.now _
    (omega (
      arith,
      length-append head (below ++ counts),
      length-append below counts,
      c.numbers_len.ensures.value,
      c.below_len.ensures.value,
      c.numbers_len-2.ensures.value,
    )) c.if-dest-needed.true)

pub returns : goal.returns
returns c last =
    let run = get_or c.args.runs.now (c.args.count - 1) nowhere in
    let whole =
    whole_ack c.args.delay c.args.runs.now c.args.count c.args.counts.now c.type_of-ty.result c.requires c.type_of-ty.ensures last in
    let head : List ℕ =
    shortest_varints (c.type_of-ty.result ∷ (run.end - 1) ∷ c.args.delay ∷ (c.args.count - 1) ∷ (run.end - 1 - run.start) ∷ []) in
    let below : List ℕ = shortest_below run.start (ranges_in (runs_of (take (c.args.count - 1) c.args.runs.now))) in
    let counts : List ℕ = shortest_varints c.args.counts.now in
    let behind =
    stores_more below counts c.numbers_at-at.new.dest c.store_below-at.new.dest c.numbers_at.new.dest _ _ _
    c.store_below-at.ensures.stores c.numbers_at.ensures.stores in
    let all =
    stores_more head (below ++ counts) c.args.dest.now c.numbers_at-at.new.dest c.numbers_at.new.dest 0 _ _
    c.numbers_at-at.ensures.stores behind in
    rw whole (puts_stores (head ++ (below ++ counts)) c.args.dest.now c.numbers_at.new.dest _ all)
