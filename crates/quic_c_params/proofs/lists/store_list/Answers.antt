use Rattle.std.proofs.Common.{ℕ, List, ◌+◌, length, sym, ◌∙◌, ap, subst, arith}
use Rattle.std.proofs.lemmas.List.{take_rest}
use Rattle.quic_params.proofs.Further.{encoded_at}
use Rattle.quic_c_params.specs.Lists.{StoresBytes}
use Rattle.quic_params.specs.Further.{asked}
use Rattle.quic_c_params.proofs.StoredEntries.{StoredTo, stored_to_all, stored_to_more, stored_within, next_within, put_end}
use Rattle.quic_c_params.proofs.lists.store_list.Goals as goal

pub slice_bounds-store_entry_at-count : goal.slice_bounds-store_entry_at-count
slice_bounds-store_entry_at-count c =
    let r = c.requires.there in
    stored_within c.args.params.now c.args.further.now c.args.order.now c.args.dest.now c.loop-place.dest c.args.count
    c.loop-place.place c.loop-place.at r.0 r.1.encoded r.2 c.requires.room c.loop-place.invariant

pub unreachable-requires : goal.unreachable-requires
unreachable-requires c =
    let r = c.requires.there in
    next_within c.args.params.now c.args.further.now c.args.order.now c.args.dest.now c.loop-place.dest
    c.store_entry_at.new.dest c.args.count c.loop-place.place c.index_at-index.result c.loop-place.at
    c.in-Err.field-0
    c.store_entry_at.result r.0 r.1.encoded r.2 c.requires.room c.loop-place.invariant
    (omega (arith, c.requires.order.width, c.loop-place-test.true)) c.index_at-index.ensures.value c.in-Err.is
    (λ es h. subst (λ (o : List ℕ). StoresBytes c.store_entry_at.result
    (encoded_at c.args.params.now es c.index_at-index.result) o c.store_entry_at.new.dest)
    (take_rest c.loop-place.dest c.loop-place.at) (c.store_entry_at.ensures.stores es h))

pub loop-place-preserved : goal.loop-place-preserved
loop-place-preserved c =
    let r = c.requires.there in
    let le =
    stored_within c.args.params.now c.args.further.now c.args.order.now c.args.dest.now c.loop-place.dest
    c.args.count c.loop-place.place c.loop-place.at r.0 r.1.encoded r.2 c.requires.room
    c.loop-place.invariant in
    let order : List ℕ = asked c.args.count c.args.order.now in
    let more =
    stored_to_more c.args.params.now c.args.further.now order c.args.dest.now c.loop-place.dest
    c.store_entry_at.new.dest c.loop-place.place c.index_at-index.result c.loop-place.at c.in-Ok.entry_len
    c.store_entry_at.result
    (omega (arith, c.requires.order.width, c.loop-place-test.true)) c.index_at-index.ensures.value c.in-Ok.is
    (λ es h. subst (λ (o : List ℕ). StoresBytes c.store_entry_at.result
    (encoded_at c.args.params.now es c.index_at-index.result) o c.store_entry_at.new.dest)
    (take_rest c.loop-place.dest c.loop-place.at) (c.store_entry_at.ensures.stores es h))
    r.0 r.1.encoded le (c.store_entry_at.auto.dest ∙ ap length (take_rest c.loop-place.dest c.loop-place.at)) c.loop-place.invariant in
    subst (StoredTo c.args.params.now c.args.further.now order c.args.dest.now (c.loop-place.place + 1)
    (c.loop-place.at + c.in-Ok.entry_len)) (sym (put_end c.loop-place.at c.loop-place.dest
    c.store_entry_at.new.dest)) more

pub returns : goal.returns
returns c =
    let r = c.requires.there in
    stored_to_all c.args.params.now c.args.further.now c.args.order.now c.args.dest.now c.loop-place.dest c.args.count
    c.loop-place.place c.loop-place.at c.loop-place-test.false c.loop-place.invariant r.0 r.1.encoded r.2
    c.requires.order
