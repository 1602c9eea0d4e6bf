use Rattle.quic_c_params.proofs.StoredEntries.{counted_to_all}
use Rattle.quic_c_params.proofs.lists.list_len.Goals as goal

pub returns : goal.returns
returns c =
    let r = c.requires.there in
    counted_to_all c.args.params.now c.args.further.now c.args.order.now c.args.count c.loop-place.place
    c.loop-place.len c.loop-place-test.false c.loop-place.invariant r.0 r.1.encoded r.2 c.requires.order
