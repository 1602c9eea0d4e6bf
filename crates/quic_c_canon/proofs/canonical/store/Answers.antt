use Rattle.std.proofs.Common.{false, refl}
use Rattle.quic_canon.proofs.Steps.{finds_ok, stands_at}
use Rattle.quic_canon.proofs.PaddingWalk.{padding_goes_on, frame_goes_on}
use Rattle.quic_c_canon.proofs.StoreWalk.{store_begins, never_fails, store_room, store_on, pad_room, store_pads, store_done}
use Rattle.quic_c_canon.proofs.canonical.store.Goals as goal

pub loop-item-init : goal.loop-item-init
loop-item-init c =
    store_begins c.args.payload.now c.args.dest.now c.in-Ok.iter c.in-Ok.ensures.first

pub unreachable-requires-in_default-item : goal.unreachable-requires-in_default-item
unreachable-requires-in_default-item c =
    never_fails c.args.payload.now c.args.dest.now c.loop-item.dest c.loop-item.at c.loop-item.iter c.next.new.self
    c.in-Some.item c.in_default-item.field-0
    c.requires.whole c.loop-item.invariant c.in_default-item.is c.in-Some.ensures.steps

pub put-at-requires-clause-stands : goal.put-at-requires-clause-stands
put-at-requires-clause-stands c =
    let f =
    finds_ok c.loop-item.iter c.next.new.self c.in-Some.item c.in-Ok-item.frame c.in-Ok-item.is c.in-Some.ensures.steps in
    stands_at c.args.payload.now c.loop-item.iter.offset c.offset-stop.result c.loop-item.iter c.next.new.self
    c.in-Ok-item.frame c.read_back.ensures.exact
    c.loop-item.invariant.walks f c.offset-stop.ensures.value

pub put-at-requires-clause-room : goal.put-at-requires-clause-room
put-at-requires-clause-room c =
    let f =
    finds_ok c.loop-item.iter c.next.new.self c.in-Some.item c.in-Ok-item.frame c.in-Ok-item.is c.in-Some.ensures.steps in
    store_room c.args.payload.now c.args.dest.now c.loop-item.dest c.loop-item.at c.offset-stop.result c.loop-item.iter
    c.next.new.self c.in-Ok-item.frame
    (c.one_reading.ensures.begins_none false) c.requires.whole c.requires.room
    c.loop-item.invariant f c.offset-stop.ensures.value

pub loop-item-preserved : goal.loop-item-preserved
loop-item-preserved c =
    let f =
    finds_ok c.loop-item.iter c.next.new.self c.in-Some.item c.in-Ok-item.frame c.in-Ok-item.is c.in-Some.ensures.steps in
    store_on c.args.payload.now c.args.dest.now c.loop-item.dest c.put-at.new.dest c.loop-item.at c.put-at.result
    c.offset-stop.result c.loop-item.iter
    c.next.new.self c.in-Ok-item.frame (c.one_reading.ensures.begins_none false)
    c.loop-item.invariant f c.offset-stop.ensures.value c.put-at.ensures.end c.put-at.ensures.bytes c.put-at.auto.dest

pub pad-at-requires : goal.pad-at-requires
pad-at-requires c =
    let f =
    finds_ok c.loop-item.iter c.next.new.self c.in-Some.item c.in-Ok-item.frame c.in-Ok-item.is c.in-Some.ensures.steps in
    let w = store_on c.args.payload.now c.args.dest.now c.loop-item.dest c.put-at.new.dest c.loop-item.at
    c.put-at.result c.offset-stop.result c.loop-item.iter
    c.next.new.self c.in-Ok-item.frame (c.one_reading.ensures.begins_none false)
    c.loop-item.invariant f c.offset-stop.ensures.value c.put-at.ensures.end c.put-at.ensures.bytes c.put-at.auto.dest in
    pad_room c.args.payload.now c.args.dest.now c.put-at.new.dest c.put-at.result c.pass_padding.result c.next.new.self
    c.pass_padding.new.self
    (c.one_reading.ensures.begins_none false) c.requires.whole c.requires.room w c.pass_padding.ensures

pub loop-item-preserved-in-Padding : goal.loop-item-preserved-in-Padding
loop-item-preserved-in-Padding c =
    let f =
    finds_ok c.loop-item.iter c.next.new.self c.in-Some.item c.in-Ok-item.frame c.in-Ok-item.is c.in-Some.ensures.steps in
    let w = store_on c.args.payload.now c.args.dest.now c.loop-item.dest c.put-at.new.dest c.loop-item.at
    c.put-at.result c.offset-stop.result c.loop-item.iter
    c.next.new.self c.in-Ok-item.frame (c.one_reading.ensures.begins_none false)
    c.loop-item.invariant f c.offset-stop.ensures.value c.put-at.ensures.end c.put-at.ensures.bytes c.put-at.auto.dest in
    store_pads c.args.payload.now c.args.dest.now c.put-at.new.dest c.pad-at.new.dest c.put-at.result c.pad-at.result
    c.pass_padding.result c.next.new.self
    c.pass_padding.new.self (c.one_reading.ensures.begins_none false)
    c.requires.whole c.requires.room w c.pass_padding.ensures c.pad-at.ensures.end c.pad-at.ensures.bytes

pub loop-item-smaller-in-Padding : goal.loop-item-smaller-in-Padding
loop-item-smaller-in-Padding c =
    let f =
    finds_ok c.loop-item.iter c.next.new.self c.in-Some.item c.in-Ok-item.frame c.in-Ok-item.is c.in-Some.ensures.steps in
    padding_goes_on c.pass_padding.result c.loop-item.iter c.next.new.self c.pass_padding.new.self c.in-Ok-item.frame f
    c.pass_padding.ensures

pub returns : goal.returns
returns c =
    store_done c.args.payload.now c.args.dest.now c.loop-item.dest c.loop-item.at c.loop-item.iter c.loop-item.invariant
    c.in_default-next.ensures.steps.0

pub loop-item-smaller : goal.loop-item-smaller
loop-item-smaller c =
    let f =
    finds_ok c.loop-item.iter c.next.new.self c.in-Some.item c.in-Ok-item.frame c.in-Ok-item.is c.in-Some.ensures.steps in
    frame_goes_on c.loop-item.iter c.next.new.self c.next.new.self c.in-Ok-item.frame f refl
