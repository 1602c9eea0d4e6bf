use Rattle.std.proofs.Common.{arith, false}
use Rattle.quic_canon.proofs.Steps.{stands_at, small_at, finds_ok}
use Rattle.quic_canon.proofs.RewriteWalk.{RewriteWalk, walk_as, rewrite_walk_begins, never_fails, room_to_copy, room_to_write, rewrite_keeps, rewrite_writes, rewrite_done, room_to_end}
use Rattle.quic_canon.proofs.PaddingWalk.{passed_as, stands_as, padding_goes_on_as, frame_goes_on}
use Rattle.quic_canon.proofs.canonical.rewrite.Goals as goal

pub loop-item-init : goal.loop-item-init
loop-item-init c =
    rewrite_walk_begins c.args.out.now c.args.payload.now c.in-Ok.iter c.in-Ok.ensures.first

pub unreachable-requires-in_default-item : goal.unreachable-requires-in_default-item
unreachable-requires-in_default-item c =
    never_fails c.args.out.now c.loop-item.out c.args.payload.now c.loop-item.from c.loop-item.start c.loop-item.iter
    c.next.new.self c.in-Some.item c.in_default-item.field-0 c.requires.whole c.loop-item.invariant
    c.in_default-item.is c.in-Some.ensures.steps

pub is_shortest-requires-clause-stands : goal.is_shortest-requires-clause-stands
is_shortest-requires-clause-stands c =
    let f =
    finds_ok c.loop-item.iter c.next.new.self c.in-Some.item c.in-Ok-item.frame c.in-Ok-item.is c.in-Some.ensures.steps in
    stands_at c.args.payload.now c.loop-item.start c.offset-stop.result c.loop-item.iter c.next.new.self
    c.in-Ok-item.frame c.read_back.ensures.exact c.loop-item.invariant.walks f c.offset-stop.ensures.value

pub is_shortest-requires-clause-small : goal.is_shortest-requires-clause-small
is_shortest-requires-clause-small c =
    let f =
    finds_ok c.loop-item.iter c.next.new.self c.in-Some.item c.in-Ok-item.frame c.in-Ok-item.is c.in-Some.ensures.steps in
    small_at c.args.payload.now c.loop-item.start c.offset-stop.result c.loop-item.iter c.next.new.self
    c.in-Ok-item.frame c.least_encoding.ensures.least c.loop-item.invariant.walks f c.offset-stop.ensures.value

pub write-requires-clause-stands : goal.write-requires-clause-stands
write-requires-clause-stands c =
    let f =
    finds_ok c.loop-item.iter c.next.new.self c.in-Some.item c.in-Ok-item.frame c.in-Ok-item.is c.in-Some.ensures.steps in
    stands_at c.args.payload.now c.loop-item.start c.offset-stop.result c.loop-item.iter c.next.new.self
    c.in-Ok-item.frame c.read_back.ensures.exact c.loop-item.invariant.walks f c.offset-stop.ensures.value

pub copy-requires : goal.copy-requires
copy-requires c =
    room_to_copy c.args.out.now c.loop-item.out c.args.payload.now c.loop-item.from c.loop-item.start c.loop-item.iter
    c.least_encoding.ensures.all_least c.requires.whole c.loop-item.invariant c.requires.room

pub write-requires-clause-room : goal.write-requires-clause-room
write-requires-clause-room c =
    let f =
    finds_ok c.loop-item.iter c.next.new.self c.in-Some.item c.in-Ok-item.frame c.in-Ok-item.is c.in-Some.ensures.steps in
    room_to_write c.args.out.now c.loop-item.out c.copy.new.out c.args.payload.now c.loop-item.from c.loop-item.start
    c.offset-stop.result c.loop-item.iter c.next.new.self c.in-Ok-item.frame
    (c.one_reading.ensures.begins_none false) c.least_encoding.ensures.all_least c.requires.whole c.loop-item.invariant
    c.requires.room f c.offset-stop.ensures.value c.copy.ensures.items c.copy.ensures.capacity

pub loop-item-preserved : goal.loop-item-preserved
loop-item-preserved c =
    let f =
    finds_ok c.loop-item.iter c.next.new.self c.in-Some.item c.in-Ok-item.frame c.in-Ok-item.is c.in-Some.ensures.steps in
    let begins = c.one_reading.ensures.begins_none false in
    let one = c.least_encoding.ensures.least in
    let w : RewriteWalk c.args.out.now c.if-not-is_shortest.out c.args.payload.now c.if-not-is_shortest.from
    c.offset-stop.result c.next.new.self = elim c.if-not-is_shortest.branch [
      | goal.then-not-is_shortest w ↦ walk_as _ _ _ _ _ _ _ _ w.out-is w.from-is
          (rewrite_writes c.args.out.now c.loop-item.out w.copy.new.out w.write.new.out c.args.payload.now
          c.loop-item.from c.loop-item.start c.offset-stop.result c.loop-item.iter c.next.new.self
          c.in-Ok-item.frame
          begins c.loop-item.invariant f c.offset-stop.ensures.value w.copy.ensures.items w.copy.ensures.capacity
          w.write.ensures.items w.write.ensures.capacity)
      | goal.else-not-is_shortest w ↦ walk_as _ _ _ _ _ _ _ _ w.out-is w.from-is
          (rewrite_keeps c.args.out.now c.loop-item.out c.args.payload.now c.loop-item.from c.loop-item.start
          c.offset-stop.result c.loop-item.iter c.next.new.self c.in-Ok-item.frame c.is_shortest.result
          begins one c.loop-item.invariant f c.offset-stop.ensures.value c.is_shortest.ensures w.if-not-is_shortest.false)
    ] in
    elim c.if-stop-start-eq1.branch [
      | goal.then-stop-start-eq1 v ↦ passed_as c.args.out.now c.if-not-is_shortest.out c.args.payload.now
          c.if-not-is_shortest.from c.offset-stop.result c.offset-start.result v.pass_padding.result c.next.new.self
          v.pass_padding.new.self
          c.if-stop-start-eq1.iter begins one w v.pass_padding.ensures v.iter-is c.offset-start.ensures.value
      | goal.else-stop-start-eq1 v ↦ stands_as c.args.out.now c.if-not-is_shortest.out c.args.payload.now
          c.if-not-is_shortest.from c.offset-stop.result c.offset-start.result c.next.new.self
          c.if-stop-start-eq1.iter w c.offset-stop.ensures.value v.iter-is c.offset-start.ensures.value
    ]

pub loop-item-smaller : goal.loop-item-smaller
loop-item-smaller c =
    let f =
    finds_ok c.loop-item.iter c.next.new.self c.in-Some.item c.in-Ok-item.frame c.in-Ok-item.is c.in-Some.ensures.steps in
    elim c.if-stop-start-eq1.branch [
      | goal.then-stop-start-eq1 v ↦ padding_goes_on_as v.pass_padding.result c.loop-item.iter c.next.new.self
          v.pass_padding.new.self c.if-stop-start-eq1.iter c.in-Ok-item.frame f v.pass_padding.ensures v.iter-is
      | goal.else-stop-start-eq1 v ↦ frame_goes_on c.loop-item.iter c.next.new.self c.if-stop-start-eq1.iter c.in-Ok-item.frame f v.iter-is
    ]

pub copy-requires-2 : goal.copy-requires-2
copy-requires-2 c =
    room_to_end c.args.out.now c.loop-item.out c.args.payload.now c.loop-item.from c.loop-item.start c.loop-item.iter
    c.least_encoding.ensures.all_least c.requires.whole c.loop-item.invariant c.in_default-next.ensures.steps.0
    c.requires.room

pub returns : goal.returns
returns c =
    rewrite_done c.args.out.now c.loop-item.out c.copy-2.new.out c.args.payload.now c.loop-item.from c.loop-item.start
    c.loop-item.iter c.loop-item.invariant c.in_default-next.ensures.steps.0 c.copy-2.ensures.items

pub slice_bounds-copy-count : goal.slice_bounds-copy-count
slice_bounds-copy-count c =
    let r = c.loop-item.invariant.rewrites c.requires.whole.0 c.requires.whole.1 in
    omega (arith, r.within, c.loop-item.invariant.walks.within)

pub slice_bounds-copy-start : goal.slice_bounds-copy-start
slice_bounds-copy-start c =
    let r = c.loop-item.invariant.rewrites c.requires.whole.0 c.requires.whole.1 in
    omega (arith, r.within, c.loop-item.invariant.walks.within)
