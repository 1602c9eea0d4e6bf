use Rattle.std.proofs.Common.{◌≡◌, ◌≢◌, true, false, refl}
use Rattle.quic_frames.specs.declared.frame.InvalidFrame.{InvalidFrame}
use Rattle.quic_canon.specs.declared.canonical.CanonError.TheVariants.{Invalid, OutOfMemory}
use Rattle.quic_canon.proofs.Steps.{finds_ok, fails_err, stands_at, small_at}
use Rattle.quic_canon.proofs.PaddingWalk.{padding_grows, padding_stays, padding_goes_on, frame_goes_on}
use Rattle.quic_canon.proofs.FrontWalk.{FrontWalk, front_is, front_walk_begins, front_done, front_fails, grows_to, ends_at, stays_at}
use Rattle.quic_canon.proofs.canonical.shortest_front.Goals as goal

not_memory : (invalid : InvalidFrame) → Invalid invalid ≢ OutOfMemory
not_memory invalid e = cc

pub loop-item-init : goal.loop-item-init
loop-item-init c =
    front_walk_begins c.args.payload.now c.in-Ok.iter c.in-Ok.ensures.first

pub returns-in-Err-clause-err : goal.returns-in-Err-clause-err
returns-in-Err-clause-err c =
    let a =
    fails_err c.loop-item.iter c.next.new.self c.in-Some.item c.in-Err.invalid c.in-Err.is c.in-Some.ensures.steps in (
      front_fails c.args.payload.now c.loop-item.front c.loop-item.start c.loop-item.iter c.next.new.self
          c.in-Err.invalid c.loop-item.invariant a,
      not_memory c.in-Err.invalid,
    )

pub is_shortest-requires-clause-stands : goal.is_shortest-requires-clause-stands
is_shortest-requires-clause-stands c =
    let f =
    finds_ok c.loop-item.iter c.next.new.self c.in-Some.item c.in-Ok-item.frame c.in-Ok-item.is c.in-Some.ensures.steps in
    stands_at c.args.payload.now c.loop-item.start c.offset-stop.result c.loop-item.iter c.next.new.self
    c.in-Ok-item.frame c.read_back.ensures.exact c.loop-item.invariant.walks f c.offset-stop.ensures.value

pub is_shortest-requires-clause-small : goal.is_shortest-requires-clause-small
is_shortest-requires-clause-small c =
    let f =
    finds_ok c.loop-item.iter c.next.new.self c.in-Some.item c.in-Ok-item.frame c.in-Ok-item.is c.in-Some.ensures.steps in
    small_at c.args.payload.now c.loop-item.start c.offset-stop.result c.loop-item.iter c.next.new.self
    c.in-Ok-item.frame c.least_encoding.ensures.least c.loop-item.invariant.walks f c.offset-stop.ensures.value

pub loop-item-preserved-then-front-stop : goal.loop-item-preserved-then-front-stop
loop-item-preserved-then-front-stop c =
    let f =
    finds_ok c.loop-item.iter c.next.new.self c.in-Some.item c.in-Ok-item.frame c.in-Ok-item.is c.in-Some.ensures.steps in
    let w : FrontWalk c.args.payload.now c.if-front-start.front c.offset-stop.result c.next.new.self = elim c.if-front-start.branch [
      | goal.then-front-start+then-is_shortest w ↦
          front_is c.args.payload.now _ _ c.offset-stop.result c.next.new.self w.front-is
          (grows_to c.args.payload.now c.loop-item.front c.loop-item.start c.offset-stop.result c.loop-item.iter
          c.next.new.self c.in-Ok-item.frame w.is_shortest.result
          (c.one_reading.ensures.begins_none false) c.least_encoding.ensures.least w.if-front-start.true
          c.loop-item.invariant f c.offset-stop.ensures.value w.is_shortest.ensures w.if-is_shortest.true)
      | goal.else-front-start w ↦ front_is c.args.payload.now _ _ c.offset-stop.result c.next.new.self w.front-is
          (elim w.else-front-start.branch [
            | goal.else-front-start-via-then-front-start+else-is_shortest v ↦
                ends_at c.args.payload.now c.loop-item.front c.loop-item.start c.offset-stop.result c.loop-item.iter
                c.next.new.self c.in-Ok-item.frame v.is_shortest.result
                (c.one_reading.ensures.begins_none false) c.least_encoding.ensures.least c.least_encoding.ensures.all_least
                v.if-front-start.true c.loop-item.invariant f c.offset-stop.ensures.value v.is_shortest.ensures
                v.if-is_shortest.false
            | goal.else-front-start-via-else-front-start v ↦
                stays_at c.args.payload.now c.loop-item.front c.loop-item.start c.offset-stop.result c.loop-item.iter
                c.next.new.self c.in-Ok-item.frame v.if-front-start.false c.loop-item.invariant f
                c.offset-stop.ensures.value
          ])
    ] in
    padding_grows c.args.payload.now c.if-front-start.front c.offset-stop.result c.offset-start.result
    c.pass_padding.result c.next.new.self c.pass_padding.new.self
    (c.one_reading.ensures.begins_none false) c.least_encoding.ensures.least c.if-front-stop.true w
    c.pass_padding.ensures c.offset-start.ensures.value

pub loop-item-preserved-else-front-stop : goal.loop-item-preserved-else-front-stop
loop-item-preserved-else-front-stop c =
    let f =
    finds_ok c.loop-item.iter c.next.new.self c.in-Some.item c.in-Ok-item.frame c.in-Ok-item.is c.in-Some.ensures.steps in
    let w : FrontWalk c.args.payload.now c.if-front-start.front c.offset-stop.result c.next.new.self = elim c.if-front-start.branch [
      | goal.then-front-start+then-is_shortest w ↦
          front_is c.args.payload.now _ _ c.offset-stop.result c.next.new.self w.front-is
          (grows_to c.args.payload.now c.loop-item.front c.loop-item.start c.offset-stop.result c.loop-item.iter
          c.next.new.self c.in-Ok-item.frame w.is_shortest.result
          (c.one_reading.ensures.begins_none false) c.least_encoding.ensures.least w.if-front-start.true
          c.loop-item.invariant f c.offset-stop.ensures.value w.is_shortest.ensures w.if-is_shortest.true)
      | goal.else-front-start w ↦ front_is c.args.payload.now _ _ c.offset-stop.result c.next.new.self w.front-is
          (elim w.else-front-start.branch [
            | goal.else-front-start-via-then-front-start+else-is_shortest v ↦
                ends_at c.args.payload.now c.loop-item.front c.loop-item.start c.offset-stop.result c.loop-item.iter
                c.next.new.self c.in-Ok-item.frame v.is_shortest.result
                (c.one_reading.ensures.begins_none false) c.least_encoding.ensures.least c.least_encoding.ensures.all_least
                v.if-front-start.true c.loop-item.invariant f c.offset-stop.ensures.value v.is_shortest.ensures
                v.if-is_shortest.false
            | goal.else-front-start-via-else-front-start v ↦
                stays_at c.args.payload.now c.loop-item.front c.loop-item.start c.offset-stop.result c.loop-item.iter
                c.next.new.self c.in-Ok-item.frame v.if-front-start.false c.loop-item.invariant f
                c.offset-stop.ensures.value
          ])
    ] in
    padding_stays c.args.payload.now c.if-front-start.front c.offset-stop.result c.offset-start.result
    c.pass_padding.result c.next.new.self c.pass_padding.new.self c.if-front-stop.false w c.pass_padding.ensures
    c.offset-start.ensures.value

pub loop-item-preserved : goal.loop-item-preserved
loop-item-preserved c =
    let f =
    finds_ok c.loop-item.iter c.next.new.self c.in-Some.item c.in-Ok-item.frame c.in-Ok-item.is c.in-Some.ensures.steps in
    let w : FrontWalk c.args.payload.now c.if-front-start.front c.offset-stop.result c.next.new.self = elim c.if-front-start.branch [
      | goal.then-front-start+then-is_shortest w ↦
          front_is c.args.payload.now _ _ c.offset-stop.result c.next.new.self w.front-is
          (grows_to c.args.payload.now c.loop-item.front c.loop-item.start c.offset-stop.result c.loop-item.iter
          c.next.new.self c.in-Ok-item.frame w.is_shortest.result
          (c.one_reading.ensures.begins_none false) c.least_encoding.ensures.least w.if-front-start.true
          c.loop-item.invariant f c.offset-stop.ensures.value w.is_shortest.ensures w.if-is_shortest.true)
      | goal.else-front-start w ↦ front_is c.args.payload.now _ _ c.offset-stop.result c.next.new.self w.front-is
          (elim w.else-front-start.branch [
            | goal.else-front-start-via-then-front-start+else-is_shortest v ↦
                ends_at c.args.payload.now c.loop-item.front c.loop-item.start c.offset-stop.result c.loop-item.iter
                c.next.new.self c.in-Ok-item.frame v.is_shortest.result
                (c.one_reading.ensures.begins_none false) c.least_encoding.ensures.least c.least_encoding.ensures.all_least
                v.if-front-start.true c.loop-item.invariant f c.offset-stop.ensures.value v.is_shortest.ensures
                v.if-is_shortest.false
            | goal.else-front-start-via-else-front-start v ↦
                stays_at c.args.payload.now c.loop-item.front c.loop-item.start c.offset-stop.result c.loop-item.iter
                c.next.new.self c.in-Ok-item.frame v.if-front-start.false c.loop-item.invariant f
                c.offset-stop.ensures.value
          ])
    ] in
    w

pub loop-item-smaller-then-front-stop : goal.loop-item-smaller-then-front-stop
loop-item-smaller-then-front-stop c =
    let f =
    finds_ok c.loop-item.iter c.next.new.self c.in-Some.item c.in-Ok-item.frame c.in-Ok-item.is c.in-Some.ensures.steps in
    padding_goes_on c.pass_padding.result c.loop-item.iter c.next.new.self c.pass_padding.new.self c.in-Ok-item.frame f
    c.pass_padding.ensures

pub loop-item-smaller-else-front-stop : goal.loop-item-smaller-else-front-stop
loop-item-smaller-else-front-stop c =
    let f =
    finds_ok c.loop-item.iter c.next.new.self c.in-Some.item c.in-Ok-item.frame c.in-Ok-item.is c.in-Some.ensures.steps in
    padding_goes_on c.pass_padding.result c.loop-item.iter c.next.new.self c.pass_padding.new.self c.in-Ok-item.frame f
    c.pass_padding.ensures

pub loop-item-smaller : goal.loop-item-smaller
loop-item-smaller c =
    let f =
    finds_ok c.loop-item.iter c.next.new.self c.in-Some.item c.in-Ok-item.frame c.in-Ok-item.is c.in-Some.ensures.steps in
    frame_goes_on c.loop-item.iter c.next.new.self c.next.new.self c.in-Ok-item.frame f refl

pub returns-clause-ok : goal.returns-clause-ok
returns-clause-ok c =
    front_done c.args.payload.now c.loop-item.front c.loop-item.start c.loop-item.iter
    (λ h. let e : false ≡ true = c.in-Ok.ensures.empty.1 h in cc) c.loop-item.invariant
    c.in_default-next.ensures.steps.0
