use Rattle.std.proofs.Common.{false, arith}
use Rattle.quic_canon.proofs.Steps.{finds_ok, fails_err, stands_at, small_at}
use Rattle.quic_canon.proofs.PaddingWalk.{padding_goes_on_as, frame_goes_on}
use Rattle.quic_c_canon.proofs.LenWalk.{len_begins, len_on, len_passed, len_as, len_done, len_fails}
use Rattle.quic_c_canon.proofs.canonical.shortest_len.Goals as goal
use Rattle.quic_c_canon.proofs.canonical.shortest_len.Goals.{then-stop-start-eq1, else-stop-start-eq1}

pub loop-item-init : goal.loop-item-init
loop-item-init c =
    len_begins c.args.payload.now c.in-Ok.iter c.in-Ok.ensures.first

pub returns-in-Err-clause-err : goal.returns-in-Err-clause-err
returns-in-Err-clause-err c =
    let a =
    fails_err c.loop-item.iter c.next.new.self c.in-Some.item c.in-Err.invalid c.in-Err.is c.in-Some.ensures.steps in
    len_fails c.args.payload.now c.loop-item.total c.loop-item.start c.loop-item.iter c.next.new.self c.in-Err.invalid
    c.loop-item.invariant a

pub frame_len-len-requires-clause-stands : goal.frame_len-len-requires-clause-stands
frame_len-len-requires-clause-stands c =
    let f =
    finds_ok c.loop-item.iter c.next.new.self c.in-Some.item c.in-Ok-item.frame c.in-Ok-item.is c.in-Some.ensures.steps in
    stands_at c.args.payload.now c.loop-item.start c.offset-stop.result c.loop-item.iter c.next.new.self
    c.in-Ok-item.frame c.read_back.ensures.exact
    c.loop-item.invariant.walks f c.offset-stop.ensures.value

pub frame_len-len-requires-clause-small : goal.frame_len-len-requires-clause-small
frame_len-len-requires-clause-small c =
    let f =
    finds_ok c.loop-item.iter c.next.new.self c.in-Some.item c.in-Ok-item.frame c.in-Ok-item.is c.in-Some.ensures.steps in
    small_at c.args.payload.now c.loop-item.start c.offset-stop.result c.loop-item.iter c.next.new.self
    c.in-Ok-item.frame c.least_encoding.ensures.least
    c.loop-item.invariant.walks f c.offset-stop.ensures.value

pub loop-item-preserved : goal.loop-item-preserved
loop-item-preserved c =
    let f =
    finds_ok c.loop-item.iter c.next.new.self c.in-Some.item c.in-Ok-item.frame c.in-Ok-item.is c.in-Some.ensures.steps in
    let begins = c.one_reading.ensures.begins_none false in
    let one = c.least_encoding.ensures.least in
    let w = len_on c.args.payload.now c.loop-item.total c.loop-item.start c.offset-stop.result c.frame_len-len.result
    c.loop-item.iter c.next.new.self
    c.in-Ok-item.frame begins one c.loop-item.invariant f c.offset-stop.ensures.value c.frame_len-len.ensures in
    elim c.if-stop-start-eq1.branch [
      | then-stop-start-eq1 v ↦ len_as _ _ _ _ _ _ _ (len_passed _ _ _ v.pass_padding-count.result _
          v.pass_padding-count.new.self begins one w
          v.pass_padding-count.ensures) v.total-is v.iter-is c.offset-start.ensures.value
      | else-stop-start-eq1 v ↦ len_as _ _ _ _ _ _ _ w v.total-is v.iter-is c.offset-start.ensures.value
    ]

pub loop-item-smaller : goal.loop-item-smaller
loop-item-smaller c =
    let f =
    finds_ok c.loop-item.iter c.next.new.self c.in-Some.item c.in-Ok-item.frame c.in-Ok-item.is c.in-Some.ensures.steps in
    elim c.if-stop-start-eq1.branch [
      | then-stop-start-eq1 v ↦ padding_goes_on_as v.pass_padding-count.result c.loop-item.iter c.next.new.self
          v.pass_padding-count.new.self
          c.if-stop-start-eq1.iter c.in-Ok-item.frame f v.pass_padding-count.ensures v.iter-is
      | else-stop-start-eq1 v ↦ frame_goes_on c.loop-item.iter c.next.new.self c.if-stop-start-eq1.iter c.in-Ok-item.frame f v.iter-is
    ]

pub returns-clause-ok : goal.returns-clause-ok
returns-clause-ok c =
    len_done c.args.payload.now c.loop-item.total c.loop-item.start c.loop-item.iter c.requires
    c.loop-item.invariant c.in_default-next.ensures.steps.0

pub overflow_add-total : goal.overflow_add-total
overflow_add-total c =
    let f =
    finds_ok c.loop-item.iter c.next.new.self c.in-Some.item c.in-Ok-item.frame c.in-Ok-item.is c.in-Some.ensures.steps in
    let small = small_at c.args.payload.now c.loop-item.start c.offset-stop.result c.loop-item.iter c.next.new.self
    c.in-Ok-item.frame c.least_encoding.ensures.least
    c.loop-item.invariant.walks f c.offset-stop.ensures.value in
    omega (arith, small, c.frame_len-len.ensures, c.loop-item.invariant.low, c.loop-item.invariant.walks.within)

pub overflow_add-total-then-stop-start-eq1 : goal.overflow_add-total-then-stop-start-eq1
overflow_add-total-then-stop-start-eq1 c =
    let f =
    finds_ok c.loop-item.iter c.next.new.self c.in-Some.item c.in-Ok-item.frame c.in-Ok-item.is c.in-Some.ensures.steps in
    let w = len_on c.args.payload.now c.loop-item.total c.loop-item.start c.offset-stop.result c.frame_len-len.result
    c.loop-item.iter c.next.new.self c.in-Ok-item.frame
    (c.one_reading.ensures.begins_none false) c.least_encoding.ensures.least c.loop-item.invariant f
    c.offset-stop.ensures.value c.frame_len-len.ensures in
    let passed =
    len_passed _ _ _ c.pass_padding-count.result _ c.pass_padding-count.new.self
    (c.one_reading.ensures.begins_none false) c.least_encoding.ensures.least w c.pass_padding-count.ensures in
    omega (arith, passed.low, passed.walks.within)
