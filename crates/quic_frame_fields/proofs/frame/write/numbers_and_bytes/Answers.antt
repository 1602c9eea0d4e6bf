use Rattle.std.proofs.lemmas.Result.{err_from_is_err_and}
use Rattle.quic_frame_fields.specs.Numbers.{shortest_varints}
use Rattle.quic_base.proofs.Encoders.{wrote_first, writes_last, writes_begun}
use Rattle.quic_frame_fields.proofs.frame.write.numbers_and_bytes.Goals as goal

pub returns-in_err-numbers : goal.returns-in_err-numbers
returns-in_err-numbers g c =
    let p = err_from_is_err_and c.from_residual.result c.from_residual.ensures.1 in
    writes_begun c.numbers.result c.from_residual.result p.0 (shortest_varints c.args.numbers.now) c.args.tail.now _ _ _
    _ _ c.numbers.ensures c.in_err-numbers.was p.1

pub returns : goal.returns
returns g c =
    writes_last c.bytes.result (shortest_varints c.args.numbers.now) c.args.tail.now _ _ _ _ _ _
    (wrote_first c.numbers.result _ _ _ _ _ c.numbers.ensures c.in_ok-numbers.was) c.bytes.ensures
