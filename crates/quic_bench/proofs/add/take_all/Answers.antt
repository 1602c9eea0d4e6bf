-- One more byte is changed.
use Rattle.std.proofs.Common.{◌<◌, length, get_or, arith}
use Rattle.std.proofs.lemmas.List.{get_or_default}
use Rattle.std.proofs.lemmas.List.Edits.{map_over_more}
use Rattle.quic_bench.specs.Add.{take_byte}
use Rattle.quic_bench.proofs.add.take_all.Goals as goal

pub loop-x-preserved : goal.loop-x-preserved
loop-x-preserved c =
    let x = get_or c.loop-x.bytes c.loop-x.x-index 0 in
    let within : c.loop-x.x-index < length c.loop-x.bytes = omega arith in
    map_over_more (take_byte c.args.low) c.args.bytes.now c.loop-x.bytes c.loop-x.x-index x (omega arith) c.loop-x.invariant
    (get_or_default c.loop-x.bytes c.loop-x.x-index 0 x within)
