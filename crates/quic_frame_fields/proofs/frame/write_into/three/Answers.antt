use Rattle.std.proofs.Common.{arith}
use Rattle.quic_frame_fields.proofs.Putting.{puts_three}
use Rattle.std.proofs.lemmas.Grind.{common_steps}
use Rattle.quic_frame_fields.proofs.frame.write_into.three.Goals as goal

pub returns : goal.returns
returns c =
    let one = c.store_bytes-at.ensures in
    let second = c.store_bytes-at-2.ensures in
    let more = c.store_bytes.ensures in
    puts_three c.args.front.now c.args.middle.now c.args.end.now c.args.dest.now c.store_bytes-at.new.dest
    c.store_bytes-at-2.new.dest c.store_bytes.new.dest _ _ _
    one.end second.end more.end one.front second.front more.front one.back second.back more.back

pub returns-then-dest-needed : goal.returns-then-dest-needed
returns-then-dest-needed c = grind (arith, common_steps)
