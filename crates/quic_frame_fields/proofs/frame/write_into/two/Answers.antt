use Rattle.std.proofs.Common.{arith}
use Rattle.quic_frame_fields.proofs.Putting.{puts_two}
use Rattle.std.proofs.lemmas.Grind.{common_steps}
use Rattle.quic_frame_fields.proofs.frame.write_into.two.Goals as goal

pub returns : goal.returns
returns c =
    let one = c.store_bytes-at.ensures in
    let more = c.store_bytes.ensures in
    puts_two c.args.front.now c.args.end.now c.args.dest.now c.store_bytes-at.new.dest c.store_bytes.new.dest _ _
    one.end more.end one.front more.front one.back more.back

pub returns-then-dest-needed : goal.returns-then-dest-needed
returns-then-dest-needed c = grind (arith, common_steps)
