use Rattle.std.proofs.Common.{length, rules}
use Rattle.quic_frame_fields.proofs.UncountedBlocks.{no_ranges_left, zero_of}
use Rattle.quic_frame_fields.proofs.frame.ack.AckIterIterator.next.Goals as goal

pub returns-then-is_empty-clause-steps : goal.returns-then-is_empty-clause-steps
returns-then-is_empty-clause-steps c =
    let self = c.args.self.now in
    let none = no_ranges_left self.largest self.blocks.now (zero_of (length self.blocks.now) c.if-is_empty.ensures) in
    ((none, none), search rules)

pub returns-clause-steps : goal.returns-clause-steps
returns-clause-steps c = search rules
