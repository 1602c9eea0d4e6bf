use Rattle.std.proofs.Common.{arith}
use Rattle.quic_frames.proofs.Padding.{passes_here}
use Rattle.quic_frames.proofs.Places.{rest_is}
use Rattle.std.proofs.lemmas.Grind.{common_steps}
use Rattle.quic_frames.proofs.frame.iter.Iter.pass_padding.Goals as goal

pub returns-then-count-gt0 : goal.returns-then-count-gt0
returns-then-count-gt0 c =
    let self = c.self.inside in
    let seen = c.zeros-count.ensures in
    passes_here self.strict self.payload.now self.offset c.zeros-count.result self.last self.is_broken _ _
    c.self.view_is c.if-self.false (rest_is self.payload.now self.offset) seen.bytes
    c.self.invariant seen.within seen.each seen.over (omega arith)

pub returns-else-count-gt0 : goal.returns-else-count-gt0
returns-else-count-gt0 c = grind (arith, common_steps)

pub returns-then-self : goal.returns-then-self
returns-then-self c = grind (arith, common_steps)
