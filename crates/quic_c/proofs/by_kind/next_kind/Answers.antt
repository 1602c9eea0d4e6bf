use Rattle.quic_c_words.specs.Shown.{rules_in}
use Rattle.quic_c.proofs.FastCalls.{kind_next}
use Rattle.quic_c.proofs.by_kind.next_kind.Goals as goal

pub returns-in-Some : goal.returns-in-Some
returns-in-Some g c =
    kind_next (rules_in c.args.frames.now.flags) c.args.frames.now c.args.payload.now c.args.out.now c.read.new.out
    c.in-Some.end _ c.requires.going c.from-frames.ensures c.in-Some.ensures.answers
