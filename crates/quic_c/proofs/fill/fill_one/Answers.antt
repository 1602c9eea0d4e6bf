use Rattle.std.proofs.Common.{inl}
use Rattle.quic_c_words.specs.Shown.{rules_in}
use Rattle.quic_c.proofs.FillSteps.{kind_entry}
use Rattle.quic_c.proofs.fill.fill_one.Goals as goal

pub returns-in-Some : goal.returns-in-Some
returns-in-Some c =
    inl (kind_entry (rules_in c.args.frames.now.flags) c.args.frames.now c.args.payload.now c.args.out.now
    c.take_by_kind.new.out c.in-Some.end c.from-frames.result c.requires.going c.from-frames.ensures c.in-Some.ensures)
