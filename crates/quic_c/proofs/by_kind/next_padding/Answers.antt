use Rattle.std.proofs.Common.{ℕ, subst}
use Rattle.quic_c.specs.Kinds.{HasType}
use Rattle.quic_c_words.specs.Shown.{rules_in}
use Rattle.quic_c.proofs.FillSteps.{padding_next}
use Rattle.quic_c.proofs.by_kind.next_padding.Goals as goal

pub returns : goal.returns
returns c =
    let payload = c.args.payload.now in
    let rest = c.in-Some.rest.now in
    let h = c.in-Some.ensures.parts in
    let here : HasType payload c.args.frames.now.offset 0 rest =
    subst (λ (t : ℕ). HasType payload c.args.frames.now.offset t rest) (c.requires.begins _ _ h.parts) h in
    padding_next (rules_in c.args.frames.now.flags) c.args.frames.now payload c.args.out.now c.put.new.out rest
    c.requires.going here c.put.ensures
