use Rattle.std.proofs.Common.{ℕ, pos, sym, subst, ap, ◌∙◌}
use Rattle.quic_frames.specs.declared.frame.Frame.TheVariants as frames
use Rattle.quic_c.specs.Answers.{AnswersNext}
use Rattle.quic_c_words.specs.Shown.{frame_words, rules_in}
use Rattle.quic_c.proofs.FastCalls.{ack_next}
use Rattle.quic_c.proofs.fast_acks.next_ack.Goals as goal

pub returns-in-Some : goal.returns-in-Some
returns-in-Some g c =
    let rules = rules_in c.args.frames.now.flags in
    let old = c.args.frames.now in
    let shows =
    c.ack_words.ensures ∙ ap (λ (t : ℕ). frame_words old.offset c.in-Some.end t (frames.Ack c.in-Some.ack)) c.type_of-ty.ensures in
    subst (λ (t : ℕ). AnswersNext rules old c.args.payload.now c.args.out.now (pos 1)
    (record old { offset = c.in-Some.end; last_type = t }) c.ack_words.result)
    (sym (c.from-frames.ensures ∙ c.type_of-ty.ensures))
    (ack_next rules old c.args.payload.now c.args.out.now c.ack_words.result c.in-Some.end _ c.in-Some.ack
    c.requires.going c.in-Some.ensures.finds shows)
