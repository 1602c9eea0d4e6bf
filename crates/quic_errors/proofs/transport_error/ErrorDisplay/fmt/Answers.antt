use Rattle.std.proofs.Common.{ℕ, List, length, eqb, ap, ◌∙◌, subst, arith}
use Rattle.std.proofs.lemmas.Grind.{common_steps}
use Rattle.std.specs.Fmt.{HasWritten}
use Rattle.quic_errors.proofs.Texts.{text_without_reason}
use Rattle.quic_errors.proofs.transport_error.ErrorDisplay.fmt.Goals as goal

pub returns-in-Some-true-clause-writes : goal.returns-in-Some-true-clause-writes
returns-in-Some-true-clause-writes g c = λ plain ok.
    let e =
    text_without_reason c.args.self.now c.in-Some-true.frame c.in-Some-true.is-0
    (c.in-Some-true.ensures ∙ ap (λ (t : List ℕ). eqb (length t) 0) c.as_str-reason.ensures) in
    subst (λ (t : List ℕ). HasWritten g.W.Write.write_str_gives c.args.f.now t c.write-in-Some-true.new.self) e
    (c.write-in-Some-true.ensures.writes plain ok)

pub returns-in-Some-false-clause-writes : goal.returns-in-Some-false-clause-writes
returns-in-Some-false-clause-writes g c = grind (arith, common_steps)

pub returns-in-None-false-clause-writes : goal.returns-in-None-false-clause-writes
returns-in-None-false-clause-writes g c = grind (arith, common_steps)

pub returns-in-None-true-clause-writes : goal.returns-in-None-true-clause-writes
returns-in-None-true-clause-writes g c = grind (arith, common_steps)
