-- By what reading returns.
use Rattle.std.proofs.Common.{sym, ◌∙◌}
use Rattle.quic_header_decode.proofs.CutAnswers.{header_sole, cut_sole, header_answer, cut_answer}
use Rattle.quic_header_decode.proofs.laws.one_answer.Goals as goal

pub returns-clause-head : goal.returns-clause-head
returns-clause-head c =
    λ options whole bytes one other fits a b. sym (header_sole options whole bytes one fits a)
    ∙ header_sole options whole bytes other fits b

pub returns-clause-cut : goal.returns-clause-cut
returns-clause-cut c =
    λ options bytes one other fits a b. sym (cut_sole options bytes one fits a) ∙ cut_sole options bytes other fits b

pub returns-clause-header_found : goal.returns-clause-header_found
returns-clause-header_found c = λ options whole bytes fits room takes. header_answer options whole bytes fits room takes

pub returns-clause-cut_found : goal.returns-clause-cut_found
returns-clause-cut_found c = λ options bytes fits takes. cut_answer options bytes fits takes
