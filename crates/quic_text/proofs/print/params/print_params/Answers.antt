use Rattle.std.proofs.Common.{arith, ◌++◌, ◌∙◌, sym, ap, Err}
use Rattle.std.specs.String.{string_bytes}
use Rattle.std.specs.List.{flat_map, list_all}
use Rattle.quic_text.specs.Printed.{line_bytes, is_plain}
use Rattle.quic_text.specs.ParameterText.{answer_lines}
use Rattle.quic_text.proofs.ParameterLines.{plain_record}
use Rattle.std.proofs.lemmas.Grind.{common_steps}
use Rattle.quic_text.proofs.print.params.print_params.Goals as goal

pub returns-in_ok-push_str-in-Ok-clause-clean : goal.returns-in_ok-push_str-in-Ok-clause-clean
returns-in_ok-push_str-in-Ok-clause-clean c =
    sym (ap (λ a. list_all is_plain (answer_lines a)) (sym c.answer.ensures ∙ c.in-Ok.is) ∙ plain_record c.in-Ok.params)

pub returns-in_ok-push_str-in-Err-IllegalValue-clause-bytes :
    goal.returns-in_ok-push_str-in-Err-IllegalValue-clause-bytes
returns-in_ok-push_str-in-Err-IllegalValue-clause-bytes c =
    c.in_ok-push_str-in-Err-IllegalValue.ensures.bytes
    ∙ ap (λ a. string_bytes c.args.text.now ++ flat_map line_bytes (answer_lines a))
    (sym (sym c.answer.ensures ∙ c.in-Err-IllegalValue.is ∙ ap Err c.in-Err-IllegalValue.field-0-is))

pub returns-in_ok-push_str-in-Ok-clause-bytes : goal.returns-in_ok-push_str-in-Ok-clause-bytes
returns-in_ok-push_str-in-Ok-clause-bytes c = grind (arith, common_steps)
