use Rattle.std.proofs.Common.{rules, ◌++◌, IsErr, sym, ap, ◌∙◌}
use Rattle.std.specs.String.{string_bytes}
use Rattle.hex.specs.Hex.{decode_of}
use Rattle.quic_text.specs.Lines.{without_return}
use Rattle.quic_text.proofs.PassingLemmas.{all_waits, nothing_begun}
use Rattle.quic_text.proofs.TextLemmas.{not_encoded}
use Rattle.quic_text.proofs.print.print_line.Goals as goal

pub returns-in_err-payload : goal.returns-in_err-payload
returns-in_err-payload g c = search (rules, nothing_begun)

pub returns-in_err-push_str-in-None : goal.returns-in_err-push_str-in-None
returns-in_err-push_str-in-None g c = search (rules, nothing_begun)

pub returns-in_ok-push_str-in-None : goal.returns-in_ok-push_str-in-None
returns-in_ok-push_str-in-None g c =
    let none : IsErr (decode_of (without_return c.args.line.now)) =
    rw (sym c.trim_return.ensures) (c.in_ok-payload.ensures.none c.in-None.is) in
    let same =
    c.in_ok-push_str-in-None.ensures.bytes
    ∙ ap (λ xs. string_bytes c.args.text.now ++ xs) (sym (not_encoded c.args.mode (decode_of (without_return c.args.line.now)) none)) in
    search (rules, all_waits)
