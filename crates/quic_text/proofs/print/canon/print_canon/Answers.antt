use Rattle.std.proofs.Common.{rules, false, ◌≡◌, ◌++◌, ℕ, List, [], ◌∷◌, refl, ap, sym, subst, ◌∙◌}
use Rattle.std.specs.String.{string_bytes}
use Rattle.hex.specs.Hex.{encode_lower}
use Rattle.quic_frame_fields.specs.Reading.{Invalid, Broken}
use Rattle.quic_frames.specs.Walk.{invalid_of}
use Rattle.quic_canon.specs.Bytes.{canon_bytes}
use Rattle.quic_text.specs.Printed.{Plain, line_bytes}
use Rattle.quic_text.specs.FrameText.{item_line, empty_line}
use Rattle.quic_text.specs.CanonText.{canon_lines}
use Rattle.quic_text.specs.Whole.{AppendsAllBut, AppendsBeginning}
use Rattle.quic_text.proofs.CanonLines.{given_printed, broken_printed, line_shown, line_reported}
use Rattle.quic_text.proofs.PassingLemmas.{all_waits, nothing_begun, on_err}
use Rattle.quic_text.proofs.print.canon.print_canon.Goals as goal

pub returns-in_err-print_digits-in-Ok : goal.returns-in_err-print_digits-in-Ok
returns-in_err-print_digits-in-Ok g c =
    let given = given_printed c.args.payload.now c.in-Ok.canonical c.one_least.ensures.exists c.in-Ok.ensures.ok in
    let line = ap (λ (l : List ℕ). string_bytes c.args.text.now ++ line_bytes (Plain (encode_lower l))) c.bytes.ensures
    ∙ ap (λ (l : List ℕ). string_bytes c.args.text.now ++ l)
    (line_shown c.args.payload.now (Plain (encode_lower (canon_bytes c.in-Ok.canonical))) given) in
    let begun = on_err c.from_residual.result
    (subst (λ (all : List ℕ). AppendsBeginning (g.W.Sink.taken c.args.sink.now) (g.W.Sink.taken c.print_digits.new.sink)
    all) line c.in_err-print_digits-in-Ok.ensures.err) in
    search rules

pub returns-in_err-push_str-in-Err-Empty : goal.returns-in_err-push_str-in-Err-Empty
returns-in_err-push_str-in-Err-Empty g c = search (rules, nothing_begun)

pub returns-in_err-print_invalid-in-Err-Invalid : goal.returns-in_err-print_invalid-in-Err-Invalid
returns-in_err-print_invalid-in-Err-Invalid g c = search (rules, nothing_begun)

pub returns-in_ok-print_digits-in-Ok : goal.returns-in_ok-print_digits-in-Ok
returns-in_ok-print_digits-in-Ok g c =
    let given = given_printed c.args.payload.now c.in-Ok.canonical c.one_least.ensures.exists c.in-Ok.ensures.ok in
    let line = ap (λ (l : List ℕ). string_bytes c.args.text.now ++ line_bytes (Plain (encode_lower l))) c.bytes.ensures
    ∙ ap (λ (l : List ℕ). string_bytes c.args.text.now ++ l)
    (line_shown c.args.payload.now (Plain (encode_lower (canon_bytes c.in-Ok.canonical))) given) in
    let waits =
    subst (λ (all : List ℕ). AppendsAllBut (g.W.Sink.taken c.args.sink.now) (g.W.Sink.taken c.print_digits.new.sink)
    (string_bytes c.print_digits.new.text) all) line c.in_ok-print_digits-in-Ok.ensures.ok in
    let plain = line_reported c.args.payload.now (Plain (encode_lower (canon_bytes c.in-Ok.canonical))) _ given refl in
    search rules

pub returns-in_ok-push_str-in-Err-Empty : goal.returns-in_ok-push_str-in-Err-Empty
returns-in_ok-push_str-in-Err-Empty g c =
    let none = rw c.in-Err-Empty.field-0-is at c.in-Err-Empty.ensures.err in
    let same =
    c.in_ok-push_str-in-Err-Empty.ensures.bytes
    ∙ ap (λ (l : List ℕ). string_bytes c.args.text.now ++ l) (line_shown c.args.payload.now empty_line (ap canon_lines none)) in
    search (rules, all_waits)

pub returns-in_ok-print_invalid-in-Err-Invalid : goal.returns-in_ok-print_invalid-in-Err-Invalid
returns-in_ok-print_invalid-in-Err-Invalid g c =
    let r = rw c.in-Err-Invalid.field-0-is at c.in-Err-Invalid.ensures.err in
    let line : canon_lines c.args.payload.now ≡ item_line (Broken (invalid_of c.in-Err-Invalid.invalid)) ∷ [] =
    broken_printed r.0 c.args.payload.now r.1 r.2 (λ i. (c.type_inv.payload i).fits) r.3
    ∙ ap (λ (j : Invalid). item_line (Broken j) ∷ []) (sym r.4) in
    let same =
    (rw c.in-Err-Invalid.field-0-is at c.in_ok-print_invalid-in-Err-Invalid.ensures)
    ∙ ap (λ (l : List ℕ). string_bytes c.args.text.now ++ l)
    (line_shown c.args.payload.now (item_line (Broken (invalid_of c.in-Err-Invalid.invalid))) line) in
    let plain =
    line_reported c.args.payload.now (item_line (Broken (invalid_of c.in-Err-Invalid.invalid))) false line refl in
    search (rules, all_waits)
