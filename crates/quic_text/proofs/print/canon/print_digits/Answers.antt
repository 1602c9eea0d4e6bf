use Rattle.std.proofs.Common.{rules, ◌∙◌}
use Rattle.std.proofs.Math.Bool.{or-false}
use Rattle.std.specs.String.{string_bytes}
use Rattle.hex.specs.Hex.{encode_lower}
use Rattle.quic_text.specs.Printed.{Plain, line_bytes}
use Rattle.quic_text.proofs.CanonLines.{digits_shown}
use Rattle.quic_text.proofs.PassingLemmas.{passed_on, beginning_passed, on_err}
use Rattle.quic_text.proofs.print.canon.print_digits.Goals as goal

pub returns-in_err-pass_on_pieces : goal.returns-in_err-pass_on_pieces
returns-in_err-pass_on_pieces g c =
    let same = digits_shown (string_bytes c.loop-rest.text) (string_bytes c.push_str.new.self) c.loop-rest.rest.now
    c.split_at.result.0.now c.split_at.result.1.now 16384
    c.split_at.ensures.front c.split_at.ensures.back (rw (c.as_str.ensures.value, c.in_ok-encode.ensures) at
    c.in_ok-push_str.ensures.bytes) in
    let begun = on_err c.from_residual-in_err-pass_on_pieces.result
    (beginning_passed _ _ _ (string_bytes c.push_str.new.self)
    (line_bytes (Plain (encode_lower c.split_at.result.1.now))) _ _ same c.loop-rest.invariant.passed
    c.in_err-pass_on_pieces.ensures.err) in
    search rules

pub loop-rest-preserved : goal.loop-rest-preserved
loop-rest-preserved g c =
    let same = digits_shown (string_bytes c.loop-rest.text) (string_bytes c.push_str.new.self) c.loop-rest.rest.now
    c.split_at.result.0.now c.split_at.result.1.now 16384
    c.split_at.ensures.front c.split_at.ensures.back (rw (c.as_str.ensures.value, c.in_ok-encode.ensures) at
    c.in_ok-push_str.ensures.bytes) in
    record {
      passed = passed_on _ _ _ (string_bytes c.push_str.new.self) _
          (line_bytes (Plain (encode_lower c.split_at.result.1.now))) _ _ same c.loop-rest.invariant.passed
          c.in_ok-pass_on_pieces.ensures.ok;
      failed = c.in_ok-pass_on_pieces.ensures.failed ∙ or-false _ ∙ c.loop-rest.invariant.failed;
    }
