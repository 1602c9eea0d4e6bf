use Rattle.std.proofs.Common.{arith, rules, map, length, refl, sym, ap, ◌∙◌}
use Rattle.std.proofs.Math.Bool.{or-false}
use Rattle.std.specs.List.{flat_map}
use Rattle.std.specs.String.{string_bytes}
use Rattle.quic_frames.specs.Walk.{left, Finds, Fails}
use Rattle.quic_frames.proofs.Turns.{finds_left, fails_left, spent_left}
use Rattle.quic_text.specs.Printed.{line_bytes}
use Rattle.quic_text.specs.FrameText.{item_line}
use Rattle.quic_text.proofs.FrameLines.{text_more, clean_more}
use Rattle.quic_text.proofs.PassingLemmas.{passed_on, beginning_passed, nothing_begun, on_err}
use Rattle.quic_text.proofs.print.frames.print_frames.Goals as goal

pub returns-in_err-writeln-in-Err : goal.returns-in_err-writeln-in-Err
returns-in_err-writeln-in-Err g c = search (rules, nothing_begun)

pub returns-in_err-pass_on_pieces : goal.returns-in_err-pass_on_pieces
returns-in_err-pass_on_pieces g c = record {
  printed = record {
    ok = search rules;
    err =
        let old = c.loop-item.frames in
        let new = c.next.new.self in
        let finds : Finds old c.in-Ok-item.frame new = rw c.in-Ok-item.is at c.in-Some.ensures.steps in
        let same =
        text_more old new c.in-Ok-item.frame (string_bytes c.loop-item.text) (string_bytes c.print_frame.new.text) _
        finds (rw (← c.offset-end.ensures.value, ← c.loop-item.invariant.start, ← c.ty.ensures)
        c.in_ok-print_frame.ensures) refl in
        on_err c.from_residual-in_err-pass_on_pieces.result
        (beginning_passed _ _ _ (string_bytes c.print_frame.new.text) (flat_map line_bytes (map item_line (left new))) _
        _ same c.loop-item.invariant.passed c.in_err-pass_on_pieces.ensures.err);
    failed = search rules;
    read = search rules;
  };
  clean = search rules;
}

pub loop-item-preserved : goal.loop-item-preserved
loop-item-preserved g c =
    let old = c.loop-item.frames in
    let new = c.next.new.self in
    let finds : Finds old c.in-Ok-item.frame new = rw c.in-Ok-item.is at c.in-Some.ensures.steps in
    let same =
    text_more old new c.in-Ok-item.frame (string_bytes c.loop-item.text) (string_bytes c.print_frame.new.text) _
    finds (rw (← c.offset-end.ensures.value, ← c.loop-item.invariant.start, ← c.ty.ensures)
    c.in_ok-print_frame.ensures) refl in
    record {
      passed = passed_on _ _ _ (string_bytes c.print_frame.new.text) _ (flat_map line_bytes (map item_line (left new)))
          _ _ same c.loop-item.invariant.passed c.in_ok-pass_on_pieces.ensures.ok;
      clean = sym (clean_more old new c.in-Ok-item.frame finds) ∙ c.loop-item.invariant.clean;
      start = c.offset-end.ensures.value;
      failed = c.in_ok-pass_on_pieces.ensures.failed ∙ or-false _ ∙ c.loop-item.invariant.failed;
    }

pub loop-item-smaller : goal.loop-item-smaller
loop-item-smaller g c =
    let old = c.loop-item.frames in
    let new = c.next.new.self in
    let finds : Finds old c.in-Ok-item.frame new = rw c.in-Ok-item.is at c.in-Some.ensures.steps in
    let one = ap length (finds_left old new c.in-Ok-item.frame finds) in
    omega (arith, one)

pub returns-in-Err-item : goal.returns-in-Err-item
returns-in-Err-item g c =
    let old = c.loop-item.frames in
    let new = c.next.new.self in
    let fails : Fails old c.in-Err-item.invalid new = rw c.in-Err-item.is at c.in-Some.ensures.steps in
    let here = fails_left old new c.in-Err-item.invalid fails in
    search rules

pub returns : goal.returns
returns g c =
    let none = spent_left c.loop-item.frames c.in_default.ensures.steps.0 in
    search rules
