-- A packet is cut and its line printed, until nothing is left or what is left is rejected.
use Rattle.std.proofs.Common.{rules, ◌≡◌, ◌+◌, ◌<◌, ◌++◌, ℕ, List, [], length, drop, refl, sym, ap, ◌∙◌, arith, subst, length-drop}
use Rattle.std.proofs.Math.Bool.{or-false}
use Rattle.std.specs.String.{string_bytes}
use Rattle.std.specs.List.{flat_map}
use Rattle.quic_text.specs.Printed.{line_bytes}
use Rattle.quic_base.specs.Number.{AreBytes}
use Rattle.quic_header_decode.specs.Grammar.{Cut, Uncut}
use Rattle.quic_header_decode.specs.Reading.{left_of, IsRest}
use Rattle.quic_header_decode.specs.Refusal.{refusal_of}
use Rattle.quic_header_decode.proofs.CutAnswers.{cut_rest, is_rest, is_uncut}
use Rattle.quic_text.specs.IdLens.{count}
use Rattle.quic_text.specs.DatagramText.{with_ids_of, datagram_lines}
use Rattle.quic_text.specs.Whole.{AppendsAllBut}
use Rattle.quic_text.proofs.PassingLemmas.{nothing_passed, on_err}
use Rattle.quic_text.proofs.DatagramLines.{Waits, LeadsClean, rest_fits, waits_less, waits_begun, waits_broken, text_first, clean_first, text_more, clean_more, text_last, clean_last, text_refused, clean_refused}
use Rattle.quic_text.proofs.print.datagram.print_datagram.Goals as goal

pub loop-left-init : goal.loop-left-init
loop-left-init g c =
    let fits : AreBytes c.args.datagram.now = λ i. (c.type_inv.datagram i).fits in
    let len : count c.args.id_len ≡ c.new-parser.result.expected_len =
    sym (c.new-parser.ensures ∙ c.get.ensures.value) in
    let same : c.in_ok-left.left.items ≡ c.args.datagram.now = c.in_ok-left.ensures in
    let all : List ℕ =
    string_bytes c.args.text.now ++ flat_map line_bytes (datagram_lines (count c.args.id_len) c.args.datagram.now) in
    let taken : List ℕ = g.W.Sink.taken c.args.sink.now in
    record {
      passed = subst (λ (n : ℕ). Waits n 0 c.in_ok-left.left.items taken taken (string_bytes c.args.text.now) all) len
          (text_first (count c.args.id_len) c.args.datagram.now c.in_ok-left.left.items (string_bytes c.args.text.now)
          (λ waits. AppendsAllBut taken taken waits all) fits same (nothing_passed taken all));
      clean = subst (λ (n : ℕ). LeadsClean (with_ids_of n) 0 c.in_ok-left.left.items
          (datagram_lines (count c.args.id_len) c.args.datagram.now)) len
          (clean_first (count c.args.id_len) c.args.datagram.now c.in_ok-left.left.items fits same);
      within = omega (arith, ap length same);
      fits = subst AreBytes (sym same) fits;
      failed = refl;
    }

pub returns-in_err-pass_on_pieces : goal.returns-in_err-pass_on_pieces
returns-in_err-pass_on_pieces g c =
    let begun = on_err c.from_residual-in_err-pass_on_pieces.result
    (waits_broken c.new-parser.result.expected_len c.loop-left.start c.loop-left.left.items _ _ _
    (string_bytes c.loop-left.text) _ c.loop-left.invariant.fits c.loop-left.invariant.passed
    c.in_err-pass_on_pieces.ensures.err) in
    search rules

pub returns-in_err-print_packet-in-Ok : goal.returns-in_err-print_packet-in-Ok
returns-in_err-print_packet-in-Ok g c =
    let begun = on_err c.from_residual-in_err-print_packet-in-Ok.result
    (waits_begun c.new-parser.result.expected_len c.loop-left.start c.loop-left.left.items _ _
    (string_bytes c.pass_on_pieces.new.text) _ c.loop-left.invariant.fits
    (waits_less c.new-parser.result.expected_len c.loop-left.start c.loop-left.left.items _ _ _
    (string_bytes c.loop-left.text) _ _ c.loop-left.invariant.passed c.in_ok-pass_on_pieces.ensures.ok)) in
    search rules

pub returns-in-None : goal.returns-in-None
returns-in-None g c =
    let q : ℕ = length c.in-Ok.packet.bytes in
    let left : List ℕ = c.loop-left.left.items in
    let cut : Cut (with_ids_of c.new-parser.result.expected_len) left c.in-Ok.packet.head c.in-Ok.packet.header_end q =
    c.in-Ok.ensures.cut.cut in
    let after : left_of c.in-Ok.rest ≡ drop q left =
    cut_rest {options = with_ids_of c.new-parser.result.expected_len} {bytes = left} {packet = c.in-Ok.packet}
    {rest = left_of c.in-Ok.rest} c.in-Ok.ensures.cut in
    let none : drop q left ≡ [] = sym (rw c.in-None.is at after) in
    let waits = text_last (with_ids_of c.new-parser.result.expected_len) c.loop-left.start
    (c.loop-left.start + c.len.result) q c.in-Ok.packet.header_end left (string_bytes c.pass_on_pieces.new.text)
    (string_bytes c.print_packet.new.text)
    (λ waits. AppendsAllBut (g.W.Sink.taken c.args.sink.now) (g.W.Sink.taken c.pass_on_pieces.new.sink) waits
    (string_bytes c.args.text.now ++ flat_map line_bytes
    (datagram_lines (count c.args.id_len) c.args.datagram.now)))
    c.in-Ok.packet.head cut none (ap (λ (n : ℕ). c.loop-left.start + n) c.len.ensures)
    (rw c.header.ensures at c.in_ok-print_packet-in-Ok.ensures)
    (waits_less c.new-parser.result.expected_len c.loop-left.start c.loop-left.left.items _ _ _
    (string_bytes c.loop-left.text) _ _ c.loop-left.invariant.passed c.in_ok-pass_on_pieces.ensures.ok) in
    let plain =
    clean_last (with_ids_of c.new-parser.result.expected_len) c.loop-left.start q c.in-Ok.packet.header_end left
    (datagram_lines (count c.args.id_len) c.args.datagram.now) c.in-Ok.packet.head cut none
    c.loop-left.invariant.clean in
    search rules

pub loop-left-preserved : goal.loop-left-preserved
loop-left-preserved g c =
    let q : ℕ = length c.in-Ok.packet.bytes in
    let left : List ℕ = c.loop-left.left.items in
    let cut : Cut (with_ids_of c.new-parser.result.expected_len) left c.in-Ok.packet.head c.in-Ok.packet.header_end q =
    c.in-Ok.ensures.cut.cut in
    let stop : ℕ = c.loop-left.start + c.len.result in
    let after : left_of c.in-Ok.rest ≡ drop q left =
    cut_rest {options = with_ids_of c.new-parser.result.expected_len} {bytes = left} {packet = c.in-Ok.packet}
    {rest = left_of c.in-Ok.rest} c.in-Ok.ensures.cut in
    let follows : IsRest c.in-Ok.rest (drop q left) = is_rest c.in-Ok.rest c.in-Ok.ensures.rest after in
    let rest : (c.in-Some.rest.items ≡ drop q left) × (0 < length (drop q left)) = rw c.in-Some.is at follows in
    let lt : q < length left = omega (arith, rest.1, length-drop q left) in
    let at : stop ≡ c.loop-left.start + q = ap (λ (n : ℕ). c.loop-left.start + n) c.len.ensures in
    record {
      passed = text_more (with_ids_of c.new-parser.result.expected_len) c.loop-left.start stop q
          c.in-Ok.packet.header_end left c.in-Some.rest.items (string_bytes c.pass_on_pieces.new.text)
          (string_bytes c.print_packet.new.text)
          (λ waits. AppendsAllBut (g.W.Sink.taken c.args.sink.now) (g.W.Sink.taken c.pass_on_pieces.new.sink) waits
          (string_bytes c.args.text.now ++ flat_map line_bytes
          (datagram_lines (count c.args.id_len) c.args.datagram.now)))
          c.in-Ok.packet.head cut lt rest.0 at (rw c.header.ensures at c.in_ok-print_packet-in-Ok.ensures)
          (waits_less c.new-parser.result.expected_len c.loop-left.start c.loop-left.left.items _ _ _
          (string_bytes c.loop-left.text) _ _ c.loop-left.invariant.passed c.in_ok-pass_on_pieces.ensures.ok);
      clean = clean_more (with_ids_of c.new-parser.result.expected_len) c.loop-left.start stop q
          c.in-Ok.packet.header_end left c.in-Some.rest.items (datagram_lines (count c.args.id_len) c.args.datagram.now)
          c.in-Ok.packet.head cut lt rest.0 at c.loop-left.invariant.clean;
      within = omega (arith, ap length rest.0, length-drop q left, c.loop-left.invariant.within, at, lt);
      fits = rest_fits q left c.in-Some.rest.items rest.0 c.loop-left.invariant.fits;
      failed = c.in_ok-pass_on_pieces.ensures.failed ∙ or-false _ ∙ c.loop-left.invariant.failed;
    }

pub returns-in_err-print_refusal-in-Err : goal.returns-in_err-print_refusal-in-Err
returns-in_err-print_refusal-in-Err g c =
    let begun = on_err c.from_residual-in_err-print_refusal-in-Err.result
    (waits_begun c.new-parser.result.expected_len c.loop-left.start c.loop-left.left.items _ _
    (string_bytes c.pass_on_pieces.new.text) _ c.loop-left.invariant.fits
    (waits_less c.new-parser.result.expected_len c.loop-left.start c.loop-left.left.items _ _ _
    (string_bytes c.loop-left.text) _ _ c.loop-left.invariant.passed c.in_ok-pass_on_pieces.ensures.ok)) in
    search rules

pub returns-in-Err : goal.returns-in-Err
returns-in-Err g c =
    let left : List ℕ = c.loop-left.left.items in
    let uncut : Uncut (with_ids_of c.new-parser.result.expected_len) left (refusal_of c.in-Err.error) =
    is_uncut _ _ left c.in-Err.error c.in-Err.ensures.refused c.in_ok-print_refusal-in-Err.ensures.memory in
    let waits = text_refused (with_ids_of c.new-parser.result.expected_len) c.loop-left.start left
    (string_bytes c.pass_on_pieces.new.text) (string_bytes c.print_refusal.new.text)
    (λ waits. AppendsAllBut (g.W.Sink.taken c.args.sink.now) (g.W.Sink.taken c.pass_on_pieces.new.sink) waits
    (string_bytes c.args.text.now ++ flat_map line_bytes
    (datagram_lines (count c.args.id_len) c.args.datagram.now)))
    (refusal_of c.in-Err.error) uncut c.in_ok-print_refusal-in-Err.ensures.bytes
    (waits_less c.new-parser.result.expected_len c.loop-left.start c.loop-left.left.items _ _ _
    (string_bytes c.loop-left.text) _ _ c.loop-left.invariant.passed c.in_ok-pass_on_pieces.ensures.ok) in
    let plain =
    clean_refused (with_ids_of c.new-parser.result.expected_len) c.loop-left.start left
    (datagram_lines (count c.args.id_len) c.args.datagram.now) (refusal_of c.in-Err.error) uncut
    c.loop-left.invariant.clean in
    search rules
