-- A run over an input of one line.
use Rattle.std.specs.Prelude.{◌≡◌, ℕ, Bool, List, [], ◌∷◌, ◌++◌, Ok}
use Rattle.std.proofs.Common.{sym, ap, ◌∙◌, append-nil}
use Rattle.std.proofs.lemmas.List.{append_cancel_left}
use Rattle.std.specs.List.{flat_map}
use Rattle.hex.specs.Hex.{decode_of}
use Rattle.quic_text.specs.declared.mode.Mode.{Mode}
use Rattle.quic_text.specs.Lines.{lines_of, without_return}
use Rattle.quic_text.specs.Printed.{Printed, line_bytes}
use Rattle.quic_text.specs.Text.{decoded_lines, line_lines, payload_lines, printed, text_of}
use Rattle.quic_text.specs.Whole.{WritesText}
use Rattle.quic_bench.specs.Lines.{Prints}

one_line : (mode : Mode) (bytes input line : List ℕ) (lines : List Printed) → lines_of input ≡ line ∷ []
    → decode_of (without_return line) ≡ Ok bytes
    → payload_lines mode bytes ≡ lines
    → printed mode input ≡ lines
one_line mode bytes input line lines one encoded are =
    ap (flat_map (line_lines mode)) one ∙ append-nil (line_lines mode line) ∙ ap (decoded_lines mode) encoded ∙ are

pub prints : (mode : Mode) (bytes : List ℕ) (lines : List Printed) (given given' taken taken' : List ℕ) (clean : Bool)
    → WritesText mode given given' taken taken' clean
    → payload_lines mode bytes ≡ lines → Prints bytes lines given given' taken taken'
prints mode bytes lines given given' taken taken' clean it are = λ input line read one encoded.
    let same : it.input ≡ input = append_cancel_left given it.input input (sym it.read ∙ read) in
    it.written ∙ ap (λ (x : List ℕ). taken ++ text_of mode x) same
    ∙ ap (λ (x : List Printed). taken ++ flat_map line_bytes x) (one_line mode bytes input line lines one encoded are)
