-- An id is after its length.
use Rattle.std.proofs.Common.{◌≡◌, ℕ, ◌-◌, List, ◌∷◌, drop, length, length-drop, sym, ap, ◌∙◌, arith}
use Rattle.std.proofs.lemmas.List.{take_all}
use Rattle.quic_header_decode.proofs.Scans.{wide_stands}
use Rattle.quic_header_decode.proofs.places.read_id_len.Goals as goal

pub returns-clause-read : goal.returns-clause-read
returns-clause-read c =
    let bytes : List ℕ = c.args.bytes.now in
    let at : ℕ = c.args.at in
    let rest : List ℕ = c.in_ok-len.rest.now in
    let cases = c.in_ok-len.ensures.cases in
    let whole = take_all (length bytes - at) (drop at bytes) (omega (arith, length-drop at bytes)) in
    let split : drop at bytes ≡ c.from-len.result ∷ rest =
    sym whole ∙ cases.0 ∙ ap (λ (n : ℕ). n ∷ rest) (sym c.from-len.ensures) in
    wide_stands bytes at c.from-len.result rest (omega arith) split (omega arith)
