-- What is made of bytes and a token is a stateless reset.
use Rattle.std.proofs.Common.{◌≡◌, ℕ, ◌+◌, ◌-◌, ◌%◌, ◌≤◌, List, [], ◌∷◌, ◌++◌, length, drop, ap, ◌∙◌, arith}
use Rattle.std.proofs.lemmas.List.{drop_at, length-append}
use Rattle.std.specs.Prelude.{slice_index}
use Rattle.quic_resets.specs.Resets.{IsReset, IsShortHeader}

pub made : (first : ℕ) (rest token datagram : List ℕ) → length token ≡ 16 → 4 ≤ length rest
    → datagram ≡ (0x40 + first % 0x40) ∷ (rest ++ token) → IsReset token datagram
made first rest token datagram width long is =
    let front : List ℕ = (0x40 + first % 0x40) ∷ rest in
    let size : length datagram ≡ length front + 16 = omega (arith, ap length is, length-append front token, width) in record {
      long = omega (arith, size, long);
      ends = ap (λ (xs : List ℕ). drop (length datagram - 16) xs) is ∙ drop_at front token (length datagram - 16) (omega (arith, size));
    }

pub short : (first : ℕ) (rest datagram : List ℕ) → datagram ≡ (0x40 + first % 0x40) ∷ rest → IsShortHeader datagram
short first rest datagram is =
    let at : slice_index datagram 0 ≡ 0x40 + first % 0x40 = ap (λ (xs : List ℕ). slice_index xs 0) is in
    record { form = omega (arith, at); fixed = omega (arith, at) }

-- its parts, one after another
pub whole : (first : ℕ) (rest token last one two three : List ℕ) → one ≡ (0x40 + first % 0x40) ∷ [] → two ≡ one ++ rest
    → last ≡ token → three ≡ two ++ last → three ≡ (0x40 + first % 0x40) ∷ (rest ++ token)
whole first rest token last one two three a b e f =
    f ∙ ap (λ (xs : List ℕ). two ++ xs) e ∙ ap (λ (xs : List ℕ). xs ++ token) (b ∙ ap (λ (xs : List ℕ). xs ++ rest) a)
