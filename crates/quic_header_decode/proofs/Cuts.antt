-- A datagram is cut where its header says.
use Rattle.std.proofs.Common.{◌≡◌, ℕ, ◌+◌, ◌-◌, ◌≤◌, List, length, take, drop, false, cond, Result, Ok, Err, sym, ap, ◌∙◌, arith, nat_lt}
use Rattle.std.specs.Prelude.{unwrap_or, codes, slice_range}
use Rattle.std.proofs.lemmas.Slice.{between_is}
use Rattle.std.proofs.lemmas.List.{length-drop, take-take}
use Rattle.std.proofs.lemmas.Bool.Decides.{nat_tests}
use Rattle.quic_header_decode.specs.declared.protected.ProtectedHeader.{ProtectedHeader}
use Rattle.quic_header_decode.specs.Refusal.{Refusal, Invalid}
use Rattle.quic_header_decode.specs.Reading.{DecodeOptions, header_at, cut_at, len_in}

fits : (h : ProtectedHeader) (e : Refusal) (whole left len at : ℕ) → at + left ≡ whole → len ≤ left
    → cond {A = Result (ProtectedHeader × ℕ × ℕ) Refusal} (nat_lt left len) (Err e)
    (Ok (h, whole - left, whole - left + len)) ≡ Ok (h, at, at + len)
fits h e whole left len at sum le =
    let test : nat_lt left len ≡ false = grind (arith, nat_tests) in
    let place : whole - left ≡ at = omega arith in
    rw (test, place)

-- what a cursor read is what the datagram begins with
pub header_read : (options : DecodeOptions) (bytes before after : List ℕ) (start stop : ℕ) (h : ProtectedHeader)
    → before ≡ bytes → start ≡ 0 → after ≡ before
    → header_at options (length before) (drop start before) ≡ Ok (h, drop stop after)
    → header_at options (length bytes) bytes ≡ Ok (h, drop stop bytes)
header_read options bytes before after start stop h whole at_front kept read =
    let shown : header_at options (length bytes) bytes ≡ header_at options (length before) (drop start before) =
    rw (whole, at_front) in
    shown ∙ read
    ∙ ap (λ (xs : List ℕ). let r : Result (ProtectedHeader × List ℕ) Refusal = Ok (h, drop stop xs) in r) (kept ∙ whole)

pub cut_read : (options : DecodeOptions) (bytes : List ℕ) (stop remaining len : ℕ) (h : ProtectedHeader)
    → header_at options (length bytes) bytes ≡ Ok (h, drop stop bytes)
    → stop + remaining ≡ length bytes → len ≡ unwrap_or (len_in h) remaining → len ≤ remaining
    → cut_at options bytes ≡ Ok (h, stop, stop + len)
unfolding cut_at
cut_read options bytes stop remaining len h read sum len_is le =
    let left : length (drop stop bytes) ≡ remaining = omega (arith, length-drop stop bytes) in
    rw (read, left, ← len_is) (fits h (Invalid (codes "packet too short to contain payload length")) (length bytes) remaining len stop sum le)

-- a part of a front is that part of the whole
pub between-take : (xs : List ℕ) (i j n : ℕ) → j ≤ n → slice_range (take n xs) i j ≡ slice_range xs i j
between-take xs i j n le = between_is (take n xs) i j ∙ ap (drop i) (take-take j n xs le) ∙ sym (between_is xs i j)

-- the same cut, with equal offsets
pub cut_shown : (h : ProtectedHeader) (p a q b : ℕ) → p ≡ a → q ≡ b
    → (let r : Result (ProtectedHeader × ℕ × ℕ) Refusal = Ok (h, p, q) in r) ≡ Ok (h, a, b)
cut_shown h p a q b e f =
    ap (λ (n : ℕ). let r : Result (ProtectedHeader × ℕ × ℕ) Refusal = Ok (h, n, q) in r) e
    ∙ ap (λ (n : ℕ). let r : Result (ProtectedHeader × ℕ × ℕ) Refusal = Ok (h, a, n) in r) f
