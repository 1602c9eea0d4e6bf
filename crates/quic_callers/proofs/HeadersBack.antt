-- Packets that are cut from equal bytes.
use Rattle.std.specs.Prelude.{◌≡◌, ℕ, ◌+◌, ◌≤◌, List, ◌++◌, length, take, drop, Option, Some, None, Result, Ok, IfSome, MatchOption}
use Rattle.std.proofs.Common.{sym, ap, ◌∙◌, refl, subst, length-append}
use Rattle.std.proofs.lemmas.List.{take-append-drop}
use Rattle.quic_header_decode.specs.declared.protected.ProtectedHeader.{ProtectedHeader}
use Rattle.quic_header_decode.specs.Grammar.{HeaderAt, Cut, CutAnswer}
use Rattle.quic_header_decode.specs.Reading.{DecodeOptions, len_in}
use Rattle.quic_header_decode.specs.Refusal.{Refusal}

ok_same : (one other : ProtectedHeader × ℕ × ℕ)
    → (let r : Result (ProtectedHeader × ℕ × ℕ) Refusal = Ok one in r) ≡ Ok other → one ≡ other
ok_same one other same = cc

-- if such a packet was cut, it is this one
pub is_alone : (h got : ProtectedHeader) (p end p' len : ℕ)
    → (let r : Result (ProtectedHeader × ℕ × ℕ) Refusal = Ok (h, p, end) in r) ≡ Ok (got, p', len)
    → (got ≡ h) × (len ≡ end)
is_alone h got p end p' len same =
    let parts = ok_same (h, p, end) (got, p', len) same in
    (sym (ap (λ x. x.0) parts), sym (ap (λ x. x.2) parts))

-- equal bytes are cut to packets of one length
pub as_long : (context : DecodeOptions) (bytes : List ℕ) (one other : ℕ)
    → ((a b : Result (ProtectedHeader × ℕ × ℕ) Refusal) → CutAnswer context bytes a → CutAnswer context bytes b → a ≡ b)
    → (h : ProtectedHeader) × (end : ℕ) × Cut context bytes h end one
    → (h : ProtectedHeader) × (end : ℕ) × Cut context bytes h end other → one ≡ other
as_long context bytes one other same a b =
    (is_alone b.0 a.0 b.1 other a.1 one (same (Ok (b.0, b.1, other)) (Ok (a.0, a.1, one)) b.2 a.2)).1

-- a datagram whose first bytes are known begins with the header that these are
pub begins : (context : DecodeOptions) (bytes front : List ℕ) (n : ℕ) (h : ProtectedHeader) → take n bytes ≡ front
    → length front ≡ n
    → HeaderAt context (n + length (drop n bytes)) (front ++ drop n bytes) h (drop n bytes)
    → (n + length (drop n bytes) ≡ length bytes) × HeaderAt context (length bytes) bytes h (drop n bytes)
begins context bytes front n h is long head =
    let parts : front ++ drop n bytes ≡ bytes =
    ap (λ (xs : List ℕ). xs ++ drop n bytes) (sym is) ∙ take-append-drop n bytes in
    let whole : n + length (drop n bytes) ≡ length bytes =
    ap (λ (k : ℕ). k + length (drop n bytes)) (sym long) ∙ sym (length-append front (drop n bytes))
    ∙ ap length parts in
    let there = subst (λ (xs : List ℕ). HeaderAt context (n + length (drop n bytes)) xs h (drop n bytes)) parts head in
    (whole, subst (λ (k : ℕ). HeaderAt context k bytes h (drop n bytes)) whole there)

-- if a header says how long the packet is, a packet that was cut is as long as that
pub says_len : (context : DecodeOptions) (bytes : List ℕ) (n len : ℕ) (h : ProtectedHeader) (found : Option ℕ)
    → ((a b : Result (ProtectedHeader × ℕ × ℕ) Refusal) → CutAnswer context bytes a → CutAnswer context bytes b → a ≡ b)
    → n + length (drop n bytes) ≡ length bytes → HeaderAt context (length bytes) bytes h (drop n bytes)
    → len_in h ≡ Some len → n + len ≤ length bytes
    → IfSome found (λ k. (h' : ProtectedHeader) × (end : ℕ) × Cut context bytes h' end k)
    → IfSome found (λ k. k ≡ n + len)
says_len context bytes n len h None same whole head says fits cut = tt
says_len context bytes n len h (Some k) same whole head says fits cut =
    let end : MatchOption (len_in h) (n + len ≡ length bytes) (λ l. n + len ≡ n + l) =
    subst (λ (o : Option ℕ). MatchOption o (n + len ≡ length bytes) (λ l. n + len ≡ n + l)) (sym says) refl in
    as_long context bytes k (n + len) same cut (h, n, (drop n bytes, head, whole, end, fits))
