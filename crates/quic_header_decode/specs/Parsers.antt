-- Parsers of the ids of short headers. A proof is here because an implementation proves its trait's laws only from
-- definitions.
use Rattle.std.specs.Prelude.{◌≡◌, ◌≢◌, ℕ, ◌≤◌, List, length, take, Result, Ok, Err, MatchResult, nat_lt, if◌then◌else◌, codes}
use Rattle.std.proofs.Common.{cond, Bool, true, false, arith, refl}
use Rattle.std.proofs.lemmas.Bool.Decides.{nat_tests}
use Rattle.quic_header_decode.specs.declared.parser.FixedLengthConnectionIdParser.{FixedLengthConnectionIdParser}
use Rattle.quic_header_decode.specs.Refusal.{Refusal, Invalid, NoMemory}

-- how many bytes each id has
abbrev pub id_len : FixedLengthConnectionIdParser → ℕ
id_len parser = parser.expected_len

-- that many bytes
abbrev pub fixed_parsed : ℕ → List ℕ → Result (List ℕ × ℕ) Refusal
fixed_parsed len bytes = if nat_lt (length bytes) len then Err (Invalid (codes "packet too small"))
    else Ok (take len bytes, len)

fixed_cases : (b : Bool) (len : ℕ) (bytes text : List ℕ) → (b ≡ false → len ≤ length bytes)
    → MatchResult (cond {A = Result (List ℕ × ℕ) Refusal} b (Err (Invalid text)) (Ok (take len bytes, len)))
    (λ x. x.1 ≤ length bytes) (λ e. e ≢ NoMemory)
fixed_cases true len bytes text h = λ e. cc
fixed_cases false len bytes text h = h refl

pub fixed_lawful : (len : ℕ) (bytes : List ℕ)
    → MatchResult (fixed_parsed len bytes) (λ x. x.1 ≤ length bytes) (λ e. e ≢ NoMemory)
fixed_lawful len bytes = fixed_cases (nat_lt (length bytes) len) len bytes (codes "packet too small")
    (λ e. grind (arith, nat_tests))
