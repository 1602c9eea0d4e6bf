-- What the parsers of ids of this crate accept. Proofs are here because an implementation proves its trait's laws from
-- definitions only.
use Rattle.std.specs.Prelude.{◌≡◌, ◌≢◌, ℕ, ◌+◌, ◌≤◌, List, [], ◌∷◌, length, take, Result, Ok, Err, MatchResult, nat_lt, ◌==◌, ◌||◌, if◌then◌else◌, codes}
use Rattle.std.proofs.Common.{cond, Bool, true, false, arith, refl}
use Rattle.std.proofs.lemmas.Bool.Decides.{nat_tests}
use Rattle.quic_header_decode.specs.Refusal.{Refusal, Invalid, NoMemory}

-- a result is of no more bytes than there are, and is never that memory ran out
abbrev pub IsLawfulParser : List ℕ → Result (List ℕ × ℕ) Refusal → Type 0
IsLawfulParser bytes answer = MatchResult answer (λ x. x.1 ≤ length bytes) (λ e. e ≢ NoMemory)

-- no bytes are an id
abbrev pub none_parsed : List ℕ → Result (List ℕ × ℕ) Refusal
none_parsed bytes = Ok ([], 0)

pub none_lawful : (bytes : List ℕ) → IsLawfulParser bytes (none_parsed bytes)
none_lawful bytes = omega arith

-- the first byte is how many bytes the id has, 1 to 20, itself among them
abbrev pub self_sized_parsed : List ℕ → Result (List ℕ × ℕ) Refusal
self_sized_parsed [] = Err (Invalid (codes "bad id"))
self_sized_parsed (size ∷ rest) =
    if (size == 0) || nat_lt 20 size || nat_lt (length rest + 1) size then Err (Invalid (codes "bad id"))
    else Ok (take size (size ∷ rest), size)

self_sized_cases : (bad : Bool) (size : ℕ) (rest text : List ℕ) → (bad ≡ false → size ≤ length (size ∷ rest))
    → IsLawfulParser (size ∷ rest) (cond {A = Result (List ℕ × ℕ) Refusal} bad (Err (Invalid text))
    (Ok (take size (size ∷ rest), size)))
self_sized_cases true size rest text h = λ e. cc
self_sized_cases false size rest text h = h refl

pub self_sized_lawful : (bytes : List ℕ) → IsLawfulParser bytes (self_sized_parsed bytes)
self_sized_lawful [] = λ e. cc
self_sized_lawful (size ∷ rest) =
    self_sized_cases ((size == 0) || nat_lt 20 size || nat_lt (length rest + 1) size) size rest (codes "bad id")
    (λ e. grind (arith, nat_tests))
