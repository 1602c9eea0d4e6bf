-- A length of connection ids as an argument has it.
use Rattle.std.specs.Prelude.{◌≡◌, ◌⊎◌, ℕ, ◌+◌, ◌/◌, ◌%◌, ◌<◌, ◌≤◌, List, [], ◌∷◌}
use Rattle.quic_text.specs.declared.id_len.IdLen.{IdLen}

-- the number of bytes
abbrev pub count : IdLen → ℕ
count len = len.bytes

-- at most 20, in one or two decimal digits
abbrev pub IsIdLen : ℕ → List ℕ → Type 0
IsIdLen n word = (n ≤ 20) × (((n < 10) × (word ≡ (48 + n) ∷ [])) ⊎ (word ≡ (48 + n / 10) ∷ (48 + n % 10) ∷ []))
