-- What an encoder does to a buffer.
use Rattle.std.specs.Prelude.{◌≡◌, ℕ, ◌<◌, List, ◌++◌, length, Result, OnOk, OnErr}
use Rattle.quic_base.specs.Codec.{IsBegun, KeepsRoom}

-- The bytes were appended; or there was too little room, and at most a prefix of them was appended.
pub record Writes {E : Type 0} (result : Result (Unit {0}) E) (bytes written : List ℕ) (spare : ℕ) (written' : List ℕ)
    (spare' : ℕ) : Type 0 where
  pub ok : OnOk result (written' ≡ written ++ bytes)
  pub err : OnErr result (IsBegun written bytes written')
  pub full : OnErr result (spare < length bytes)
  pub room : KeepsRoom written spare written' spare'

-- The same of a buffer.
abbrev pub WritesTo : {W E : Type 0} → (W → List ℕ) → (W → ℕ) → List ℕ → W → W → Result (Unit {0}) E → Type 0
WritesTo contents room bytes old new result = Writes result bytes (contents old) (room old) (contents new) (room new)
