-- The number at the front of a list, as a function: what readers compute. The grammar is in `Varint`.
use Rattle.std.specs.Prelude.{◌≡◌, ℕ, Result, Ok, Err, ◌+◌, ◌-◌, ◌*◌, ◌/◌, ◌%◌, ◌^◌, List, [], ◌∷◌, length, take, drop, nat_lt, Option, None, Some, if◌then◌else◌}
use Rattle.quic_base.specs.Number.{num}

-- one step of reading, and then the next if the first one succeeded
infixl 10 ◌>>=◌
abbrev pub ◌>>=◌ : {A B E : Type 0} → Result A E → (A → Result B E) → Result B E
(Ok x) >>= f = f x
(Err e) >>= f = Err e

-- the number that a varint at the front encodes, and what follows it, if there is one
unfoldable pub number_at : List ℕ → Option (ℕ × List ℕ)
number_at [] = None
number_at (b ∷ bs) =
    let more = 2 ^ (b / 64) - 1 in
    if nat_lt (length bs) more then None else Some (b % 64 * 256 ^ more + num (take more bs), drop more bs)

-- what a reading call returned, seen through view, is what the list begins with
abbrev pub Finds : {X Y E : Type 0} → (X → Y) → Result X E → Option Y → Type 0
Finds view (Ok x) found = found ≡ Some (view x)
Finds view (Err e) found = found ≡ None
