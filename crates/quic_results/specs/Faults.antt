-- The first field that is at fault.
use Rattle.std.specs.Prelude.{ℕ, ◌+◌, List, [], ◌∷◌, Bool, Option, None, Some, if◌then◌else◌}

-- the index of the first of these tests that fails
abbrev pub first_false : ℕ → List Bool → Option ℕ
first_false index [] = None
first_false index (holds ∷ others) = if holds then first_false (index + 1) others else Some index
