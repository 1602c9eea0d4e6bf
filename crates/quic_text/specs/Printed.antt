-- The lines that the program prints.
use Rattle.std.specs.Prelude.{Bool, true, false, List, ◌++◌, ℕ, codes}

-- A line that is printed: a plain one, or an `error` line with what follows `error`.
pub data Printed : Type 0 where
  Plain : List ℕ → Printed
  Error : List ℕ → Printed

-- the bytes of a printed line
abbrev pub line_bytes : Printed → List ℕ
line_bytes (Plain text) = text ++ codes "\n"
line_bytes (Error text) = codes "error " ++ text ++ codes "\n"

-- whether it is no `error` line
abbrev pub is_plain : Printed → Bool
is_plain (Plain text) = true
is_plain (Error text) = false
