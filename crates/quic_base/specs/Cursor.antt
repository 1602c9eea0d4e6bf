-- How contracts see a cursor.
use Rattle.std.specs.Prelude.{ℕ, List, drop}
use Rattle.bytes.specs.Filled.{Filled}

-- a buffer, and how many of its bytes are read
pub record ReadBuffer : Type 0 where
  pub bytes : Filled
  pub position : ℕ

-- what is left
abbrev pub unread : ReadBuffer → List ℕ
unread c = drop c.position c.bytes.items
