-- How clauses see an iterator over a payload.
use Rattle.std.specs.Prelude.{ℕ, List, Option, Bool}

-- whether a type must be in its shortest encoding, the payload, the end of the last whole frame, the last type that was
-- read, and whether an invalid frame was met
pub record IterState : Type 0 where
  pub strict : Bool
  pub payload : List ℕ
  pub offset : ℕ
  pub last : Option ℕ
  pub is_broken : Bool
