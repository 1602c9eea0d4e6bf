-- A value that exists exactly once, and the call that returned it.
use Rattle.std.specs.Prelude.{◌≡◌}

-- Exactly one value satisfies Is.
pub record ExactlyOne {A : Type 0} (Is : A → Type 0) : Type 0 where
  pub it : A
  pub is : Is it
  pub only : (other : A) → Is other → other ≡ it

-- Exactly one value satisfies Is, and it was returned.
pub record ReturnsOne {A : Type 0} (Is IsReturned : A → Type 0) : Type 0 where
  pub one : ExactlyOne Is
  pub returned : IsReturned one.it
