-- Types of frames inside frames (RFC 9000, section 19.19).
use Rattle.std.specs.Prelude.{ℕ, Option, None, Some}

-- a frame type, 0 if there is none
abbrev pub type_or_zero : Option ℕ → ℕ
type_or_zero None = 0
type_or_zero (Some ty) = ty
