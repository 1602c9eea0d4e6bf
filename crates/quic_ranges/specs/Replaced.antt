-- What a `RangeSet` is once the borrow by a `Replace` ends, and which ranges a `Replace` hasn't returned yet.
use Rattle.std.specs.Prelude.{⊤, List, ℕ}
use Rattle.std.specs.Borrow.{follows_so, MutBor, Fml}
use Rattle.std.specs.Slice.Iter.{iter_rest}
use Rattle.std.specs.declared.ops.Range.{Range}
use mathlib.Core.Option.{none}
use Rattle.quic_ranges.specs.declared.range_set.vec_range_set.RangeSet.{RangeSet}
use Rattle.quic_ranges.specs.declared.range_set.vec_range_set.Replace.{Replace}
use Rattle.quic_ranges.specs.contracts.range_set.vec_range_set.RangeSet.{the_row}

-- P holds of the set in the `&mut` s once the result's borrow of it ends
abbrev pub Ends : MutBor RangeSet → (RangeSet → Type 0) → Fml
Ends s P = follows_so the_row the_row s.ghost_name none (λ _ _. ⊤) P

-- the ranges that it hasn't returned yet
abbrev pub intersections_left : Replace → List (Range ℕ)
intersections_left r = iter_rest r.intersections
