-- Writes at the end of a list.
use Rattle.std.proofs.Common.{◌≡◌, ℕ, ◌+◌, ◌-◌, ◌≤◌, List, [], ◌++◌, length, take, drop, ap, ◌∙◌, arith, append_assoc, append-nil}
use Rattle.std.proofs.lemmas.Slice.{take-put_mid}
use Rattle.std.proofs.Math.ListN.{drop_of_length-le}
use Rattle.std.proofs.lemmas.List.{length-drop, length-append, length-take}
use borrow.Rule.Slice.PartMut.{put_mid}

-- a middle part that is written, and then two bytes at the end
pub put_mid-then_end : (xs ys tag : List ℕ) (h : ℕ) → h + 2 ≤ length xs → length ys ≡ length xs - 2 - h
    → put_mid (length xs - 2) (length (put_mid h (length xs - 2 - h) xs ys) - (length xs - 2))
    (put_mid h (length xs - 2 - h) xs ys) tag ≡ take h xs ++ (ys ++ tag)
put_mid-then_end xs ys tag h room long =
    let at : ℕ = length xs - 2 in
    let mid = put_mid h (at - h) xs ys in
    let k : ℕ = length mid - at in
    let len : length mid ≤ length xs =
    omega (
      arith,
      length-append (take h xs) (ys ++ drop (at - h) (drop h xs)),
      length-append ys (drop (at - h) (drop h xs)),
      length-take h xs,
      length-drop (at - h) (drop h xs),
      length-drop h xs,
    ) in
    let none : drop k (drop at mid) ≡ [] = drop_of_length-le (drop at mid) (omega (arith, length-drop at mid)) in
    ap (λ (front : List ℕ). front ++ (tag ++ drop k (drop at mid))) (take-put_mid h (at - h) xs ys at (omega arith) (omega arith))
    ∙ ap (λ (rest : List ℕ). (take h xs ++ ys) ++ (tag ++ rest)) none
    ∙ ap (λ (end : List ℕ). (take h xs ++ ys) ++ end) (append-nil tag) ∙ append_assoc (take h xs) ys tag
