-- What is stored in front leaves what is behind.
use Rattle.std.proofs.Common.{◌≡◌, ℕ, ◌+◌, ◌-◌, ◌≤◌, List, drop, sym, ap, ◌∙◌, arith}
use Rattle.std.proofs.lemmas.List.{drop-drop}

pub stays : (k n : ℕ) (xs ys : List ℕ) → drop k xs ≡ drop k ys → k ≤ n → drop n xs ≡ drop n ys
stays k n xs ys same le =
    let sum : k + (n - k) ≡ n = omega (arith, le) in
    ap (λ (i : ℕ). drop i xs) (sym sum) ∙ sym (drop-drop (n - k) k xs) ∙ ap (drop (n - k)) same ∙ drop-drop (n - k) k ys
    ∙ ap (λ (i : ℕ). drop i ys) sum
