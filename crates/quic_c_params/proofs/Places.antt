-- Lists of parameters by their entries.
use Rattle.std.proofs.Common.{◌≡◌, ℕ, ◌+◌, ◌-◌, List, ◌++◌, length, take, drop, refl, sym, ◌∙◌, ap, subst, arith, length-append, append_assoc}
use Rattle.std.proofs.lemmas.List.{drop_at, take_at}
use Rattle.quic_base.specs.Codec.{Takes}
use Rattle.quic_params.specs.Entry.{IsEntry}
use Rattle.quic_c_params.specs.Lists.{GivesParameter}

-- the byte range of the first entry's value
pub gives_entry : (list value rest : List ℕ) (id : ℕ) → Takes (IsEntry id value) list rest
    → GivesParameter list (record { id = id; value = length list - length rest - length value; value_len = length value })
gives_entry list value rest id t =
    let f = t.is in
    let g = f.second in
    let head : List ℕ = f.front ++ g.front in
    let whole : list ≡ head ++ (value ++ rest) =
    t.split
    ∙ ap (λ l. l ++ rest) (f.whole ∙ ap (λ l. f.front ++ l) (g.whole ∙ ap (λ l. g.front ++ l) g.second)
    ∙ sym (append_assoc f.front g.front value))
    ∙ append_assoc head value rest in
    let long : length list ≡ length head + (length value + length rest) =
    ap length whole ∙ length-append head (value ++ rest) ∙ ap (λ n. length head + n) (length-append value rest) in
    let at : length list - length rest - length value ≡ length head = omega (arith, long) in
    let end : length list - length rest - length value + length value ≡ length (head ++ value) =
    omega (arith, long, length-append head value) in
    let behind : drop (length head) list ≡ value ++ rest =
    ap (drop (length head)) whole ∙ drop_at head (value ++ rest) (length head) refl in
    let is : take (length value) (drop (length list - length rest - length value) list) ≡ value =
    ap (λ n. take (length value) (drop n list)) at ∙ ap (take (length value)) behind
    ∙ take_at value rest (length value) refl in
    let left : drop (length list - length rest - length value + length value) list ≡ rest =
    ap (λ n. drop n list) end ∙ ap (drop (length (head ++ value))) (whole ∙ sym (append_assoc head value rest))
    ∙ drop_at (head ++ value) rest (length (head ++ value)) refl in
    record {
      entry = subst (λ (v : List ℕ). Takes (IsEntry id v) list
          (drop (length list - length rest - length value + length value) list)) (sym is)
          (subst (λ (r : List ℕ). Takes (IsEntry id value) list r) (sym left) t);
      within = omega (arith, long);
    }

-- the entry ends with its value
pub entry_end : (list value rest : List ℕ) (id : ℕ) → Takes (IsEntry id value) list rest
    → length list - length rest - length value + length value ≡ length list - length rest
entry_end list value rest id t =
    let f = t.is in
    let g = f.second in
    let whole : list ≡ (f.front ++ (g.front ++ value)) ++ rest =
    t.split
    ∙ ap (λ l. l ++ rest) (f.whole ∙ ap (λ l. f.front ++ l) (g.whole ∙ ap (λ l. g.front ++ l) g.second)) in
    omega (
      arith,
      ap length whole,
      length-append (f.front ++ (g.front ++ value)) rest,
      length-append f.front (g.front ++ value),
      length-append g.front value,
    )
