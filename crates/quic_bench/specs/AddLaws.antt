-- The laws of the key that adds one byte to each byte. Proofs are here because an implementation proves its trait's
-- laws only from definitions.
use Rattle.std.specs.Prelude.{◌≡◌, ℕ, ◌+◌, ◌-◌, ◌%◌, ◌<◌, true, List, [], ◌∷◌, ◌++◌, length, map, take, nat_le, nat_eq, ◌&&◌, Some, None, refl}
use Rattle.std.proofs.Common.{cond, suc, sym, ap, ◌∙◌, arith, length-append, get_or}
use Rattle.std.proofs.Math.Seq.{take-append_seam}
use Rattle.std.proofs.lemmas.Bool.Decides.{nat_tests}
use Rattle.std.proofs.lemmas.List.{length-map}
use Rattle.std.specs.Cmp.{nat_eq_equiv}
use Rattle.quic_base.specs.Number.{AreBytes}
use Rattle.quic_bench.specs.Add.{add_byte, take_byte, add_sealed, add_opened}

pub add_sealed_len : (number : ℕ) (header payload : List ℕ)
    → length (add_sealed number header payload) ≡ length payload + 2
add_sealed_len number header payload =
    length-append (map (add_byte (number % 256)) payload) ((length header % 256) ∷ (length payload % 256) ∷ [])
    ∙ ap (λ n. n + 2) (length-map payload (add_byte (number % 256)))

take_added : (low x : ℕ) → low < 256 → x < 256 → take_byte low (add_byte low x) ≡ x
take_added low x l h = omega arith

take_all_added : (low : ℕ) (xs : List ℕ) → low < 256 → AreBytes xs → map (take_byte low) (map (add_byte low) xs) ≡ xs
take_all_added low [] l bytes = refl
take_all_added low (x ∷ xs) l bytes =
    ap (λ y. y ∷ map (take_byte low) (map (add_byte low) xs)) (take_added low x l (bytes 0))
    ∙ ap (λ ys. x ∷ ys) (take_all_added low xs l (λ i. bytes (suc i)))

first_of_end : (ys : List ℕ) (a b : ℕ) → get_or (ys ++ a ∷ b ∷ []) (length ys) 0 ≡ a
first_of_end [] a b = refl
first_of_end (y ∷ ys) a b = first_of_end ys a b

second_of_end : (ys : List ℕ) (a b n : ℕ) → n ≡ suc (length ys) → get_or (ys ++ a ∷ b ∷ []) n 0 ≡ b
second_of_end [] a b n e = rw e
second_of_end (y ∷ ys) a b n e = rw e (second_of_end ys a b (suc (length ys)) refl)

opened_end : (ys : List ℕ) (a b low : ℕ) → b ≡ length ys % 256
    → (let sealed = ys ++ a ∷ b ∷ [] in let at = length sealed - 2 in
    cond (nat_le 2 (length sealed) && nat_eq (get_or sealed at 0) a && nat_eq (get_or sealed (at + 1) 0) (at % 256))
    (Some (map (take_byte low) (take at sealed))) None) ≡ Some (map (take_byte low) ys)
opened_end ys a b low e =
    let sum : length (ys ++ a ∷ b ∷ []) ≡ length ys + 2 = length-append ys (a ∷ b ∷ []) in
    let at : length (ys ++ a ∷ b ∷ []) - 2 ≡ length ys = omega arith in
    let enough : nat_le 2 (length (ys ++ a ∷ b ∷ [])) ≡ true = grind (arith, nat_tests) in
    rw (
      at,
      enough,
      first_of_end ys a b,
      second_of_end ys a b (length ys + 1) (omega arith),
      take-append_seam ys
          (a ∷ b ∷ []),
      e,
      nat_eq_equiv.refl a,
      nat_eq_equiv.refl (length ys % 256),
    )

pub add_opens : (number : ℕ) (header payload : List ℕ) → AreBytes payload
    → add_opened number header (add_sealed number header payload) ≡ Some payload
add_opens number header payload bytes =
    let low = number % 256 in
    opened_end (map (add_byte low) payload) (length header % 256) (length payload % 256) low
    (ap (λ n. n % 256) (sym (length-map payload (add_byte low))))
    ∙ ap (λ ys. Some ys) (take_all_added low payload (omega arith) bytes)
