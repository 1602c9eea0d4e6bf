-- The two ends of a list cover it, and a copy of them over zeros is the list with zeros after it.
use Rattle.std.proofs.Common.{◌≡◌, ℕ, ◌+◌, ◌-◌, ◌≤◌, List, ◌++◌, length, take, drop, refl, sym, ap, ◌∙◌, arith}
use Rattle.std.specs.List.{between}
use Rattle.std.specs.Prelude.{replicate}
use Rattle.std.proofs.lemmas.List.{append_assoc, drop-drop, drop-replicate, drop_at, length-drop, length-replicate, length-append, length-take-le, take-append-drop, take-append-le, take-take, take_at}
use Rattle.std.proofs.lemmas.Slice.{between_to_end, drop-append-drop}
use Rattle.quic_base.specs.ConnectionId.{IsPadded}
use borrow.Rule.Slice.PartMut.{put_mid}

-- xs from m on, written over a list that begins with the first k of xs
second : (k m n : ℕ) (xs to : List ℕ) → n ≡ length xs → m + k ≡ n → n ≤ k + k
    → put_mid m (n - m) (take k xs ++ drop k to) (drop m xs) ≡ xs ++ drop n to
second k m n xs to is sum covers =
    let count : length (take k xs) ≡ k = length-take-le k xs (omega (arith, is, sum)) in
    let front : take m (take k xs ++ drop k to) ≡ take m xs =
    take-append-le m (take k xs) (drop k to) (omega (arith, count, sum, covers))
    ∙ take-take m k xs (omega (arith, sum, covers)) in
    let back : drop (n - m) (drop m (take k xs ++ drop k to)) ≡ drop n to =
    drop-drop (n - m) m (take k xs ++ drop k to)
    ∙ ap (λ (i : ℕ). drop i (take k xs ++ drop k to)) (let e : m + (n - m) ≡ n = omega (arith, sum) in e)
    ∙ drop-append-drop k to (take k xs) n (omega (arith, sum)) count in
    ap (λ (ys : List ℕ). ys ++ (drop m xs ++ drop (n - m) (drop m (take k xs ++ drop k to)))) front
    ∙ ap (λ (ys : List ℕ). take m xs ++ (drop m xs ++ ys)) back
    ∙ sym (append_assoc (take m xs) (drop m xs) (drop n to))
    ∙ ap (λ (ys : List ℕ). ys ++ drop n to) (take-append-drop m xs)

pub two_ends : (k : ℕ) (xs to front back : List ℕ) → k ≤ length xs → length xs ≤ k + k → front ≡ take k xs
    → back ≡ between (length xs - k) (length xs) xs
    → put_mid (length xs - k) (length xs - (length xs - k)) (front ++ drop k to) back ≡ xs ++ drop (length xs) to
two_ends k xs to front back enough covers first last =
    let m : ℕ = length xs - k in
    ap (λ (ys : List ℕ). put_mid m (length xs - m) (ys ++ drop k to) back) first
    ∙ ap (λ (ys : List ℕ). put_mid m (length xs - m) (take k xs ++ drop k to) ys) (last ∙ between_to_end xs m (length xs) (omega arith))
    ∙ second k m (length xs) xs to refl (omega (arith, enough)) covers

-- a list of at most 20 bytes with zeros after it, up to 20 of them
pub padded_front : (xs zeros bytes : List ℕ) → zeros ≡ replicate 20 0 → bytes ≡ xs ++ drop (length xs) zeros
    → take (length xs) bytes ≡ xs
padded_front xs zeros bytes are is = ap (take (length xs)) is ∙ take_at xs (drop (length xs) zeros) (length xs) refl

pub padded_zeros : (xs zeros bytes : List ℕ) → length xs ≤ 20 → zeros ≡ replicate 20 0
    → bytes ≡ xs ++ drop (length xs) zeros → IsPadded (length xs) bytes
padded_zeros xs zeros bytes short are is =
    let behind : drop (length xs) zeros ≡ replicate (20 - length xs) 0 =
    ap (drop (length xs)) are ∙ drop-replicate (length xs) 20 0 in
    record {
      short = short;
      width = omega (
        arith,
        ap length is,
        length-append xs (drop (length xs) zeros),
        length-drop (length xs) zeros,
        ap length are,
        length-replicate {A = ℕ} 20 0,
        short,
      );
      zeros = ap (drop (length xs)) is ∙ drop_at xs (drop (length xs) zeros) (length xs) refl ∙ behind;
    }

pub ruleset padding = (padded_front, padded_zeros)
