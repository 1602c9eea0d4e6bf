-- Places in a payload.
use Rattle.std.proofs.Common.{◌≡◌, ℕ, ◌+◌, ◌-◌, ◌≤◌, List, ◌++◌, length, take, drop, refl, sym, ap, ◌∙◌, arith}
use Rattle.std.proofs.lemmas.List.{length-take-le, length-drop, length-append, drop-take, drop-drop, drop_at, take-append-drop, take_all}
use Rattle.std.specs.Prelude.{slice_range}

pub length-part : (bytes : List ℕ) (start stop : ℕ) → stop ≤ length bytes
    → length (slice_range bytes start stop) ≡ stop - start
length-part bytes start stop le =
    let room : stop - start ≤ length (drop start bytes) = simp length-drop (omega arith) in
    length-take-le (stop - start) (drop start bytes) room

-- the end of a part is a part
pub part_of_part : (bytes : List ℕ) (start stop k : ℕ) → start + k ≤ stop
    → drop k (slice_range bytes start stop) ≡ slice_range bytes (start + k) stop
part_of_part bytes start stop k le =
    let n : stop - start ≡ k + (stop - (start + k)) = omega arith in
    ap (λ (i : ℕ). drop k (take i (drop start bytes))) n ∙ drop-take k (stop - (start + k)) (drop start bytes)
    ∙ ap (take (stop - (start + k))) (drop-drop k start bytes)

-- a part up to the end
pub to_end : (bytes : List ℕ) (start : ℕ) → slice_range bytes start (length bytes) ≡ drop start bytes
to_end bytes start = take_all (length bytes - start) (drop start bytes) (simp length-drop (omega arith))

-- what is behind a front of a part
pub rest_placed : (bytes : List ℕ) (start stop : ℕ) (front rest : List ℕ) → start ≤ stop → stop ≤ length bytes
    → slice_range bytes start stop ≡ front ++ rest
    → (start + (length front + length rest) ≡ stop) × (slice_range bytes (stop - length rest) stop ≡ rest)
rest_placed bytes start stop front rest ordered within parts =
    let len = length-part bytes start stop within in
    let sizes : length (slice_range bytes start stop) ≡ length front + length rest =
    ap length parts ∙ length-append front rest in
    let all : start + (length front + length rest) ≡ stop = omega arith in
    let place : stop - length rest ≡ start + length front = omega arith in (
      all,
      ap (λ (n : ℕ). slice_range bytes n stop) place
          ∙ sym (part_of_part bytes start stop (length front) (omega arith)) ∙ ap (drop (length front)) parts
          ∙ drop_at front rest (length front) refl,
    )

-- a part goes on behind its end
pub part_goes_on : (bytes : List ℕ) (start stop : ℕ) → start ≤ stop
    → drop start bytes ≡ slice_range bytes start stop ++ drop (stop - start) (drop start bytes)
part_goes_on bytes start stop ordered = sym (take-append-drop (stop - start) (drop start bytes))

-- the end of the end of a list is its end
pub end_of_end : (bytes : List ℕ) (start : ℕ) (rest : List ℕ) → start ≤ length bytes
    → length rest ≤ length (drop start bytes)
    → drop (length (drop start bytes) - length rest) (drop start bytes) ≡ rest
    → drop (length bytes - length rest) bytes ≡ rest
end_of_end bytes start rest within short tail =
    let len = length-drop start bytes in
    let k : start + (length (drop start bytes) - length rest) ≡ length bytes - length rest = omega arith in
    ap (λ (n : ℕ). drop n bytes) (sym k)
    ∙ sym (drop-drop (length (drop start bytes) - length rest) start bytes) ∙ tail
