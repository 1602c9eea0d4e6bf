-- Where fields are, and what a scan returns.
use Rattle.std.specs.Prelude.{◌≡◌, ℕ, ◌+◌, ◌-◌, ◌≤◌, List, ◌∷◌, length, take, drop, None, Some, slice_range, nat_lt, false}
use Rattle.std.proofs.Common.{sym, ap, ◌∙◌, arith, refl}
use Rattle.std.proofs.lemmas.List.{drop-drop}
use Rattle.std.proofs.lemmas.Bool.Decides.{nat_tests}
use Rattle.quic_header_decode.specs.Reading.{wide_id_at}
use Rattle.quic_header_decode.proofs.Steps.{otherwise, some_pair}

-- an id of any version is after its length
wide_parts : (tail : List ℕ) (n : ℕ) → n ≤ length tail → wide_id_at (n ∷ tail) ≡ Some (take n tail, drop n tail)
wide_parts tail n room =
    let test : nat_lt (length tail) n ≡ false = grind (arith, nat_tests) in
    otherwise (nat_lt (length tail) n) None (Some (take n tail, drop n tail)) _ test refl

pub wide_stands : (bytes : List ℕ) (at n : ℕ) (tail : List ℕ) → at ≤ length bytes → drop at bytes ≡ n ∷ tail
    → n ≤ length tail
    → wide_id_at (drop at bytes) ≡ Some (slice_range bytes (at + 1) (at + 1 + n), drop (at + 1 + n) bytes)
wide_stands bytes at n tail before split room =
    let behind : drop (at + 1) bytes ≡ tail = sym (drop-drop 1 at bytes) ∙ ap (drop 1) split in
    let width : at + 1 + n - (at + 1) ≡ n = omega arith in
    ap wide_id_at split ∙ wide_parts tail n room
    ∙ some_pair (take n tail) _ (drop n tail) _
    (ap (take n) (sym behind) ∙ ap (λ (k : ℕ). take k (drop (at + 1) bytes)) (sym width))
    (ap (drop n) (sym behind) ∙ drop-drop n (at + 1) bytes)
