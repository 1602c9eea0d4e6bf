-- Numbers in their shortest encodings, one after the other.
use Rattle.std.proofs.Common.{◌≡◌, ℕ, zero, suc, ◌<◌, ◌≤◌, ◌^◌, List, [], ◌∷◌, ◌++◌, length, take, get_or, refl, sym, ap, ◌∙◌, append_assoc, arith}
use Rattle.std.proofs.lemmas.List.{append-nil}
use Rattle.quic_base.specs.Varint.{shortest_varint}
use Rattle.quic_frame_fields.specs.Numbers.{shortest_varints, AreNumeric}

pub numeric_at : (ns : List ℕ) (i : ℕ) → AreNumeric ns → i < length ns → get_or ns i 0 < 2 ^ 62
numeric_at [] i n lt = absurd (omega (arith, lt))
numeric_at (m ∷ ns) zero n lt = n.0
numeric_at (m ∷ ns) (suc i) n lt = numeric_at ns i n.1 (omega (arith, lt))

pub all_short-at : (ns : List ℕ) (i : ℕ) → i < length ns
    → shortest_varints (take (suc i) ns) ≡ shortest_varints (take i ns) ++ shortest_varint (get_or ns i 0)
all_short-at [] i lt = absurd (omega (arith, lt))
all_short-at (m ∷ ns) zero lt = append-nil (shortest_varint m)
all_short-at (m ∷ ns) (suc i) lt =
    ap (λ (l : List ℕ). shortest_varint m ++ l) (all_short-at ns i (omega (arith, lt)))
    ∙ sym (append_assoc (shortest_varint m) (shortest_varints (take i ns)) (shortest_varint (get_or ns i 0)))

pub take_whole : (ns : List ℕ) (i : ℕ) → length ns ≤ i → take i ns ≡ ns
take_whole [] zero le = refl
take_whole [] (suc i) le = refl
take_whole (n ∷ ns) zero le = absurd (omega (arith, le))
take_whole (n ∷ ns) (suc i) le = ap (λ (l : List ℕ). n ∷ l) (take_whole ns i (omega (arith, le)))
