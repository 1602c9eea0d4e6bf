-- The values that a field can encode, and the shortest of the encodings.
use Rattle.std.proofs.Common.{◌≡◌, ℕ, ◌+◌, ◌-◌, ◌*◌, ◌^◌, ◌<◌, ◌≤◌, true, List, [], ◌∷◌, ◌++◌, length, refl, sym, ap, subst, ◌∙◌, append_assoc, inl, inr, arith}
use Rattle.std.specs.Prelude.{⊤}
use Rattle.std.proofs.lemmas.Bool.{cases_lt}
use Rattle.std.proofs.lemmas.List.{length-append, append-nil}
use Rattle.quic_base.specs.Number.{IsNumber, num, bytes_of}
use Rattle.quic_base.specs.Varint.{Encodes, shortest_varint}
use Rattle.quic_base.proofs.PublicLaws.{shortest_encodes, short_least, encoded_bound, is_number_8, num_injective, num_below}
use Rattle.quic_frame_fields.specs.Field.{Value, Number, Bytes, Ranges, Field, Varint, Counted, Id, Uint64, Bytes16, Blocks, Rest, Implied, Ordered, is_ordered, greatest_of, AreBelow, AreBlocks, AreApart, IsField, AreFields}
use Rattle.quic_frame_fields.specs.Shortest.{shortest_below, shortest_of, values_after, shortest_fields}
use Rattle.quic_frames.specs.Least.{AreOrExceed}

-- ---- bytes one after the other

pub both_least : (a b x y : List ℕ) → AreOrExceed x a → AreOrExceed y b → AreOrExceed (x ++ y) (a ++ b)
both_least a b x y (inl p) (inl q) = inl cc
both_least a b x y (inl p) (inr q) = inr (omega (arith, ap length p, q, length-append a b, length-append x y))
both_least a b x y (inr p) (inl q) = inr (omega (arith, ap length q, p, length-append a b, length-append x y))
both_least a b x y (inr p) (inr q) = inr (omega (arith, p, q, length-append a b, length-append x y))

pub at_most : (bytes least : List ℕ) → AreOrExceed bytes least → length least ≤ length bytes
at_most bytes least (inl e) = omega (arith, ap length e)
at_most bytes least (inr lt) = omega (arith, lt)

-- ---- numbers

-- A number's encoding is the shortest one, or longer.
pub number_least : (n : ℕ) (bytes : List ℕ) → Encodes n bytes
    → Encodes n (shortest_varint n) × AreOrExceed bytes (shortest_varint n)
number_least n bytes s =
    let l = short_least n bytes s in (
      shortest_encodes n (encoded_bound n bytes s).0,
      elim (cases_lt (length (shortest_varint n)) (length bytes)) [
        | inl lt ↦ inr lt
        | inr le ↦ inl (l.1 (omega (arith, l.0, le)))
      ],
    )

-- a number of eight bytes has no other encoding
eight_bound : (n : ℕ) (bytes : List ℕ) → IsNumber 8 n bytes → n < 2 ^ 64
eight_bound n bytes s =
    let below : num bytes < 256 ^ 8 = subst (λ (k : ℕ). num bytes < 256 ^ k) s.width (num_below bytes s.bytes) in
    omega (arith, below, s.value)

eight_once : (n : ℕ) (bytes : List ℕ) → IsNumber 8 n bytes → bytes ≡ bytes_of 8 n
eight_once n bytes s =
    let written = is_number_8 n (eight_bound n bytes s) in
    num_injective bytes (bytes_of 8 n) s.bytes written.bytes (s.width ∙ sym written.width) (s.value ∙ sym written.value)

-- ---- ranges

-- Of ranges below a range with the least number low, each number on the wire has an encoding.
abbrev pub FitBelow : ℕ → List (ℕ × ℕ) → Type 0
FitBelow low [] = ⊤
FitBelow low (range ∷ ranges) =
    (range.0 ≤ range.1) × (range.1 + 2 ≤ low) × (low - (range.1 + 2) < 2 ^ 62) × (range.1 - range.0 < 2 ^ 62) × FitBelow range.0 ranges

-- the same of all ranges of an ACK
abbrev pub FitBlocks : ℕ → List (ℕ × ℕ) → Type 0
FitBlocks greatest [] = ⊥
FitBlocks greatest (range ∷ ranges) =
    (length ranges < 2 ^ 62) × (range.1 ≡ greatest) × (range.0 ≤ range.1) × (range.1 - range.0 < 2 ^ 62) × FitBelow range.0 ranges

apart_first : (range : ℕ × ℕ) (ranges : List (ℕ × ℕ)) → AreApart (range ∷ ranges) → range.0 ≤ range.1
apart_first range [] a = a
apart_first range (below ∷ ranges) a = a.0

-- each range uses up two numbers below the one above it
apart_few : (range : ℕ × ℕ) (ranges : List (ℕ × ℕ)) → AreApart (range ∷ ranges) → length ranges * 2 ≤ range.0
apart_few range [] a = omega arith
apart_few range (below ∷ ranges) a = omega (arith, apart_few below ranges a.2, apart_first below ranges a.2, a.1)

below_fit : (range : ℕ × ℕ) (ranges : List (ℕ × ℕ)) → range.1 < 2 ^ 62 → AreApart (range ∷ ranges)
    → FitBelow range.0 ranges
below_fit range [] lt a = tt
below_fit range (below ∷ ranges) lt a =
    let first = apart_first below ranges a.2 in
    let small : below.1 < 2 ^ 62 = omega (arith, lt, a.0, a.1) in
    (first, a.1, omega (arith, lt, a.0), omega (arith, small), below_fit below ranges small a.2)

-- ranges that never touch, from a number that has an encoding
pub blocks_fit : (range : ℕ × ℕ) (ranges : List (ℕ × ℕ)) → range.1 < 2 ^ 62 → AreApart (range ∷ ranges)
    → FitBlocks range.1 (range ∷ ranges)
blocks_fit range ranges lt a =
    let first = apart_first range ranges a in
    (omega (arith, apart_few range ranges a, first, lt), refl, first, omega (arith, lt), below_fit range ranges lt a)

below_encoded : (low : ℕ) (ranges : List (ℕ × ℕ)) → FitBelow low ranges
    → AreBelow low ranges (shortest_below low ranges)
below_encoded low [] f = refl
below_encoded low (range ∷ ranges) f = (
  shortest_varint (low - (range.1 + 2)),
  shortest_varint (range.1 - range.0),
  shortest_below range.0 ranges,
  refl,
  f.0,
  f.1,
  shortest_encodes (low - (range.1 + 2)) f.2,
  shortest_encodes (range.1 - range.0) f.3,
  below_encoded range.0 ranges f.4,
)

below_least : (low : ℕ) (ranges : List (ℕ × ℕ)) (bytes : List ℕ) → AreBelow low ranges bytes
    → FitBelow low ranges × AreOrExceed bytes (shortest_below low ranges)
below_least low [] bytes s = (tt, inl s)
below_least low (range ∷ ranges) bytes s =
    let gap = number_least (low - (range.1 + 2)) s.0 s.6 in
    let block = number_least (range.1 - range.0) s.1 s.7 in
    let others = below_least range.0 ranges s.2 s.8 in
    let short_gap = shortest_varint (low - (range.1 + 2)) in
    let short_block = shortest_varint (range.1 - range.0) in
    let short_others = shortest_below range.0 ranges in (
      (s.4, s.5, (encoded_bound (low - (range.1 + 2)) s.0 s.6).0, (encoded_bound (range.1 - range.0) s.1 s.7).0, others.0),
      subst (λ (l : List ℕ). AreOrExceed l (short_gap ++ (short_block ++ short_others))) (sym s.3)
          (both_least short_gap (short_block ++ short_others) s.0 (s.1 ++ s.2) gap.1
          (both_least short_block short_others s.1 s.2 block.1 others.1)),
    )

-- ---- fields

-- A field of this kind, after fields with the values before, can have this value.
abbrev pub Fits : Field → List Value → Value → Type 0
Fits Varint before (Number n) = n < 2 ^ 62
Fits Counted before (Bytes bytes) = length bytes < 2 ^ 62
Fits Id before (Bytes bytes) = (0 < length bytes) × (length bytes ≤ 20)
Fits Uint64 before (Number n) = n < 2 ^ 64
Fits Bytes16 before (Bytes bytes) = length bytes ≡ 16
Fits Blocks before (Ranges ranges) = FitBlocks (greatest_of before) ranges
Fits Rest before (Bytes bytes) = ⊤
Fits (Implied n) before (Number m) = m ≡ n
Fits field before value = ⊥

-- The same of fields one after the other.
abbrev pub AllFit : List Field → List Value → List Value → Type 0
AllFit [] before values = values ≡ []
AllFit (Ordered ∷ fields) before values = (is_ordered before ≡ true) × AllFit fields before values
AllFit (field ∷ fields) before [] = ⊥
AllFit (field ∷ fields) before (value ∷ values) = Fits field before value × AllFit fields (before ++ value ∷ []) values

-- the shortest encoding of a field is one
pub value_encoded : (field : Field) (before : List Value) (value : Value) (others : List Value)
    → Fits field before value
    → IsField field before (value ∷ []) (shortest_of field (value ∷ others)) × (values_after field (value ∷ others) ≡ others)
value_encoded Varint before (Number n) others f = ((n, refl, shortest_encodes n f), refl)
value_encoded Counted before (Bytes bytes) others f =
    ((shortest_varint (length bytes), bytes, refl, shortest_encodes (length bytes) f, refl), refl)
value_encoded Id before (Bytes bytes) others f = ((bytes, refl, f.0, f.1, refl), refl)
value_encoded Uint64 before (Number n) others f = ((n, refl, is_number_8 n f), refl)
value_encoded Bytes16 before (Bytes bytes) others f = ((refl, f), refl)
value_encoded Blocks before (Ranges (range ∷ ranges)) others f =
    let block = shortest_varint (range.1 - range.0) in
    let below = shortest_below range.0 ranges in
    let encoded : AreBlocks (greatest_of before) (range ∷ ranges) (block ++ below) =
    (block, below, refl, f.1, f.2, shortest_encodes (range.1 - range.0) f.3, below_encoded range.0 ranges f.4) in
    ((shortest_varint (length ranges), block ++ below, range, ranges, refl, refl, shortest_encodes (length ranges) f.0, encoded), refl)
value_encoded Rest before (Bytes bytes) others f = (refl, refl)
value_encoded (Implied n) before (Number m) others f = ((ap (λ (k : ℕ). Number k ∷ []) f, refl), refl)
value_encoded field before value others f = absurd f

encoded_then : (field : Field) (fields : List Field) (before : List Value) (value : Value) (values : List Value)
    → Fits field before value
    → AreFields fields (before ++ value ∷ []) ((before ++ value ∷ []) ++ values) (shortest_fields fields values)
    → AreFields (field ∷ fields) before (before ++ value ∷ values)
    (shortest_of field (value ∷ values) ++ shortest_fields fields (values_after field (value ∷ values)))
encoded_then field fields before value values f s =
    let one = value_encoded field before value values f in
    let others : AreFields fields (before ++ value ∷ []) (before ++ value ∷ values)
    (shortest_fields fields (values_after field (value ∷ values))) =
    subst (λ (after : List Value). AreFields fields (before ++ value ∷ []) after
    (shortest_fields fields (values_after field (value ∷ values)))) (append_assoc before (value ∷ []) values)
    (subst (λ (left : List Value). AreFields fields (before ++ value ∷ []) ((before ++ value ∷ []) ++ values)
    (shortest_fields fields left)) (sym one.1) s) in
    (value ∷ [], shortest_of field (value ∷ values), shortest_fields fields (values_after field (value ∷ values)), refl, one.0, others)

-- The shortest encodings of fields with values that fit are encodings.
pub fields_encoded : (fields : List Field) (before values : List Value) → AllFit fields before values
    → AreFields fields before (before ++ values) (shortest_fields fields values)
fields_encoded [] before values f = (ap (λ (l : List Value). before ++ l) f ∙ append-nil before, refl)
fields_encoded (Ordered ∷ fields) before values f =
    let others : AreFields fields (before ++ []) (before ++ values) (shortest_fields fields values) =
    subst (λ (l : List Value). AreFields fields l (before ++ values) (shortest_fields fields values))
    (sym (append-nil before)) (fields_encoded fields before values f.1) in
    ([], [], shortest_fields fields values, refl, (refl, refl, f.0), others)
fields_encoded (field ∷ fields) before [] f = absurd f
fields_encoded (field ∷ fields) before (value ∷ values) f =
    encoded_then field fields before value values f.0 (fields_encoded fields (before ++ value ∷ []) values f.1)

-- what a field that is encoded has: its values fit before others that do, and no encoding is shorter than the shortest
pub record LeastField (field : Field) (before values others : List Value) (bytes : List ℕ) : Type 0 where
  pub fits : (fields : List Field) → AllFit fields (before ++ values) others → AllFit (field ∷ fields) before (values ++ others)
  pub least : AreOrExceed bytes (shortest_of field (values ++ others))
  pub others_left : values_after field (values ++ others) ≡ others

pub field_least : (field : Field) (before values others : List Value) (bytes : List ℕ)
    → IsField field before values bytes → LeastField field before values others bytes
field_least Varint before values others bytes s =
    let a = number_least s.0 bytes s.2 in
    subst (λ (v : List Value). LeastField Varint before v others bytes) (sym s.1)
    (record { fits = λ fields f. ((encoded_bound s.0 bytes s.2).0, f); least = a.1; others_left = refl })
field_least Counted before values others bytes s =
    let a = number_least (length s.1) s.0 s.3 in
    subst (λ (v : List Value). LeastField Counted before v others bytes) (sym s.2)
    (record {
      fits = λ fields f. ((encoded_bound (length s.1) s.0 s.3).0, f);
      least = subst (λ (l : List ℕ). AreOrExceed l (shortest_varint (length s.1) ++ s.1)) (sym s.4)
          (both_least (shortest_varint (length s.1)) s.1 s.0 s.1 a.1 (inl refl));
      others_left = refl;
    })
field_least Id before values others bytes s =
    subst (λ (v : List Value). LeastField Id before v others bytes) (sym s.1)
    (record { fits = λ fields f. ((s.2, s.3), f); least = inl s.4; others_left = refl })
field_least Uint64 before values others bytes s =
    let below : s.0 < 2 ^ 64 = eight_bound s.0 bytes s.2 in
    subst (λ (v : List Value). LeastField Uint64 before v others bytes) (sym s.1)
    (record { fits = λ fields f. (below, f); least = inl (eight_once s.0 bytes s.2); others_left = refl })
field_least Bytes16 before values others bytes s =
    subst (λ (v : List Value). LeastField Bytes16 before v others bytes) (sym s.0)
    (record { fits = λ fields f. (s.1, f); least = inl refl; others_left = refl })
field_least Blocks before values others bytes s =
    let b = s.7 in
    let range = s.2 in
    let ranges = s.3 in
    let count = number_least (length ranges) s.0 s.6 in
    let block = number_least (range.1 - range.0) b.0 b.5 in
    let below = below_least range.0 ranges b.1 b.6 in
    let short_count = shortest_varint (length ranges) in
    let short_block = shortest_varint (range.1 - range.0) in
    let short_below = shortest_below range.0 ranges in
    subst (λ (v : List Value). LeastField Blocks before v others bytes) (sym s.4)
    (record {
      fits = λ fields f. (((encoded_bound (length ranges) s.0 s.6).0, b.3, b.4, (encoded_bound (range.1 - range.0) b.0 b.5).0, below.0), f);
      least = subst (λ (l : List ℕ). AreOrExceed l (short_count ++ (short_block ++ short_below)))
          (sym (s.5 ∙ ap (λ (l : List ℕ). s.0 ++ l) b.2))
          (both_least short_count (short_block ++ short_below) s.0 (b.0 ++ b.1) count.1
          (both_least short_block short_below b.0 b.1 block.1 below.1));
      others_left = refl;
    })
field_least Rest before values others bytes s =
    subst (λ (v : List Value). LeastField Rest before v others bytes) (sym s)
    (record { fits = λ fields f. (tt, f); least = inl refl; others_left = refl })
field_least (Implied n) before values others bytes s =
    subst (λ (v : List Value). LeastField (Implied n) before v others bytes) (sym s.0)
    (record { fits = λ fields f. (refl, f); least = inl s.1; others_left = refl })
field_least Ordered before values others bytes s =
    subst (λ (v : List Value). LeastField Ordered before v others bytes) (sym s.0)
    (record {
      fits = λ fields f. (s.2, subst (λ (l : List Value). AllFit fields l others) (append-nil before) f);
      least = inl s.1;
      others_left = refl;
    })

-- ---- fields in a row

pub record LeastFields (fields : List Field) (before after : List Value) (bytes : List ℕ) : Type 0 where
  pub values : List Value
  pub grown : after ≡ before ++ values
  pub fits : AllFit fields before values
  pub least : AreOrExceed bytes (shortest_fields fields values)

pub fields_least : (fields : List Field) (before after : List Value) (bytes : List ℕ)
    → AreFields fields before after bytes → LeastFields fields before after bytes
fields_least [] before after bytes s =
    record { values = []; grown = s.0 ∙ sym (append-nil before); fits = refl; least = inl s.1 }
fields_least (field ∷ fields) before after bytes s =
    let others = fields_least fields (before ++ s.0) after s.2 s.5 in
    let one = field_least field before s.0 others.values s.1 s.4 in
    let values = s.0 ++ others.values in
    let first : List ℕ = shortest_of field values in
    let second = shortest_fields fields others.values in
    let whole : shortest_fields (field ∷ fields) values ≡ first ++ second =
    ap (λ (v : List Value). first ++ shortest_fields fields v) one.others_left in
    record {
      values = values;
      grown = others.grown ∙ append_assoc before s.0 others.values;
      fits = one.fits fields others.fits;
      least = subst (AreOrExceed bytes) (sym whole) (subst (λ (l : List ℕ). AreOrExceed l (first ++ second)) (sym s.3)
          (both_least first second s.1 s.2 one.least others.least));
    }
