-- The ranges of an ACK that is in a payload.
use Rattle.std.proofs.Common.{◌≡◌, ℕ, ◌-◌, Bool, true, false, List, [], ◌∷◌, ◌++◌, length, Option, Some, refl, sym, ap, subst, ◌∙◌, append_assoc, inl, inr, arith}
use Rattle.std.specs.Prelude.{◌==◌, ◌&&◌, ◌||◌, ◌⊎◌, not}
use Rattle.std.specs.Map.{lookup}
use Rattle.std.proofs.lemmas.List.{append-nil}
use Rattle.std.proofs.lemmas.Bool.Decides.{nat_tests}
use Rattle.quic_base.specs.Varint.{Encodes}
use Rattle.quic_frame_fields.specs.declared.frame.ack.Ack.{Ack}
use Rattle.quic_frame_fields.specs.AckPlace.{BeginsWithAck}
use Rattle.quic_frame_fields.specs.Acks.{ranges_acked}
use Rattle.quic_frame_fields.specs.Field.{Field, Varint, Blocks, Value, Number, Ranges, AreBlocks, AreFields, greatest_of}
use Rattle.quic_frame_fields.specs.Parts.{ack_meaning, counts_of}
use Rattle.quic_frame_fields.specs.Payload.{IsFrame, Meaning, TypedFrame}
use Rattle.quic_frame_fields.specs.Table.{Ack as AckName, Name, Row, rows, row_of, ack_row, ack_ecn_row}

-- ---- its rows

abbrev is_ack : Name → Bool
is_ack AckName = true
is_ack name = false

abbrev is_ack_type : ℕ → Bool
is_ack_type t = t == 2 || t == 3

unfoldable acks_typed : List (ℕ × Row) → Bool
acks_typed [] = true
acks_typed (entry ∷ entries) = (not (is_ack entry.1.name) || is_ack_type entry.0) && acks_typed entries

both : (a b : Bool) → (a && b) ≡ true → (a ≡ true) × (b ≡ true)
both true b e = (refl, e)
both false b e = absurd cc

cases : (b : Bool) → (b ≡ true) ⊎ (b ≡ false)
cases true = inl refl
cases false = inr refl

implied : (a b : Bool) → a ≡ true → (not a || b) ≡ true → b ≡ true
implied true b holds e = e
implied false b holds e = absurd cc

typed : (t : ℕ) (entries : List (ℕ × Row)) (r : Row) → acks_typed entries ≡ true
    → lookup (λ u. t == u) entries ≡ Some r → is_ack r.name ≡ true → is_ack_type t ≡ true
unfolding acks_typed
typed t [] r all e named = absurd cc
typed t (entry ∷ entries) r all e named =
    let here = both (not (is_ack entry.1.name) || is_ack_type entry.0) (acks_typed entries) all in
    elim (cases (t == entry.0)) [
      | inl same ↦
          let found : Some entry.1 ≡ Some r = rw same at e in
          let row : entry.1 ≡ r = cc in
          let number : t ≡ entry.0 = grind (arith, nat_tests) in
          let name : is_ack entry.1.name ≡ true = ap (λ (x : Row). is_ack x.name) row ∙ named in
          ap is_ack_type number ∙ implied (is_ack entry.1.name) (is_ack_type entry.0) name here.0
      | inr other ↦ typed t entries r here.1 (rw other at e) named
    ]

two_types : (t : ℕ) → is_ack_type t ≡ true → (t ≡ 2) ⊎ (t ≡ 3)
two_types t e = grind (arith, nat_tests)

-- ---- its fields

begins_with : (fields : List Field) (before after : List Value) (bytes : List ℕ) → AreFields fields before after bytes
    → (more : List Value) × (after ≡ before ++ more)
begins_with [] before after bytes s = ([], s.0 ∙ sym (append-nil before))
begins_with (field ∷ fields) before after bytes s =
    let r = begins_with fields (before ++ s.0) after s.2 s.5 in
    (s.0 ++ r.0, r.1 ∙ append_assoc before s.0 r.0)

-- the greatest number, the delay, and how many ranges are below the first, in front of the blocks
record AckFields (greatest delay : ℕ) (ranges : List (ℕ × ℕ)) (bytes : List ℕ) : Type 0 where
  one : List ℕ
  two : List ℕ
  three : List ℕ
  blocks : List ℕ
  rest : List ℕ
  parts : bytes ≡ one ++ (two ++ (three ++ (blocks ++ rest)))
  greatest_is : Encodes greatest one
  delay_is : Encodes delay two
  count_is : Encodes (length ranges - 1) three
  encoded : AreBlocks greatest ranges blocks

ack_fields : (others : List Field) (greatest delay : ℕ) (ranges : List (ℕ × ℕ)) (counts : List Value) (bytes : List ℕ)
    → AreFields (Varint ∷ Varint ∷ Blocks ∷ others) [] (Number greatest ∷ Number delay ∷ Ranges ranges ∷ counts) bytes
    → AckFields greatest delay ranges bytes
ack_fields others greatest delay ranges counts bytes s =
    let n = s.4.0 in
    let m = s.5.4.0 in
    let b = s.5.5.4 in
    let more = begins_with others _ _ _ s.5.5.5 in
    let values : Number greatest ∷ Number delay ∷ Ranges ranges ∷ counts ≡ Number n ∷ Number m ∷ Ranges (b.2 ∷ b.3) ∷ more.0 =
    more.1 ∙ ap (λ (v : List Value). ((v ++ s.5.0) ++ s.5.5.0) ++ more.0) s.4.1
    ∙ ap (λ (v : List Value). ((Number n ∷ v) ++ s.5.5.0) ++ more.0) s.5.4.1
    ∙ ap (λ (v : List Value). Number n ∷ Number m ∷ v ++ more.0) b.4 in
    let one : n ≡ greatest = cc in
    let two : m ≡ delay = cc in
    let three : b.2 ∷ b.3 ≡ ranges = cc in
    let first : greatest_of (s.0 ++ s.5.0) ≡ greatest = ap (λ (v : List Value). greatest_of (v ++ s.5.0)) s.4.1 ∙ one in
    let few : length b.3 ≡ length (b.2 ∷ b.3) - 1 = omega arith in
    let blocks : AreBlocks greatest (b.2 ∷ b.3) b.1 = subst (λ (k : ℕ). AreBlocks k (b.2 ∷ b.3) b.1) first b.7 in
    record {
      one = s.1;
      two = s.5.1;
      three = b.0;
      blocks = b.1;
      rest = s.5.5.2;
      parts = s.3 ∙ ap (λ (l : List ℕ). s.1 ++ l) (s.5.3 ∙ ap (λ (l : List ℕ). s.5.1 ++ l)
          (s.5.5.3 ∙ ap (λ (l : List ℕ). l ++ s.5.5.2) b.5 ∙ append_assoc b.0 b.1 s.5.5.2));
      greatest_is = subst (λ (k : ℕ). Encodes k s.1) one s.4.2;
      delay_is = subst (λ (k : ℕ). Encodes k s.5.1) two s.5.4.2;
      count_is = subst (λ (k : ℕ). Encodes k b.0) (few ∙ ap (λ (l : List (ℕ × ℕ)). length l - 1) three) b.6;
      encoded = subst (λ (l : List (ℕ × ℕ)). AreBlocks greatest l b.1) three blocks;
    }

-- The bytes begin with the ACK.
pub record HasAck (ack : Ack) (bytes : List ℕ) : Type 0 where
  pub blocks : List ℕ
  pub rest : List ℕ
  pub begins : BeginsWithAck bytes ack.largest blocks rest
  pub ranges : begins.ranges ≡ ranges_acked ack

by_fields : (ack : Ack) (type : ℕ) (type_bytes field_bytes bytes : List ℕ) → (type ≡ 2) ⊎ (type ≡ 3)
    → Encodes type type_bytes → bytes ≡ type_bytes ++ field_bytes
    → AckFields ack.largest ack.delay (ranges_acked ack) field_bytes → HasAck ack bytes
by_fields ack type type_bytes field_bytes bytes is_one encoded parts a = record {
  blocks = a.blocks;
  rest = a.rest;
  begins = record {
    type = type;
    is_ack = is_one;
    delay = ack.delay;
    ranges = ranges_acked ack;
    header = type_bytes ++ (a.one ++ (a.two ++ a.three));
    parts = parts ∙ ap (λ (l : List ℕ). type_bytes ++ l) a.parts ∙ simp append_assoc;
    numbers = (
      type_bytes,
      a.one ++ (a.two ++ a.three),
      refl,
      encoded,
      (
        a.one,
        a.two ++ a.three,
        refl,
        a.greatest_is,
        (a.two, a.three, refl, a.delay_is, (a.three, [], sym (append-nil a.three), a.count_is, refl)),
      ),
    );
    encoded = a.encoded;
  };
  ranges = refl;
}

same_row : (o : Option Row) (a b : Row) → o ≡ Some a → o ≡ Some b → a ≡ b
same_row o a b e f = cc

by_row : (ack : Ack) (found : TypedFrame) (row : Row) (others : List Field) (bytes : List ℕ)
    → found.frame ≡ ack_meaning ack → row.fields ≡ Varint ∷ Varint ∷ Blocks ∷ others
    → AreFields row.fields [] found.frame.values bytes → AckFields ack.largest ack.delay (ranges_acked ack) bytes
by_row ack found row others bytes says are s =
    ack_fields others ack.largest ack.delay (ranges_acked ack) (counts_of ack.ecn) bytes
    (subst (λ (fields : List Field). AreFields fields [] (ack_meaning ack).values bytes) are
    (subst (λ (m : Meaning). AreFields row.fields [] m.values bytes) says s))

pub has_ack : (strict : Bool) (found : TypedFrame) (ack : Ack) (bytes : List ℕ) → IsFrame strict found bytes
    → found.frame ≡ ack_meaning ack → HasAck ack bytes
unfolding acks_typed
has_ack strict found ack bytes f says =
    let named : is_ack f.row.name ≡ true = ap is_ack (sym f.name) ∙ ap (λ (m : Meaning). is_ack m.name) says in
    let type = two_types found.type (typed found.type rows f.row refl f.in_table named) in
    by_fields ack found.type f.type_bytes f.field_bytes bytes type f.type_encoded.encoded f.parts
    (elim type [
      | inl two ↦
          let row = same_row (row_of found.type) f.row ack_row f.in_table (ap row_of two) in
          by_row ack found f.row [] f.field_bytes says (ap (λ (r : Row). r.fields) row) f.fields
      | inr three ↦
          let row = same_row (row_of found.type) f.row ack_ecn_row f.in_table (ap row_of three) in
          by_row ack found f.row (Varint ∷ Varint ∷ Varint ∷ []) f.field_bytes says (ap (λ (r : Row). r.fields) row) f.fields
    ])
