-- Frames of payloads that mean the same are the same.
use Rattle.std.proofs.Common.{◌≡◌, ℕ, ◌≤◌, eqb, Bool, true, false, List, [], ◌∷◌, ◌++◌, map, drop, Some, refl, sym, ap, subst, ◌∙◌, append_assoc, inl, inr}
use Rattle.std.specs.Prelude.{⊤, ◌⊎◌, ◌||◌, ◌&&◌, not, if◌then◌else◌}
use Rattle.std.specs.Map.{lookup}
use Rattle.std.proofs.lemmas.List.{append-nil}
use Rattle.quic_frame_fields.specs.Field.{Value, Number, Bytes, Ranges, Field, Varint, Counted, Id, Uint64, Bytes16, Blocks, Rest, Implied, Ordered, AreApart, AreBelow, AreBlocks, IsField, AreFields, greatest_of}
use Rattle.quic_frame_fields.specs.Table.{Name, Row, rows, row_of}
use Rattle.quic_frame_fields.specs.Payload.{Meaning, TypedFrame, IsFrame, AreFrames}
use Rattle.quic_frames.specs.Least.{frame_in}
use Rattle.std.specs.List.{AllZip}
use Rattle.quic_canon.specs.Same.{IsSameValue, is_ack, compared_values, IsSameFrame}
use Rattle.quic_canon.proofs.SameSets.{one_list_of_set}

-- ---- values of frames hold ranges that never touch

abbrev IsDown : Value → Type 0
IsDown (Number n) = ⊤
IsDown (Bytes bytes) = ⊤
IsDown (Ranges ranges) = AreApart ranges

abbrev AreDown : List Value → Type 0
AreDown [] = ⊤
AreDown (value ∷ values) = IsDown value × AreDown values

down_join : (values others : List Value) → AreDown values → AreDown others → AreDown (values ++ others)
down_join [] others h k = k
down_join (value ∷ values) others h k = (h.0, down_join values others h.1 k)

below_apart : (range : ℕ × ℕ) (ranges : List (ℕ × ℕ)) (bytes : List ℕ) → range.0 ≤ range.1
    → AreBelow range.0 ranges bytes → AreApart (range ∷ ranges)
below_apart range [] bytes le a = le
below_apart range (below ∷ ranges) bytes le a = (le, a.5, below_apart below ranges a.2 a.4 a.8)

blocks_apart : (greatest : ℕ) (ranges : List (ℕ × ℕ)) (bytes : List ℕ) → AreBlocks greatest ranges bytes
    → AreApart ranges
blocks_apart greatest [] bytes a = absurd a
blocks_apart greatest (range ∷ ranges) bytes a = below_apart range ranges a.1 a.4 a.6

one_down : (value : Value) (values : List Value) → values ≡ value ∷ [] → IsDown value → AreDown values
one_down value values e h = subst AreDown (sym e) (h, tt)

field_down : (field : Field) (before values : List Value) (bytes : List ℕ) → IsField field before values bytes
    → AreDown values
field_down Varint before values bytes s = one_down (Number s.0) values s.1 tt
field_down Counted before values bytes s = one_down (Bytes s.1) values s.2 tt
field_down Id before values bytes s = one_down (Bytes s.0) values s.1 tt
field_down Uint64 before values bytes s = one_down (Number s.0) values s.1 tt
field_down Bytes16 before values bytes s = one_down (Bytes bytes) values s.0 tt
field_down Blocks before values bytes s = one_down (Ranges (s.2 ∷ s.3)) values s.4 (blocks_apart _ (s.2 ∷ s.3) s.1 s.7)
field_down Rest before values bytes s = one_down (Bytes bytes) values s tt
field_down (Implied n) before values bytes s = one_down (Number n) values s.0 tt
field_down Ordered before values bytes s = subst AreDown (sym s.0) tt

fields_down : (fields : List Field) (before after : List Value) (bytes : List ℕ) → AreDown before
    → AreFields fields before after bytes → AreDown after
fields_down [] before after bytes h s = subst AreDown (sym s.0) h
fields_down (field ∷ fields) before after bytes h s =
    fields_down fields (before ++ s.0) after s.2 (down_join before s.0 h (field_down field before s.0 s.1 s.4)) s.5

-- ---- such values that mean the same are equal

value_is : (value other : Value) → IsDown value → IsDown other → IsSameValue value other → value ≡ other
value_is (Ranges some) (Ranges others) h k same =
    ap (λ (l : List (ℕ × ℕ)). let v : Value = Ranges l in v) (one_list_of_set some others h k same)
value_is (Ranges some) (Number n) h k same = same
value_is (Ranges some) (Bytes bytes) h k same = same
value_is (Number n) (Ranges others) h k same = same
value_is (Number n) (Number m) h k same = same
value_is (Number n) (Bytes bytes) h k same = same
value_is (Bytes bytes) (Ranges others) h k same = same
value_is (Bytes bytes) (Number m) h k same = same
value_is (Bytes bytes) (Bytes others) h k same = same

values_are : (values others : List Value) → AreDown values → AreDown others → AllZip IsSameValue values others
    → values ≡ others
values_are [] [] h k same = refl
values_are [] (other ∷ others) h k same = absurd same
values_are (value ∷ values) [] h k same = absurd same
values_are (value ∷ values) (other ∷ others) h k same =
    let first = value_is value other h.0 k.0 same.0 in
    let more = values_are values others h.1 k.1 same.1 in
    cc (first, more)

down_drop : (values : List Value) → AreDown values → AreDown (drop 1 values)
down_drop [] h = tt
down_drop (value ∷ values) h = h.1

-- ---- the greatest number of an ACK is the end of its first range

abbrev is_varint : Field → Bool
is_varint Varint = true
is_varint field = false

abbrev is_blocks : Field → Bool
is_blocks Blocks = true
is_blocks field = false

abbrev are_acks : List Field → Bool
are_acks (first ∷ second ∷ third ∷ fields) = is_varint first && (is_varint second && is_blocks third)
are_acks fields = false

abbrev is_reported : Row → Bool
is_reported r = not (is_ack r.name) || are_acks r.fields

all_reported : List (ℕ × Row) → Bool
all_reported [] = true
all_reported (entry ∷ entries) = is_reported entry.1 && all_reported entries

both_of : (b c : Bool) → (b && c) ≡ true → (b ≡ true) × (c ≡ true)
both_of true c h = (refl, h)
both_of false c h = absurd cc

cases_bool : (b : Bool) → (b ≡ true) ⊎ (b ≡ false)
cases_bool true = inl refl
cases_bool false = inr refl

found_reported : (test : ℕ → Bool) (entries : List (ℕ × Row)) (r : Row) → all_reported entries ≡ true
    → lookup test entries ≡ Some r → is_reported r ≡ true
unfolding all_reported
found_reported test [] r reported e = absurd cc
found_reported test (entry ∷ entries) r reported e =
    let w = both_of (is_reported entry.1) (all_reported entries) reported in
    elim (cases_bool (test entry.0)) [
      | inl passes ↦ let here : Some entry.1 ≡ Some r = rw passes at e in let same : entry.1
          ≡ r = cc in subst (λ (x : Row). is_reported x ≡ true) same w.0
      | inr fails ↦ found_reported test entries r w.1 (rw fails at e)
    ]

row_is_reported : (t : ℕ) (r : Row) → row_of t ≡ Some r → is_reported r ≡ true
unfolding all_reported
row_is_reported t r e = found_reported (λ u. eqb t u) rows r refl e

or_second : (b c : Bool) → (not b || c) ≡ true → b ≡ true → c ≡ true
or_second true c h e = h
or_second false c h e = absurd cc

grows : (fields : List Field) (before after : List Value) (bytes : List ℕ) → AreFields fields before after bytes
    → (more : List Value) × (after ≡ before ++ more)
grows [] before after bytes s = ([], s.0 ∙ sym (append-nil before))
grows (field ∷ fields) before after bytes s =
    let g = grows fields (before ++ s.0) after s.2 s.5 in
    (s.0 ++ g.0, g.1 ∙ append_assoc before s.0 g.0)

record IsAckOf (values : List Value) : Type 0 where
  greatest : ℕ
  delay : Value
  range : ℕ × ℕ
  ranges : List (ℕ × ℕ)
  counts : List Value
  are : values ≡ Number greatest ∷ delay ∷ Ranges (range ∷ ranges) ∷ counts
  top : range.1 ≡ greatest

varint_is : (field : Field) → is_varint field ≡ true → field ≡ Varint
varint_is Varint e = refl
varint_is Counted e = absurd cc
varint_is Id e = absurd cc
varint_is Uint64 e = absurd cc
varint_is Bytes16 e = absurd cc
varint_is Blocks e = absurd cc
varint_is Rest e = absurd cc
varint_is (Implied n) e = absurd cc
varint_is Ordered e = absurd cc

blocks_is : (field : Field) → is_blocks field ≡ true → field ≡ Blocks
blocks_is Varint e = absurd cc
blocks_is Counted e = absurd cc
blocks_is Id e = absurd cc
blocks_is Uint64 e = absurd cc
blocks_is Bytes16 e = absurd cc
blocks_is Blocks e = refl
blocks_is Rest e = absurd cc
blocks_is (Implied n) e = absurd cc
blocks_is Ordered e = absurd cc

acks_are : (fields : List Field) → are_acks fields ≡ true
    → (more : List Field) × (fields ≡ Varint ∷ Varint ∷ Blocks ∷ more)
acks_are [] e = absurd cc
acks_are (first ∷ []) e = absurd cc
acks_are (first ∷ second ∷ []) e = absurd cc
acks_are (first ∷ second ∷ third ∷ fields) e =
    let one = both_of (is_varint first) (is_varint second && is_blocks third) e in
    let two = both_of (is_varint second) (is_blocks third) one.1 in
    (fields, cc (varint_is first one.0, varint_is second two.0, blocks_is third two.1))

ack_fields : (fields : List Field) (values : List Value) (bytes : List ℕ)
    → AreFields (Varint ∷ Varint ∷ Blocks ∷ fields) [] values bytes → IsAckOf values
ack_fields fields values bytes s =
    let two = s.5 in
    let three = two.5 in
    let b = three.4 in
    let g = grows fields ((s.0 ++ two.0) ++ three.0) values three.2 three.5 in
    let n : ℕ = s.4.0 in
    let m : ℕ = two.4.0 in
    let one_is : s.0 ≡ Number n ∷ [] = s.4.1 in
    let two_is : two.0 ≡ Number m ∷ [] = two.4.1 in
    let three_is : three.0 ≡ Ranges (b.2 ∷ b.3) ∷ [] = b.4 in
    record {
      greatest = n;
      delay = Number m;
      range = b.2;
      ranges = b.3;
      counts = g.0;
      are = g.1 ∙ ap (λ (l : List Value). ((l ++ two.0) ++ three.0) ++ g.0) one_is
          ∙ ap (λ (l : List Value). ((Number n ∷ l) ++ three.0) ++ g.0) two_is
          ∙ ap (λ (l : List Value). (Number n ∷ Number m ∷ l) ++ g.0) three_is;
      top = b.7.3 ∙ ap (λ (l : List Value). greatest_of (l ++ two.0)) one_is;
    }

-- ---- frames that are encoded

-- what is known about a frame that is encoded
record IsKnown (frame : Meaning) : Type 0 where
  down : AreDown frame.values
  acks : is_ack frame.name ≡ true → IsAckOf frame.values

frame_known : (found : TypedFrame) (bytes : List ℕ) → IsFrame false found bytes → IsKnown found.frame
frame_known found bytes f = record {
  down = fields_down f.row.fields [] found.frame.values f.field_bytes tt f.fields;
  acks = λ e.
      let reported =
      or_second (is_ack f.row.name) (are_acks f.row.fields) (row_is_reported found.type f.row f.in_table)
      (ap is_ack (sym f.name) ∙ e) in
      let are = acks_are f.row.fields reported in
      ack_fields are.0 found.frame.values f.field_bytes (subst
      (λ (l : List Field). AreFields l [] found.frame.values f.field_bytes) are.1 f.fields);
}

first_range : (n m : ℕ) (range other : ℕ × ℕ) (some others : List (ℕ × ℕ)) (delay delay' : Value) (counts counts' : List Value)
    → delay ∷ Ranges (range ∷ some) ∷ counts ≡ delay' ∷ Ranges (other ∷ others) ∷ counts' → range ≡ other
first_range n m range other some others delay delay' counts counts' e = cc

drop_first : (n : ℕ) (values rest : List Value) → values ≡ Number n ∷ rest → drop 1 values ≡ rest
drop_first n values rest e = ap (drop 1) e

acks_same : (values others : List Value) → IsAckOf values → IsAckOf others → drop 1 values ≡ drop 1 others
    → values ≡ others
acks_same values others a b e =
    let rest : List Value = a.delay ∷ Ranges (a.range ∷ a.ranges) ∷ a.counts in
    let rest' : List Value = b.delay ∷ Ranges (b.range ∷ b.ranges) ∷ b.counts in
    let same : rest ≡ rest' =
    sym (drop_first a.greatest values rest a.are) ∙ e ∙ drop_first b.greatest others rest' b.are in
    let range =
    first_range a.greatest b.greatest a.range b.range a.ranges b.ranges a.delay b.delay a.counts b.counts same in
    let top : a.greatest ≡ b.greatest = sym a.top ∙ ap (λ (r : ℕ × ℕ). r.1) range ∙ b.top in
    a.are ∙ ap (λ (n : ℕ). let l : List Value = Number n ∷ rest in l) top
    ∙ ap (λ (l : List Value). Number b.greatest ∷ l) same ∙ sym b.are

values_same : (b : Bool) (values others : List Value) → AreDown values → AreDown others → (b ≡ true → IsAckOf values)
    → (b ≡ true → IsAckOf others)
    → AllZip IsSameValue (if b then drop 1 values else values) (if b then drop 1 others else others) → values ≡ others
values_same true values others h k acks acks' same =
    acks_same values others (acks refl) (acks' refl) (values_are (drop 1 values) (drop 1 others) (down_drop values h)
    (down_drop others k) same)
values_same false values others h k acks acks' same = values_are values others h k same

meaning_is : (frame other : Meaning) → frame.name ≡ other.name → frame.values ≡ other.values → frame ≡ other
meaning_is frame other e f =
    ap (λ (n : Name). let m : Meaning = record { name = n; values = frame.values } in m) e
    ∙ ap (λ (l : List Value). let m : Meaning = record { name = other.name; values = l } in m) f

frame_same : (frame other : Meaning) → IsKnown frame → IsKnown other → IsSameFrame frame other → frame ≡ other
frame_same frame other h k s =
    let ack : is_ack other.name ≡ is_ack frame.name = ap is_ack (sym s.name) in
    let reported : AllZip IsSameValue (if is_ack frame.name then drop 1 frame.values else frame.values)
    (if is_ack frame.name then drop 1 other.values else other.values) =
    subst (λ (b : Bool). AllZip IsSameValue (compared_values frame) (if b then drop 1 other.values else other.values)) ack s.values in
    meaning_is frame other s.name (values_same (is_ack frame.name) frame.values other.values h.down k.down h.acks
    (λ e. k.acks (ack ∙ e)) reported)

-- Payloads that mean the same are the same frames.
pub frames_same : (found others : List TypedFrame) (payload other : List ℕ) → AreFrames false found payload
    → AreFrames false others other
    → AllZip IsSameFrame (map frame_in found) (map frame_in others)
    → map frame_in found ≡ map frame_in others
frames_same [] [] payload other s t same = refl
frames_same [] (g ∷ others) payload other s t same = absurd same
frames_same (f ∷ found) [] payload other s t same = absurd same
frames_same (f ∷ found) (g ∷ others) payload other s t same =
    let here = frame_same f.frame g.frame (frame_known f s.0 s.3) (frame_known g t.0 t.3) same.0 in
    let more = frames_same found others s.1 t.1 s.5 t.5 same.1 in
    cc (here, more)

-- ---- a frame means the same as itself

value_itself : (value : Value) → IsSameValue value value
value_itself (Number n) = refl
value_itself (Bytes bytes) = refl
value_itself (Ranges ranges) = λ n. refl

values_themselves : (values : List Value) → AllZip IsSameValue values values
values_themselves [] = tt
values_themselves (value ∷ values) = (value_itself value, values_themselves values)

pub frames_themselves : (frames : List Meaning) → AllZip IsSameFrame frames frames
frames_themselves [] = tt
frames_themselves (frame ∷ frames) =
    (record { name = refl; values = values_themselves (compared_values frame) }, frames_themselves frames)
