-- Which field of a frame can't be written: the function and the relation.
use Rattle.std.proofs.Common.{◌≡◌, ℕ, ◌+◌, ◌^◌, ◌<◌, ◌≤◌, List, [], ◌∷◌, ◌++◌, length, map, take, drop, Bool, true, false, Option, Some, None, refl, sym, ap, subst, ◌∙◌, inl, inr, arith, append_assoc}
use Rattle.std.specs.Prelude.{slice_index_or, ◌≢◌, ◌==◌, ◌&&◌, nat_lt, nat_le, if◌then◌else◌}
use Rattle.std.proofs.lemmas.Bool.{cases_lt}
use Rattle.std.proofs.lemmas.Bool.Decides.{nat_tests}
use Rattle.std.proofs.lemmas.List.{append-nil, append_cancel_left, length-take, length-drop}
use Rattle.quic_base.specs.Number.{IsNumber, num, bytes_of}
use Rattle.quic_base.specs.Varint.{shortest_varint}
use Rattle.quic_base.proofs.PublicLaws.{shortest_encodes, encoded_bound, is_number_8, num_below}
use Rattle.quic_frame_fields.specs.Field.{Value, Number, Bytes, Ranges, Field, Varint, Counted, Id, Uint64, Bytes16, Blocks, Rest, Implied, Ordered, IsField, AreFields}
use Rattle.quic_c_words.specs.declared.words.CFrame.{CFrame}
use Rattle.std.specs.List.{list_any}
use Rattle.quic_frame_fields.specs.Table.{Row, row_of}
use Rattle.quic_frame_fields.specs.Table as names
use Rattle.quic_frames.specs.declared.frame.Frame.{Frame}
use Rattle.quic_frames.specs.declared.frame.Frame.TheVariants as frames
use Rattle.quic_frames.specs.InRange.{IsTypedFrame, open_data}
use Rattle.quic_c_words.specs.Slots.{Slot, Nth, Fin, Direction, Data, Token, is_data, row_of_kind, slots_of}
use Rattle.quic_c_write.specs.Shapes.{AreDataAndToken, FillsShape, LacksDataOrToken, kept_data, shape_of, shows_data, slots_in, token_room}
use Rattle.quic_c_words.specs.Shown.{data_of}
use Rattle.quic_c_write.specs.Written.{CanWriteFrame}
use Rattle.quic_c_write.proofs.Meanings.{meaning_is_said}
use Rattle.quic_c_write.proofs.Shapes.{keeps}
use Rattle.quic_frame_fields.specs.Parts.{frame_of as meaning}
use Rattle.quic_frame_fields.specs.Payload.{IsFrame, Meaning}
use Rattle.quic_frames.specs.Least.{as_written}
use Rattle.quic_frames.specs.Meaning.{meaning_of}
use Rattle.quic_c_write.specs.Faults.{value_in, data_at, IsThere, CanHave, FindsFirst, FindsFault, can_have, is_there, is_whole, fault_at, fault_by, fault_in, fields_or, fields_written, first_fault, fits, fits_by, fits_in, token_at, value_by, FindsFaultBy, FitsKind, IsSoundWith, IsWriteFault}
use Rattle.quic_results.specs.Faults.{first_false}

-- ---- a test of a field and what it stands for

HasValue : Field → List Value → List Value → Type 0
HasValue field before values = (front : List ℕ) × IsField field before values front

pub record Tells (field : Field) (before values : List Value) : Type 0 where
  pub some : can_have field before values ≡ true → (front : List ℕ) × IsField field before values front
  pub none : can_have field before values ≡ false → (front : List ℕ) → IsField field before values front → ⊥

below : (n most : ℕ) → nat_lt n most ≡ true → n < most
below n most e = grind (arith, nat_tests)

not_below : (n most : ℕ) → nat_lt n most ≡ false → n < most → ⊥
not_below n most e lt = grind (arith, nat_tests)

eight_bound : (n : ℕ) (bytes : List ℕ) → IsNumber 8 n bytes → n < 2 ^ 64
eight_bound n bytes s =
    let lt : num bytes < 256 ^ 8 = subst (λ (k : ℕ). num bytes < 256 ^ k) s.width (num_below bytes s.bytes) in
    omega (arith, lt, s.value)

number_is : (m n : ℕ) → ◌≡◌ {A = List Value} (Number m ∷ []) (Number n ∷ []) → m ≡ n
number_is m n e = cc

bytes_are : (xs ys : List ℕ) → ◌≡◌ {A = List Value} (Bytes xs ∷ []) (Bytes ys ∷ []) → xs ≡ ys
bytes_are xs ys e = cc

id_test : (n : ℕ) → (nat_lt 0 n && nat_le n 20) ≡ true → (0 < n) × (n ≤ 20)
id_test n e = grind (arith, nat_tests)

no_id : (n : ℕ) → (nat_lt 0 n && nat_le n 20) ≡ false → 0 < n → n ≤ 20 → ⊥
no_id n e p q = grind (arith, nat_tests)

same : (m n : ℕ) → (m == n) ≡ true → m ≡ n
same m n e = grind (arith, nat_tests)

not_same : (m n : ℕ) → (m == n) ≡ false → m ≡ n → ⊥
not_same m n e q = grind (arith, nat_tests)

pub tells : (field : Field) (before : List Value) (value : Value) → (field ≡ Blocks → ⊥) → Tells field before (value ∷ [])
tells Varint before (Number n) o = record {
  some = λ e. (shortest_varint n, (n, refl, shortest_encodes n (below n _ e)));
  none = λ e front s.
      not_below n _ e (subst (λ (k : ℕ). k < 2 ^ 62) (sym (number_is n s.0 s.1)) (encoded_bound s.0 front s.2).0);
}
tells Varint before (Bytes bytes) o = record { some = λ e. absurd cc; none = λ e front s. let q = s.1 in cc }
tells Varint before (Ranges ranges) o = record { some = λ e. absurd cc; none = λ e front s. let q = s.1 in cc }
tells Counted before (Bytes bytes) o = record {
  some = λ e. (
    shortest_varint (length bytes) ++ bytes,
    (shortest_varint (length bytes), bytes, refl, shortest_encodes (length bytes) (below (length bytes) _ e), refl),
  );
  none = λ e front s.
      not_below (length bytes) _ e (subst (λ (l : List ℕ). length l < 2 ^ 62) (sym (bytes_are bytes s.1 s.2))
      (encoded_bound (length s.1) s.0 s.3).0);
}
tells Counted before (Number n) o = record { some = λ e. absurd cc; none = λ e front s. let q = s.2 in cc }
tells Counted before (Ranges ranges) o = record { some = λ e. absurd cc; none = λ e front s. let q = s.2 in cc }
tells Id before (Bytes bytes) o = record {
  some = λ e. let t = id_test (length bytes) e in (length bytes ∷ bytes, (bytes, refl, t.0, t.1, refl));
  none = λ e front s.
      let is = bytes_are bytes s.0 s.1 in
      no_id (length bytes) e (subst (λ (l : List ℕ). 0 < length l) (sym is) s.2)
      (subst (λ (l : List ℕ). length l ≤ 20) (sym is) s.3);
}
tells Id before (Number n) o = record { some = λ e. absurd cc; none = λ e front s. let q = s.1 in cc }
tells Id before (Ranges ranges) o = record { some = λ e. absurd cc; none = λ e front s. let q = s.1 in cc }
tells Uint64 before (Number n) o = record {
  some = λ e. (bytes_of 8 n, (n, refl, is_number_8 n (below n _ e)));
  none = λ e front s.
      not_below n _ e (subst (λ (k : ℕ). k < 2 ^ 64) (sym (number_is n s.0 s.1)) (eight_bound s.0 front s.2));
}
tells Uint64 before (Bytes bytes) o = record { some = λ e. absurd cc; none = λ e front s. let q = s.1 in cc }
tells Uint64 before (Ranges ranges) o = record { some = λ e. absurd cc; none = λ e front s. let q = s.1 in cc }
tells Bytes16 before (Bytes bytes) o = record {
  some = λ e. (bytes, (refl, same (length bytes) 16 e));
  none = λ e front s.
      not_same (length bytes) 16 e (ap (λ (l : List ℕ). length l) (bytes_are bytes front s.0) ∙ s.1);
}
tells Bytes16 before (Number n) o = record { some = λ e. absurd cc; none = λ e front s. let q = s.0 in cc }
tells Bytes16 before (Ranges ranges) o = record { some = λ e. absurd cc; none = λ e front s. let q = s.0 in cc }
tells Rest before (Bytes bytes) o = record { some = λ e. (bytes, refl); none = λ e. absurd cc }
tells Rest before (Number n) o = record { some = λ e. absurd cc; none = λ e front s. cc }
tells Rest before (Ranges ranges) o = record { some = λ e. absurd cc; none = λ e front s. cc }
tells (Implied n) before (Number m) o = record {
  some = λ e. ([], (ap (λ (k : ℕ). Number k ∷ []) (same m n e), refl));
  none = λ e front s. not_same m n e (number_is m n s.0);
}
tells (Implied n) before (Bytes bytes) o = record { some = λ e. absurd cc; none = λ e front s. let q = s.0 in cc }
tells (Implied n) before (Ranges ranges) o = record { some = λ e. absurd cc; none = λ e front s. let q = s.0 in cc }
tells Ordered before value o = record { some = λ e. absurd cc; none = λ e front s. let q = s.0 in cc }
tells Blocks before value o = absurd (o refl)

ordered_tells : (before : List Value) → Tells Ordered before []
ordered_tells before = record {
  some = λ e. ([], (refl, refl, e));
  none = λ e front s. let q = s.2 in cc;
}

-- ---- rows

there_true : (words : CFrame) (payload : List ℕ) (slot : Slot) → is_there (is_whole words payload) slot ≡ true
    → IsThere words payload slot
there_true words payload Data e = same (length (data_at words payload)) words.data_len e
there_true words payload (Nth i) e = tt
there_true words payload Fin e = tt
there_true words payload Direction e = tt
there_true words payload Token e = tt

there_false : (words : CFrame) (payload : List ℕ) (slot : Slot) → is_there (is_whole words payload) slot ≡ false
    → IsThere words payload slot → ⊥
there_false words payload Data e = not_same (length (data_at words payload)) words.data_len e
there_false words payload (Nth i) e = absurd cc
there_false words payload Fin e = absurd cc
there_false words payload Direction e = absurd cc
there_false words payload Token e = absurd cc

-- what a test chooses
chosen : (there can : Bool) (index : ℕ) (There Can : Type 0) (Others : Option ℕ → Type 0) (others : Option ℕ)
    → (there ≡ true → There) → (there ≡ false → There → ⊥) → (can ≡ true → Can) → (can ≡ false → Can → ⊥) → Others others
    → FindsFirst index (There × Can) (Others (if there && can then others else Some index))
    (if there && can then others else Some index)
chosen true true index There Can Others others a b c d o = inr ((a refl, c refl), o)
chosen true false index There Can Others others a b c d o = inl (λ h. d refl h.1, refl)
chosen false can index There Can Others others a b c d o = inl (λ h. b refl h.0, refl)

chosen_ordered : (can : Bool) (index : ℕ) (Can : Type 0) (Others : Option ℕ → Type 0) (others : Option ℕ)
    → (can ≡ true → Can) → (can ≡ false → Can → ⊥) → Others others
    → FindsFirst index Can (Others (if can then others else Some index)) (if can then others else Some index)
chosen_ordered true index Can Others others c d o = inr (c refl, o)
chosen_ordered false index Can Others others c d o = inl (λ h. d refl h, refl)

-- The function finds what the relation says.
pub finds : (words : CFrame) (payload : List ℕ) (index : ℕ) (fields : List Field) (slots : List Slot)
    (before : List Value) → fits fields slots ≡ true
    → FindsFault words payload index fields slots before
    (first_fault (value_in words payload) (is_whole words payload) index fields slots before)
finds words payload index [] slots before f = refl
finds words payload index (Ordered ∷ fields) slots before f =
    let t = ordered_tells before in
    chosen_ordered (can_have Ordered before []) index ((front : List ℕ) × IsField Ordered before [] front)
    (λ (found : Option ℕ). FindsFault words payload (index + 1) fields slots before found)
    (first_fault (value_in words payload) (is_whole words payload) (index + 1) fields slots before)
    t.some (λ e h. t.none e h.0 h.1) (finds words payload (index + 1) fields slots before f)
finds words payload index (Blocks ∷ fields) slots before f = absurd cc
finds words payload index (field ∷ fields) [] before f = absurd cc
finds words payload index (field ∷ fields) (slot ∷ slots) before f =
    let value = value_in words payload slot in
    let t = tells field before value (λ e. cc) in
    chosen (is_there (is_whole words payload) slot) (can_have field before (value ∷ [])) index
    (IsThere words payload slot) ((front : List ℕ) × IsField field before (value ∷ []) front)
    (λ (found : Option ℕ). FindsFault words payload (index + 1) fields slots (before ++ (value ∷ [])) found)
    (first_fault (value_in words payload) (is_whole words payload) (index + 1) fields slots (before ++ (value ∷ [])))
    (there_true words payload slot) (there_false words payload slot) t.some (λ e h. t.none e h.0 h.1)
    (finds words payload (index + 1) fields slots (before ++ (value ∷ [])) f)

-- ---- no field of a frame that can be written is at fault

abbrev Single : List Value → Type 0
Single values = (value : Value) × (values ≡ value ∷ [])

-- the values of fields come after those before them
grown : (fields : List Field) (before after : List Value) (bytes : List ℕ) → AreFields fields before after bytes
    → (values : List Value) × (after ≡ before ++ values)
grown [] before after bytes s = ([], s.0 ∙ sym (append-nil before))
grown (field ∷ fields) before after bytes s =
    let g = grown fields (before ++ s.0) after s.2 s.5 in
    (s.0 ++ g.0, g.1 ∙ append_assoc before s.0 g.0)

single : (field : Field) (before values : List Value) (bytes : List ℕ) → (field ≡ Ordered → ⊥)
    → IsField field before values bytes → Single values
single Varint before values bytes o s = (Number s.0, s.1)
single Counted before values bytes o s = (Bytes s.1, s.2)
single Id before values bytes o s = (Bytes s.0, s.1)
single Uint64 before values bytes o s = (Number s.0, s.1)
single Bytes16 before values bytes o s = (Bytes bytes, s.0)
single Blocks before values bytes o s = (Ranges (s.2 ∷ s.3), s.4)
single Rest before values bytes o s = (Bytes bytes, s)
single (Implied n) before values bytes o s = (Number n, s.0)
single Ordered before values bytes o s = absurd (o refl)

heads : (a b : Value) (xs ys : List Value) → a ∷ xs ≡ b ∷ ys → a ≡ b
heads a b xs ys e = cc

no_values : (a : Value) (xs : List Value) → ◌≡◌ {A = List Value} (a ∷ xs) [] → ⊥
no_values a xs e = cc

-- the values that are left: those of the words that are left
left_over : (before values : List Value) (left : List Value) → before ++ values ≡ before ++ left → values ≡ left
left_over before values left e = append_cancel_left before values left e

-- A field that can have its value isn't at fault.
step : (words : CFrame) (payload : List ℕ) (index : ℕ) (field : Field) (fields : List Field) (slot : Slot)
    (slots : List Slot) (before after : List Value) (bytes : List ℕ) (found : Option ℕ)
    → ((slot : Slot) → IsThere words payload slot)
    → ((front : List ℕ) × IsField field before (value_in words payload slot ∷ []) front)
    → (FindsFault words payload (index + 1) fields slots (before ++ (value_in words payload slot ∷ [])) found → found ≡ None)
    → FindsFirst index (CanHave words payload field before slot)
    (FindsFault words payload (index + 1) fields slots (before ++ (value_in words payload slot ∷ [])) found) found
    → found ≡ None
step words payload index field fields slot slots before after bytes found there has others (inl f) =
    absurd (f.0 (there slot, has))
step words payload index field fields slot slots before after bytes found there has others (inr f) = others f.1

-- Fields that are encoded with the values in words have no fault, if the payload has the data.
pub none_found : (words : CFrame) (payload : List ℕ) (index : ℕ) (fields : List Field) (slots : List Slot)
    (before after : List Value) (bytes : List ℕ) (found : Option ℕ) → ((slot : Slot) → IsThere words payload slot)
    → AreFields fields before after bytes → after ≡ before ++ map (value_in words payload) slots
    → FindsFault words payload index fields slots before found → found ≡ None
none_found words payload index [] slots before after bytes found there s same f = f
none_found words payload index (Ordered ∷ fields) slots before after bytes found there s same (inl f) =
    absurd (f.0 ([], (refl, refl, s.4.2)))
none_found words payload index (Ordered ∷ fields) slots before after bytes found there s same (inr f) =
    let e : before ++ s.0 ≡ before = ap (λ (l : List Value). before ++ l) s.4.0 ∙ append-nil before in
    none_found words payload (index + 1) fields slots before after s.2 found there
    (subst (λ (l : List Value). AreFields fields l after s.2) e s.5) same f.1
none_found words payload index (field ∷ fields) [] before after bytes found there s same f = absurd f
none_found words payload index (field ∷ fields) (slot ∷ slots) before after bytes found there s same f =
    let value = value_in words payload slot in
    let others = map (value_in words payload) slots in
    let one = single field before s.0 s.1 (λ e. cc) s.4 in
    let g = grown fields (before ++ s.0) after s.2 s.5 in
    let all : before ++ (s.0 ++ g.0) ≡ before ++ (value ∷ others) =
    sym (append_assoc before s.0 g.0) ∙ sym g.1 ∙ same in
    let listed : s.0 ++ g.0 ≡ value ∷ others = left_over before (s.0 ++ g.0) (value ∷ others) all in
    let started : one.0 ∷ g.0 ≡ value ∷ others = ap (λ (l : List Value). l ++ g.0) (sym one.1) ∙ listed in
    let is : s.0 ≡ value ∷ [] = one.1 ∙ ap (λ (v : Value). v ∷ []) (heads one.0 value g.0 others started) in
    step words payload index field fields slot slots before after s.2 found there
    (s.1, subst (λ (l : List Value). IsField field before l s.1) is s.4)
    (λ h. none_found words payload (index + 1) fields slots (before ++ (value ∷ [])) after s.2 found there
    (subst (λ (l : List Value). AreFields fields (before ++ l) after s.2) is s.5)
    (same ∙ sym (append_assoc before (value ∷ []) others)) h) f

-- ---- a frame with the words is one that they describe

kept_if : (b : Bool) (xs : List ℕ) → (b ≡ false → xs ≡ []) → (if b then xs else []) ≡ xs
kept_if true xs none = refl
kept_if false xs none = sym (none refl)

-- the data of a kind: all of the bytes, or none
data_kept : (shape : Option (List Slot)) (bytes : List ℕ) → (shape ≡ None → ⊥) → (shows_data shape ≡ false → bytes ≡ [])
    → kept_data shape bytes ≡ bytes
data_kept None bytes known none = absurd (known refl)
data_kept (Some slots) bytes known none = kept_if (list_any is_data slots) bytes none

open_at_most : (frame : Frame) → length (open_data frame) ≤ length (data_of frame)
open_at_most (frames.Stream s) = omega arith
open_at_most (frames.Datagram d) = omega arith
open_at_most frame = omega arith

empty : (bytes : List ℕ) → length bytes ≡ 0 → bytes ≡ []
empty [] e = refl
empty (b ∷ bytes) e = absurd (omega (arith, e))

flags_are : (kind flags : ℕ) → (kind ≡ 0x08 → flags ≤ 1) → (kind ≢ 0x08 → flags ≡ 0)
    → ◌≡◌ {A = ℕ} (if kind == 0x08 && flags == 1 then 1 else 0) flags
flags_are kind flags few none = grind (arith, nat_tests)

pub described : (words : CFrame) (payload bytes behind : List ℕ) (whole token last : Bool) (frame : Frame)
    → FitsKind words → IsSoundWith words.kind words.flags words.numbers words.data_len whole token last
    → AreDataAndToken words payload bytes behind
    → FillsShape words.kind (words.flags == 1) words.numbers bytes behind frame
    → IsTypedFrame frame → CanWriteFrame words payload last frame
described words payload bytes behind whole token last frame only sound there fills typed =
    let none : shows_data (shape_of words.kind) ≡ false → bytes ≡ [] =
    λ e. empty bytes (there.width ∙ only.only.len_is e) in
    let content : data_of frame ≡ bytes =
    fills.content ∙ data_kept (shape_of words.kind) bytes sound.known none in
    let count : words.data_len ≡ length (data_of frame) =
    sym there.width ∙ ap (λ (l : List ℕ). length l) (sym content) in
    record {
      described = record {
        kind = sym fills.kind;
        flags = sym (fills.flags ∙ flags_are words.kind words.flags sound.flagged only.flags);
        numbers = only.only.numbers_are ∙ sym fills.numbers;
        count = count;
        within = λ h. omega (arith, there.within (omega (arith, h, fills.tail)), fills.tail);
        content = sym there.content ∙ sym content;
        token = ap (λ (n : ℕ). take n (drop words.data_len (drop words.data_offset payload))) fills.tail ∙ sym there.token
            ∙ sym fills.token;
      };
      kind = fills.no_ack;
      typed = typed;
      stands = record { in_range = fills.in_range; counted = λ e. omega (arith, open_at_most frame, count, sound.counted e) };
    }

-- ---- the kinds whose type depends on their values

-- tests that are the same fail at the same index
same_four : (p q r s t u v w : Bool) → p ≡ t → q ≡ u → r ≡ v → s ≡ w
    → first_false 1 (p ∷ q ∷ r ∷ s ∷ []) ≡ first_false 1 (t ∷ u ∷ v ∷ w ∷ [])
same_four p q r s t u v w a b c d = cc

and_true : (b : Bool) → b ≡ (b && true)
and_true true = refl
and_true false = refl

fin_set : (flags : ℕ) → (flags == 1) ≡ true → nat_le flags 1 ≡ (flags == 1)
fin_set flags e = grind (arith, nat_tests)

fin_clear : (flags : ℕ) → (flags == 1) ≡ false → nat_le flags 1 ≡ (flags == 0)
fin_clear flags e = grind (arith, nat_tests)

at_start : (offset : ℕ) → (offset == 0) ≡ true → nat_lt offset (2 ^ 62) ≡ (offset == 0)
at_start offset e = grind (arith, nat_tests)

-- the fields of a STREAM, by whether it starts at offset 0, has FIN and is the last frame
abbrev stream_fields : Bool → Bool → Bool → List Field
stream_fields starts fin last =
    fields_or (row_of (0x08 + (if starts then 0 else 4) + (if fin then 1 else 0) + (if last then 0 else 2)))

stream_by : (flags : ℕ) (numbers : List ℕ) (whole : Bool) (content behind : List ℕ) (has_data starts fin last : Bool)
    → (slice_index_or numbers 1 0 == 0) ≡ starts → (flags == 1) ≡ fin
    → has_data ≡ (if last then whole else (whole && nat_lt (length content) (2 ^ 62)))
    → first_false 1 (nat_le flags 1 ∷ nat_lt (slice_index_or numbers 0 0) (2 ^ 62)
    ∷ nat_lt (slice_index_or numbers 1 0) (2 ^ 62) ∷ has_data ∷ [])
    ≡ first_fault (value_by 0x08 flags numbers content behind) whole 1 (stream_fields starts fin last)
    (slots_of names.Stream) []
stream_by flags ns whole content behind has_data true true true s f d =
    same_four _ _ _ _ _ _ _ _ (fin_set flags f) refl (at_start (slice_index_or ns 1 0) s) (d ∙ and_true whole)
stream_by flags ns whole content behind has_data true true false s f d =
    same_four _ _ _ _ _ _ _ _ (fin_set flags f) refl (at_start (slice_index_or ns 1 0) s) d
stream_by flags ns whole content behind has_data true false true s f d =
    same_four _ _ _ _ _ _ _ _ (fin_clear flags f) refl (at_start (slice_index_or ns 1 0) s) (d ∙ and_true whole)
stream_by flags ns whole content behind has_data true false false s f d =
    same_four _ _ _ _ _ _ _ _ (fin_clear flags f) refl (at_start (slice_index_or ns 1 0) s) d
stream_by flags ns whole content behind has_data false true true s f d =
    same_four _ _ _ _ _ _ _ _ (fin_set flags f) refl refl (d ∙ and_true whole)
stream_by flags ns whole content behind has_data false true false s f d =
    same_four _ _ _ _ _ _ _ _ (fin_set flags f) refl refl d
stream_by flags ns whole content behind has_data false false true s f d =
    same_four _ _ _ _ _ _ _ _ (fin_clear flags f) refl refl (d ∙ and_true whole)
stream_by flags ns whole content behind has_data false false false s f d =
    same_four _ _ _ _ _ _ _ _ (fin_clear flags f) refl refl d

pub stream_found : (flags : ℕ) (numbers : List ℕ) (whole : Bool) (content behind : List ℕ) (q r has_data last : Bool)
    → q ≡ nat_lt (slice_index_or numbers 0 0) (2 ^ 62) → r ≡ nat_lt (slice_index_or numbers 1 0) (2 ^ 62)
    → has_data ≡ (if last then whole else (whole && nat_lt (length content) (2 ^ 62)))
    → first_false 1 (nat_le flags 1 ∷ q ∷ r ∷ has_data ∷ []) ≡ fault_by 0x08 flags numbers whole content behind last
stream_found flags ns whole content behind q r has_data last a b d =
    same_four _ _ _ _ _ _ _ _ refl a b refl
    ∙ stream_by flags ns whole content behind has_data (slice_index_or ns 1 0 == 0) (flags == 1) last refl refl d

stream_fits_by : (starts fin last : Bool) → fits (stream_fields starts fin last) (slots_of names.Stream) ≡ true
stream_fits_by true true true = refl
stream_fits_by true true false = refl
stream_fits_by true false true = refl
stream_fits_by true false false = refl
stream_fits_by false true true = refl
stream_fits_by false true false = refl
stream_fits_by false false true = refl
stream_fits_by false false false = refl

pub stream_fits : (flags : ℕ) (numbers content behind : List ℕ) (last : Bool)
    → fits_by 0x08 flags numbers content behind last ≡ true
stream_fits flags ns content behind last = stream_fits_by (slice_index_or ns 1 0 == 0) (flags == 1) last

-- ---- what the payload has

sixteen : (n m l : ℕ) → n ≡ m → (16 ≤ m → l ≡ 16) → (m < 16 → l ≡ m) → nat_le 16 n ≡ (l == 16)
sixteen n m l e high low = elim (cases_lt m 16) [
  | inl lt ↦ (let is = low lt in grind (arith, nat_tests))
  | inr le ↦ (let is = high le in grind (arith, nat_tests))
]

pub token_there : (words : CFrame) (payload : List ℕ) (n : ℕ) → words.kind ≡ 0x18
    → n ≡ length (drop words.data_len (drop words.data_offset payload))
    → nat_le 16 n ≡ (length (token_at words payload) == 16)
token_there words payload n kind e =
    let behind : List ℕ = drop words.data_len (drop words.data_offset payload) in
    let room : token_room words.kind ≡ 16 = ap token_room kind in
    let len : length (token_at words payload) ≡ length (take 16 behind) =
    ap (λ (k : ℕ). length (take k behind)) room in
    sixteen n (length behind) (length (token_at words payload)) e (λ h. omega (arith, h, len, length-take 16 behind))
    (λ h. omega (arith, h, len, length-take 16 behind))

lack_by : (words : CFrame) (payload : List ℕ) (is_new : Bool) → (words.kind == 0x18) ≡ is_new
    → (0 < words.data_len → is_whole words payload ≡ true)
    → (words.kind ≡ 0x18 → (length (token_at words payload) == 16) ≡ true) → LacksDataOrToken words payload → ⊥
lack_by words payload true e whole token lacks =
    let kind : words.kind ≡ 0x18 = same words.kind 0x18 e in
    let room : token_room words.kind ≡ 16 = ap token_room kind in
    let behind : List ℕ = drop words.data_len (drop words.data_offset payload) in
    let len : length (take (token_room words.kind) behind) ≡ 16 = same (length (token_at words payload)) 16 (token kind) in
    omega (
      arith,
      lacks.past,
      lacks.some,
      room,
      len,
      length-take (token_room words.kind) behind,
      length-drop words.data_len (drop words.data_offset payload),
      length-drop words.data_offset payload,
    )
lack_by words payload false e whole token lacks =
    let other : words.kind ≡ 0x18 → ⊥ = not_same words.kind 0x18 e in
    let room : token_room words.kind ≡ 0 = ap (λ (b : Bool). if b then 16 else 0) e in
    let some : 0 < words.data_len = omega (arith, lacks.some, room) in
    let len : length (data_at words payload) ≡ words.data_len =
    same (length (data_at words payload)) words.data_len (whole some) in
    omega (
      arith,
      lacks.past,
      some,
      room,
      len,
      length-take words.data_len (drop words.data_offset payload),
      length-drop words.data_offset payload,
    )

-- If the payload has what words describe, it doesn't lack it.
pub no_lack : (words : CFrame) (payload : List ℕ) → (0 < words.data_len → is_whole words payload ≡ true)
    → (words.kind ≡ 0x18 → (length (token_at words payload) == 16) ≡ true) → LacksDataOrToken words payload → ⊥
no_lack words payload whole token lacks = lack_by words payload (words.kind == 0x18) refl whole token lacks

-- ---- what is found

found_in_row : (words : CFrame) (payload : List ℕ) (last : Bool) (row : Option Row)
    → fits_in (value_in words payload) last row ≡ true
    → FindsFaultBy words payload last row (fault_in (value_in words payload) (is_whole words payload) last row)
found_in_row words payload last None f = refl
found_in_row words payload last (Some r) f =
    finds words payload 1 (fields_written last r.name (map (value_in words payload) (slots_of r.name))) (slots_of r.name) [] f

pub fault_is : (words : CFrame) (payload : List ℕ) (last : Bool)
    → fits_by words.kind words.flags words.numbers (data_at words payload) (token_at words payload) last ≡ true
    → IsWriteFault words payload last (fault_at words payload last)
fault_is words payload last f = found_in_row words payload last (row_of_kind words.kind) f

-- The data and the token that a frame has are in the payload.
all_there : (words : CFrame) (payload : List ℕ) (last : Bool) (frame : Frame) → CanWriteFrame words payload last frame
    → (slot : Slot) → IsThere words payload slot
all_there words payload last frame can Data =
    ap (λ (l : List ℕ). length l) can.described.content ∙ sym can.described.count
all_there words payload last frame can (Nth i) = tt
all_there words payload last frame can Fin = tt
all_there words payload last frame can Direction = tt
all_there words payload last frame can Token = tt

none_in_row : (words : CFrame) (payload : List ℕ) (last : Bool) (frame : Frame) (bytes : List ℕ) (found : Option ℕ)
    (row : Option Row) → row_of_kind words.kind ≡ row → CanWriteFrame words payload last frame
    → IsFrame false (as_written last (meaning_of frame)) bytes → FindsFaultBy words payload last row found → found ≡ None
none_in_row words payload last frame bytes found None e can encoded f =
    absurd ((keeps frame can.kind).known (ap shape_of (sym can.described.kind) ∙ ap slots_in e))
none_in_row words payload last frame bytes found (Some r) e can encoded f =
    let said : meaning_of frame ≡ meaning r.name (map (value_in words payload) (slots_of r.name)) =
    meaning_is_said words payload last frame r can e in
    let there : IsFrame false (as_written last (meaning r.name (map (value_in words payload) (slots_of r.name)))) bytes =
    subst (λ (m : Meaning). IsFrame false (as_written last m) bytes) said encoded in
    none_found words payload 1 (fields_written last r.name (map (value_in words payload) (slots_of r.name)))
    (slots_of r.name) [] (map (value_in words payload) (slots_of r.name)) there.field_bytes found
    (all_there words payload last frame can)
    (subst (λ (l : List Field). AreFields l [] (map (value_in words payload) (slots_of r.name)) there.field_bytes)
    (sym (ap fields_or there.in_table)) there.fields) refl f

-- No field of a frame that can be written is at fault.
pub can_write_none : (words : CFrame) (payload : List ℕ) (last : Bool) (frame : Frame) (bytes : List ℕ)
    (found : Option ℕ) → CanWriteFrame words payload last frame
    → IsFrame false (as_written last (meaning_of frame)) bytes → IsWriteFault words payload last found → found ≡ None
can_write_none words payload last frame bytes found can encoded f =
    none_in_row words payload last frame bytes found (row_of_kind words.kind) refl can encoded f

-- The same, given what was computed.
pub found_is : (words : CFrame) (payload : List ℕ) (whole last as_last : Bool) (found : Option ℕ)
    → whole ≡ is_whole words payload → last ≡ as_last
    → found ≡ fault_by words.kind words.flags words.numbers whole (data_at words payload) (token_at words payload) last
    → fits_by words.kind words.flags words.numbers (data_at words payload) (token_at words payload) last ≡ true
    → IsWriteFault words payload as_last found
found_is words payload whole last as_last found w l e f =
    let content = data_at words payload in
    let token = token_at words payload in
    let same : found ≡ fault_at words payload as_last =
    e ∙ ap (λ (b : Bool). fault_by words.kind words.flags words.numbers b content token last) w
    ∙ ap (λ (b : Bool). fault_by words.kind words.flags words.numbers (is_whole words payload) content token b) l in
    let fit : fits_by words.kind words.flags words.numbers content token as_last ≡ true =
    ap (λ (b : Bool). fits_by words.kind words.flags words.numbers content token b) (sym l) ∙ f in
    subst (λ (o : Option ℕ). IsWriteFault words payload as_last o) (sym same) (fault_is words payload as_last fit)

pub not_none : (found : Option ℕ) (index : ℕ) → found ≡ Some index → found ≡ None → ⊥
not_none found index some none = let e : Some index ≡ None = sym some ∙ none in cc
