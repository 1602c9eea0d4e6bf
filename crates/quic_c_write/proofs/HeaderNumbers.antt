-- The numbers of a header, each of which may be missing, one behind the other.
use Rattle.std.proofs.Common.{◌≡◌, ℕ, Bool, true, false, List, [], ◌∷◌, ◌++◌, length, refl, sym, ap, subst, ◌∙◌, append_assoc, arith}
use Rattle.std.proofs.lemmas.List.{append-nil}
use Rattle.quic_base.specs.Codec.{Takes, NoFront}
use Rattle.quic_base.specs.Varint.{Encodes}
use Rattle.quic_base.proofs.PublicLaws.{encodes_unique}
use Rattle.quic_frame_fields.specs.Numbers.{AreEncoded}
use Rattle.quic_c_write.specs.Headers.{number_if, header_numbers, is_stream, has_offset, has_length}

-- encodings of two lists, one behind the other
pub both_encoded : (ms ns b c : List ℕ) → AreEncoded ms b → AreEncoded ns c → AreEncoded (ms ++ ns) (b ++ c)
both_encoded [] ns b c m n = subst (λ (l : List ℕ). AreEncoded ns (l ++ c)) (sym m) n
both_encoded (k ∷ ms) ns b c m n =
    (m.0, m.1 ++ c, ap (λ (l : List ℕ). l ++ c) m.2 ∙ append_assoc m.0 m.1 c, m.3, both_encoded ms ns m.1 c m.4 n)

pub record Splits (ms ns b : List ℕ) : Type 0 where
  pub front : List ℕ
  pub back : List ℕ
  pub parts : b ≡ front ++ back
  pub first : AreEncoded ms front
  pub second : AreEncoded ns back

pub split_encoded : (ms ns b : List ℕ) → AreEncoded (ms ++ ns) b → Splits ms ns b
split_encoded [] ns b e = record { front = []; back = b; parts = refl; first = refl; second = e }
split_encoded (k ∷ ms) ns b e =
    let s = split_encoded ms ns e.1 e.4 in
    record {
      front = e.0 ++ s.front;
      back = s.back;
      parts = e.2 ∙ ap (λ (l : List ℕ). e.0 ++ l) s.parts ∙ sym (append_assoc e.0 s.front s.back);
      first = (e.0, s.front, refl, e.3, s.first);
      second = s.second;
    }

pub record AreSame (ms ns b c r s : List ℕ) : Type 0 where
  pub numbers : ms ≡ ns
  pub encoded : b ≡ c
  pub behind : r ≡ s

-- bytes encode one list of a length, and no encoding begins another
pub same_encoded : (ms ns b c r s : List ℕ) → length ms ≡ length ns → b ++ r ≡ c ++ s → AreEncoded ms b
    → AreEncoded ns c → AreSame ms ns b c r s
same_encoded [] [] b c r s len e m n = record {
  numbers = refl;
  encoded = m ∙ sym n;
  behind = ap (λ (l : List ℕ). l ++ r) (sym m) ∙ e ∙ ap (λ (l : List ℕ). l ++ s) n;
}
same_encoded [] (l ∷ ns) b c r s len e m n = absurd (omega (arith, len))
same_encoded (k ∷ ms) [] b c r s len e m n = absurd (omega (arith, len))
same_encoded (k ∷ ms) (l ∷ ns) b c r s len e m n =
    let moved : m.0 ++ (m.1 ++ r) ≡ n.0 ++ (n.1 ++ s) =
    sym (append_assoc m.0 m.1 r) ∙ ap (λ (t : List ℕ). t ++ r) (sym m.2) ∙ e ∙ ap (λ (t : List ℕ). t ++ s) n.2
    ∙ append_assoc n.0 n.1 s in
    let one = encodes_unique k l m.0 n.0 (m.1 ++ r) (n.1 ++ s) moved m.3 n.3 in
    let others = same_encoded ms ns m.1 n.1 r s (omega (arith, len)) one.2 m.4 n.4 in
    record {
      numbers = cc (one.0, others.numbers);
      encoded = cc (m.2, n.2, one.1, others.encoded);
      behind = others.behind;
    }

pub takes_both : (ms ns old mid new : List ℕ) → Takes (AreEncoded ms) old mid → Takes (AreEncoded ns) mid new
    → Takes (AreEncoded (ms ++ ns)) old new
takes_both ms ns old mid new s t = record {
  front = s.front ++ t.front;
  split = s.split ∙ ap (λ (l : List ℕ). s.front ++ l) t.split ∙ sym (append_assoc s.front t.front new);
  is = both_encoded ms ns s.front t.front s.is t.is;
}

-- one number, or none
pub takes_one : (n : ℕ) (old new : List ℕ) → Takes (Encodes n) old new → Takes (AreEncoded (number_if true n)) old new
takes_one n old new t =
    record { front = t.front; split = t.split; is = (t.front, [], sym (append-nil t.front), t.is, refl) }

pub takes_none : (n : ℕ) (old : List ℕ) → Takes (AreEncoded (number_if false n)) old old
takes_none n old = record { front = []; split = refl; is = refl }

pub cut_one : (old : List ℕ) → ((n : ℕ) → NoFront (Encodes n) old) → (n : ℕ)
    → NoFront (AreEncoded (number_if true n)) old
cut_one old none n b s e is =
    none n is.0 (is.1 ++ s) (e ∙ ap (λ (l : List ℕ). l ++ s) is.2 ∙ append_assoc is.0 is.1 s) is.3

pub cut_front : (ms ns old : List ℕ) → NoFront (AreEncoded ms) old → NoFront (AreEncoded (ms ++ ns)) old
cut_front ms ns old none b s e is =
    let p = split_encoded ms ns b is in
    none p.front (p.back ++ s) (e ∙ ap (λ (l : List ℕ). l ++ s) p.parts ∙ append_assoc p.front p.back s) p.first

pub cut_back : (ks ms ns old mid : List ℕ) → length ks ≡ length ms → Takes (AreEncoded ks) old mid
    → NoFront (AreEncoded ns) mid → NoFront (AreEncoded (ms ++ ns)) old
cut_back ks ms ns old mid len t none b s e is =
    let p = split_encoded ms ns b is in
    let moved : t.front ++ mid ≡ p.front ++ (p.back ++ s) =
    sym t.split ∙ e ∙ ap (λ (l : List ℕ). l ++ s) p.parts ∙ append_assoc p.front p.back s in
    let u = same_encoded ks ms t.front p.front mid (p.back ++ s) len moved t.is p.first in
    none p.back s u.behind p.second

pub as_many : (is_written : Bool) (m n : ℕ) → length (number_if is_written m) ≡ length (number_if is_written n)
as_many true m n = refl
as_many false m n = refl

-- ---- the three numbers

pub takes_numbers : (type id offset len : ℕ) (bytes one two behind : List ℕ)
    → Takes (AreEncoded (number_if (is_stream type) id)) bytes one
    → Takes (AreEncoded (number_if (has_offset type) offset)) one two
    → Takes (AreEncoded (number_if (has_length type) len)) two behind
    → Takes (AreEncoded (header_numbers type id offset len)) bytes behind
takes_numbers type id offset len bytes one two behind a b c =
    takes_both (number_if (is_stream type) id) (number_if (has_offset type) offset ++ number_if (has_length type) len)
    bytes one behind a
    (takes_both (number_if (has_offset type) offset) (number_if (has_length type) len) one two behind b c)

-- no numbers are in front
abbrev pub AreCut : ℕ → List ℕ → Type 0
AreCut type bytes = (id offset len : ℕ) → NoFront (AreEncoded (header_numbers type id offset len)) bytes

pub cut_at_id : (type : ℕ) (bytes : List ℕ) → ((n : ℕ) → NoFront (AreEncoded (number_if (is_stream type) n)) bytes)
    → AreCut type bytes
cut_at_id type bytes none id offset len =
    cut_front (number_if (is_stream type) id) (number_if (has_offset type) offset ++ number_if (has_length type) len)
    bytes (none id)

pub cut_at_offset : (type n : ℕ) (bytes one : List ℕ) → Takes (AreEncoded (number_if (is_stream type) n)) bytes one
    → ((m : ℕ) → NoFront (AreEncoded (number_if (has_offset type) m)) one) → AreCut type bytes
cut_at_offset type n bytes one t none id offset len =
    cut_back (number_if (is_stream type) n) (number_if (is_stream type) id)
    (number_if (has_offset type) offset ++ number_if (has_length type) len) bytes one (as_many (is_stream type) n id) t
    (cut_front (number_if (has_offset type) offset) (number_if (has_length type) len) one (none offset))

pub cut_at_length : (type n m : ℕ) (bytes one two : List ℕ)
    → Takes (AreEncoded (number_if (is_stream type) n)) bytes one
    → Takes (AreEncoded (number_if (has_offset type) m)) one two
    → ((l : ℕ) → NoFront (AreEncoded (number_if (has_length type) l)) two) → AreCut type bytes
cut_at_length type n m bytes one two s t none id offset len =
    cut_back (number_if (is_stream type) n) (number_if (is_stream type) id)
    (number_if (has_offset type) offset ++ number_if (has_length type) len) bytes one (as_many (is_stream type) n id) s
    (cut_back (number_if (has_offset type) m) (number_if (has_offset type) offset) (number_if (has_length type) len)
    one two (as_many (has_offset type) m offset) t (none len))

pub cut_if : (is_written : Bool) (old : List ℕ) → is_written ≡ true → ((n : ℕ) → NoFront (Encodes n) old) → (n : ℕ)
    → NoFront (AreEncoded (number_if is_written n)) old
cut_if true old is none n = cut_one old none n
cut_if false old is none n = absurd (let e : ◌≡◌ {A = Bool} false true = is in cc)

-- the same as code computed whether they are written
pub cut_as : (b d : Bool) (old : List ℕ) → b ≡ d → ((n : ℕ) → NoFront (AreEncoded (number_if b n)) old) → (n : ℕ)
    → NoFront (AreEncoded (number_if d n)) old
cut_as b d old e none n = subst (λ (x : Bool). NoFront (AreEncoded (number_if x n)) old) e (none n)

pub takes_as : (b d : Bool) (n : ℕ) (old new : List ℕ) → b ≡ d → Takes (AreEncoded (number_if b n)) old new
    → Takes (AreEncoded (number_if d n)) old new
takes_as b d n old new e t = subst (λ (x : Bool). Takes (AreEncoded (number_if x n)) old new) e t
