-- What is read of a header, step by step.
use Rattle.std.proofs.Common.{◌≡◌, ℕ, ◌-◌, Bool, true, false, List, [], ◌∷◌, ◌++◌, length, refl, sym, ap, subst, ◌∙◌, arith}
use Rattle.std.specs.Prelude.{if◌then◌else◌}
use Rattle.std.proofs.lemmas.List.{length-append}
use Rattle.quic_base.specs.Codec.{Takes}
use Rattle.quic_base.specs.Varint.{Encodes, size}
use Rattle.quic_base.proofs.PublicLaws.{short_least, length-short}
use Rattle.quic_frame_fields.specs.Numbers.{AreEncoded}
use Rattle.quic_frame_fields.specs.Payload.{BeginsWithType, HasLongType}
use Rattle.quic_c_write.specs.Headers.{Header, IsHeaded, BeginsWithHeader, has_fin, has_length, has_offset, header_kind, header_numbers, header_words, is_stream, number_if}
use Rattle.quic_c_write.proofs.HeaderOnce.{header_of}

-- ---- the type

-- A type came first, in any width, or in the least.
pub long_type : (type : ℕ) (bytes rest : List ℕ) (short : Bool) → Takes (Encodes type) bytes rest → short ≡ true
    → (length bytes - length rest ≡ size type → ⊥) → HasLongType short bytes type
long_type type bytes rest short t is wide = record {
  counts = is;
  front = t.front;
  back = rest;
  parts = t.split;
  encoded = t.is;
  long = λ e. wide (omega (arith, ap length e, length-short type, ap length t.split, length-append t.front rest));
}

pub begins_with_type : (type : ℕ) (bytes rest : List ℕ) (short : Bool) → Takes (Encodes type) bytes rest
    → (short ≡ true → length bytes - length rest ≡ size type) → BeginsWithType short bytes type (λ back. back ≡ rest)
begins_with_type type bytes rest short t fits = record {
  front = t.front;
  back = rest;
  parts = t.split;
  encoded = record {
    encoded = t.is;
    shortest = λ s. (short_least type t.front t.is).1
        (omega (arith, fits s, length-short type, ap length t.split, length-append t.front rest));
  };
  then = refl;
}

-- what holds of a type and what follows it
pub with_type : (short : Bool) (bytes : List ℕ) (type : ℕ) (back : List ℕ) (P : List ℕ → Type 0)
    → BeginsWithType short bytes type (λ b. b ≡ back) → P back → BeginsWithType short bytes type P
with_type short bytes type back P b p = record {
  front = b.front;
  back = b.back;
  parts = b.parts;
  encoded = b.encoded;
  then = subst P (sym b.then) p;
}

-- ---- the whole header

length_same : (is_written : Bool) (written len rest : ℕ) → len ≡ (if is_written then written else rest)
    → number_if is_written written ≡ number_if is_written len
length_same true written len rest e = ap (λ (n : ℕ). n ∷ []) (sym e)
length_same false written len rest e = refl

length_open : (is_written : Bool) (written len rest : ℕ) → len ≡ (if is_written then written else rest)
    → is_written ≡ false → len ≡ rest
length_open true written len rest e f = absurd (let g : ◌≡◌ {A = Bool} true false = f in cc)
length_open false written len rest e f = e

pub whole_header : (short : Bool) (bytes : List ℕ) (type id offset written len count : ℕ) (back rest : List ℕ)
    → BeginsWithType short bytes type (λ b. b ≡ back) → IsHeaded (header_kind type)
    → Takes (AreEncoded (header_numbers type id offset written)) back rest → (is_stream type ≡ false → id ≡ 0)
    → (has_offset type ≡ false → offset ≡ 0) → len ≡ (if has_length type then written else length rest)
    → count ≡ length bytes - length rest → BeginsWithHeader short bytes (header_of type id offset len) count
whole_header short bytes type id offset written len count back rest b kind t no_id no_offset l sized =
    let parts : bytes ≡ b.front ++ (t.front ++ rest) =
    b.parts ∙ ap (λ (r : List ℕ). b.front ++ r) (b.then ∙ t.split) in
    record {
      type_bytes = b.front;
      number_bytes = t.front;
      behind = rest;
      parts = parts;
      type_encoded = b.encoded;
      kind = kind;
      encoded = subst (λ (ns : List ℕ). AreEncoded (number_if (is_stream type) id ++ (number_if (has_offset type) offset ++ ns)) t.front)
          (length_same (has_length type) written len (length rest) l) t.is;
      no_id = no_id;
      no_offset = no_offset;
      no_length = length_open (has_length type) written len (length rest) l;
      counted = omega (
        arith,
        sized,
        ap length parts,
        length-append b.front (t.front ++ rest),
        length-append t.front rest,
      );
    }

pub words_are : (h : Header) (count kind flags : ℕ) → kind ≡ header_kind h.type → flags ≡ (if has_fin h.type then 1 else 0)
    → record (header_words h count) { kind = kind; flags = flags } ≡ header_words h count
words_are h count kind flags k f =
    ap (λ (n : ℕ). record (header_words h count) { kind = n; flags = flags }) k
    ∙ ap (λ (n : ℕ). record (header_words h count) { flags = n }) f
