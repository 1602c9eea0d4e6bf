-- The header that the fields describe, and its bytes.
use Rattle.std.proofs.Common.{◌≡◌, ℕ, ◌+◌, ◌-◌, ◌*◌, ◌/◌, ◌%◌, ◌<◌, ◌≤◌, ◌^◌, ◌⊎◌, Bool, false, List, [], ◌∷◌, ◌++◌, length, take, drop, replicate, IsTrue, refl, sym, ap, subst, ◌∙◌, inl, inr, arith, rules}
use Rattle.std.specs.Prelude.{◌≢◌, bit_xor, nat_eq}
use Rattle.std.proofs.lemmas.Bool.{cases_eq}
use Rattle.std.proofs.lemmas.List.{append-nil, length-append, length-replicate, length-take-le, take-append-drop}
use Rattle.std.proofs.lemmas.Bool.Decides.{nat_tests}
use Rattle.std.specs.Int.{byte_at}
use Rattle.quic_base.proofs.PublicLaws.{length-bytes_of}
use Rattle.quic_header_encode.proofs.Sizes.{long_length}
use Rattle.quic_base.specs.ConnectionId.{long_id}
use Rattle.quic_base.specs.Number.{has_bit, bytes_of}
use Rattle.quic_base.specs.Varint.{IsWidth}
use Rattle.quic_crypto.specs.declared.packet_number.PacketNumber.{PacketNumber}
use Rattle.quic_crypto.specs.declared.packet_number.PacketNumber.TheVariants.{U8}
use Rattle.quic_crypto.specs.PacketNumbers.{low_part, number_bytes, number_size, window_of, IsInRange}
use Rattle.quic_header_encode.specs.declared.long_type.HeaderKind.{HeaderKind}
use Rattle.quic_header_encode.specs.declared.long_type.HeaderKind.TheVariants as kind
use Rattle.quic_header_encode.specs.declared.header.Header.{Header}
use Rattle.quic_header_encode.specs.declared.header.Header.TheVariants as header
use Rattle.quic_header_encode.specs.declared.long_type.LongType.TheVariants.{Handshake, ZeroRtt}
use Rattle.quic_header_encode.specs.Kinds.{bit_value, fields_of, header_text, row, says, Row}
use Rattle.quic_header_encode.specs.Writing.{token_by, type_bits, IsTyped}
use Rattle.quic_header_encode.specs.Kinds.{long_front}
use Rattle.quic_c_headers.specs.declared.words.HeaderFields.{HeaderFields}
use Rattle.quic_c_headers.specs.Headers.{part_of, described_bytes, CanWriteHeader}
use Rattle.quic_c_headers.specs.Headers.{word_of}
use Rattle.quic_c_headers.specs.Headers.{bare_version, first_word, worded_bytes, IsBare, IsNumbered, IsShaped}
use Rattle.quic_c_headers.specs.Headers.{WrotePacketHeader}

-- whether the fixed bit is cleared
abbrev pub clear_by : HeaderKind → ℕ → Bool
clear_by kind.VersionNegotiate flags = false
clear_by _ flags = has_bit 64 flags

-- the header that they describe
abbrev pub header_described : HeaderKind → HeaderFields → List ℕ → List ℕ → List ℕ → Header
header_described kind.Initial words dst src token =
    header.Initial (record {
      dst_cid = dst;
      src_cid = src;
      token = token;
      number = part_of words.number_len words.number;
      version = words.version;
    })
header_described kind.ZeroRtt words dst src token =
    header.Long ZeroRtt dst src (part_of words.number_len words.number) words.version
header_described kind.Handshake words dst src token =
    header.Long Handshake dst src (part_of words.number_len words.number) words.version
header_described kind.Retry words dst src token = header.Retry dst src words.version
header_described kind.Short words dst src token =
    header.Short (has_bit 0x20 words.flags) (has_bit 0x04 words.flags) dst (part_of words.number_len words.number)
header_described kind.VersionNegotiate words dst src token = header.VersionNegotiate (bit_xor 0x40 (words.flags % 0x80)) src dst

bit_at : (x n : ℕ) → x < 2 → bit_value (nat_eq x 1) n ≡ n * x
bit_at x n lt = grind (arith, nat_tests)

-- the bits of flags
pub clear_is : (f : ℕ) → bit_value (has_bit 64 f) 64 ≡ 64 * (f / 64 % 2)
clear_is f = bit_at (f / 64 % 2) 64 (omega arith)

pub spin_is : (f : ℕ) → bit_value (has_bit 32 f) 32 ≡ 32 * (f / 32 % 2)
spin_is f = bit_at (f / 32 % 2) 32 (omega arith)

pub phase_is : (f : ℕ) → bit_value (has_bit 4 f) 4 ≡ 4 * (f / 4 % 2)
phase_is f = bit_at (f / 4 % 2) 4 (omega arith)

-- the part of a number that is written
abbrev Part : ℕ → ℕ → Type 0
Part number len =
    (len ≡ number_size (part_of len number)) × (low_part (part_of len number) ≡ number % window_of (part_of len number))
    × IsInRange (part_of len number)

pub part_says : (len number : ℕ) → 1 ≤ len → len ≤ 4 → Part number len
part_says len number some few = elim (cases_eq len 2) [
  | inl e ↦ subst (Part number) (sym e) (refl, refl, omega arith)
  | inr a ↦ elim (cases_eq len 3) [
    | inl e ↦ subst (Part number) (sym e) (refl, refl, omega arith)
    | inr b ↦ elim (cases_eq len 4) [
      | inl e ↦ subst (Part number) (sym e) (refl, refl, omega arith)
      | inr d ↦ (let e : 1 ≡ len = omega (arith, some, few, a, b, d) in subst (Part number) e (refl, refl, omega arith))
    ]
  ]
]

-- ---- that it can be written

-- the facts about a number
numbered : (words : HeaderFields) → IsNumbered words → (words.kind ≤ 2) ⊎ (words.kind ≡ 4)
    → (words.number < 2 ^ 62) × Part words.number words.number_len
numbered words s kind =
    let n = s.number kind in (n.2, part_says words.number_len words.number n.0 n.1)

-- the facts about a sender's id
source_described : (words : HeaderFields) (dst src token from : List ℕ) → IsShaped words dst src token
    → (words.kind ≢ 4 → from ≡ src) → words.kind ≢ 4
    → (src ≡ from) × (length src ≤ 20)
source_described words dst src token from s source other = (sym (source other), s.parts.src_few other)

pub can_described : (k : HeaderKind) (words : HeaderFields) (dst src token from own : List ℕ)
    → IsShaped words dst src token → word_of (row k) ≡ words.kind
    → (words.kind ≢ 4 → from ≡ src) → (words.kind ≡ 0 → own ≡ token)
    → CanWriteHeader words dst src token (clear_by k words.flags) (header_described k words dst from own)
can_described kind.Initial words dst src token from own s e source mine =
    let n = numbered words s.numbered (inl (omega (arith, e))) in
    record {
      described = record {
        kind = sym e;
        flags = refl;
        version = λ _. (refl, s.named (omega (arith, e)));
        number = (n.0, n.1.0, n.1.1);
        len = λ _. s.numbered.len (omega (arith, e));
        dst_is = refl;
        src_is = λ _. source_described words dst src token from s source (λ z. omega (arith, e, z));
        token_is = λ _. sym (mine (sym e));
      };
      dst_few = s.parts.dst_few;
      writable = (subst (λ (t : List ℕ). length t < 2 ^ 62) (sym (mine (sym e))) (s.parts.token_short (sym e)), n.1.2);
    }
can_described kind.ZeroRtt words dst src token from own s e source mine =
    let n = numbered words s.numbered (inl (omega (arith, e))) in
    record {
      described = record {
        kind = sym e;
        flags = refl;
        version = λ _. (refl, s.named (omega (arith, e)));
        number = (n.0, n.1.0, n.1.1);
        len = λ _. s.numbered.len (omega (arith, e));
        dst_is = refl;
        src_is = λ _. source_described words dst src token from s source (λ z. omega (arith, e, z));
        token_is = λ no. absurd (search (rules, no));
      };
      dst_few = s.parts.dst_few;
      writable = (omega arith, n.1.2);
    }
can_described kind.Handshake words dst src token from own s e source mine =
    let n = numbered words s.numbered (inl (omega (arith, e))) in
    record {
      described = record {
        kind = sym e;
        flags = refl;
        version = λ _. (refl, s.named (omega (arith, e)));
        number = (n.0, n.1.0, n.1.1);
        len = λ _. s.numbered.len (omega (arith, e));
        dst_is = refl;
        src_is = λ _. source_described words dst src token from s source (λ z. omega (arith, e, z));
        token_is = λ no. absurd (search (rules, no));
      };
      dst_few = s.parts.dst_few;
      writable = (omega arith, n.1.2);
    }
can_described kind.Retry words dst src token from own s e source mine = record {
  described = record {
    kind = sym e;
    flags = refl;
    version = λ _. (refl, s.named (omega (arith, e)));
    number = tt;
    len = λ no. absurd (search (rules, no));
    dst_is = refl;
    src_is = λ _. source_described words dst src token from s source (λ z. omega (arith, e, z));
    token_is = λ no. absurd (search (rules, no));
  };
  dst_few = s.parts.dst_few;
  writable = (omega arith, omega arith);
}
can_described kind.Short words dst src token from own s e source mine =
    let n = numbered words s.numbered (inr (sym e)) in
    record {
      described = record {
        kind = sym e;
        flags = (refl, refl, refl);
        version = λ no. absurd (search (rules, no));
        number = (n.0, n.1.0, n.1.1);
        len = λ no. absurd (search (rules, no));
        dst_is = refl;
        src_is = λ no. absurd (search (rules, no));
        token_is = λ no. absurd (search (rules, no));
      };
      dst_few = s.parts.dst_few;
      writable = (omega arith, n.1.2);
    }
can_described kind.VersionNegotiate words dst src token from own s e source mine = record {
  described = record {
    kind = sym e;
    flags = (refl, refl);
    version = λ no. absurd (search (rules, no));
    number = tt;
    len = λ no. absurd (search (rules, no));
    dst_is = refl;
    src_is = λ _. source_described words dst src token from s source (λ z. omega (arith, e, z));
    token_is = λ no. absurd (search (rules, no));
  };
  dst_few = s.parts.dst_few;
  writable = (omega arith, omega arith);
}

-- ---- the bytes

-- the same text by equal bits, number and count of zeros
text_same : (r : Row) (a b version m n : ℕ) (dst src token : List ℕ) (number other : PacketNumber) → a ≡ b → m ≡ n
    → number ≡ other
    → header_text (replicate m 0) (says r a version dst src token number)
    ≡ header_text (replicate n 0) (says r b version dst src token other)
text_same r a b version m n dst src token number other bits count same =
    ap (λ (x : ℕ). header_text (replicate m 0) (says r x version dst src token number)) bits
    ∙ ap (λ (k : ℕ). header_text (replicate k 0) (says r b version dst src token number)) count
    ∙ ap (λ (p : PacketNumber). header_text (replicate n 0) (says r b version dst src token p)) same

-- what is written for them
abbrev pub stored_described : HeaderKind → ℕ → HeaderFields → List ℕ → List ℕ → List ℕ → List ℕ
stored_described k len words dst src token =
    header_text (replicate len 0)
    (says (row k) (first_word k words.flags) words.version dst src token (part_of words.number_len words.number))

pub stored_as : (k : HeaderKind) (f len : ℕ) (words : HeaderFields) (dst src token : List ℕ) (number : PacketNumber)
    → f ≡ first_word k words.flags → number ≡ part_of words.number_len words.number
    → header_text (replicate len 0) (says (row k) f words.version dst src token number)
    ≡ stored_described k len words dst src token
stored_as k f len words dst src token number e is =
    text_same (row k) f (first_word k words.flags) words.version len len dst src token number _ e refl is

-- the other bits of the first byte of a header that they describe
bits_described : (k : HeaderKind) (words : HeaderFields) (dst src token : List ℕ)
    → first_word k words.flags
    ≡ (fields_of (header_described k words dst src token)).bits - bit_value (clear_by k words.flags) 64
bits_described kind.Initial words dst src token = omega (arith, clear_is words.flags)
bits_described kind.ZeroRtt words dst src token = omega (arith, clear_is words.flags)
bits_described kind.Handshake words dst src token = omega (arith, clear_is words.flags)
bits_described kind.Retry words dst src token = omega (arith, clear_is words.flags)
bits_described kind.Short words dst src token =
    omega (arith, clear_is words.flags, spin_is words.flags, phase_is words.flags)
bits_described kind.VersionNegotiate words dst src token = omega arith

pub bytes_described : (k : HeaderKind) (len : ℕ) (words : HeaderFields) (dst src token : List ℕ) → IsNumbered words
    → word_of (row k) ≡ words.kind
    → (IsWidth words.length_len → len ≡ words.length_len)
    → stored_described k len words dst src token ≡ described_bytes words.length_len (clear_by k words.flags)
    (header_described k words dst src token)
bytes_described kind.Initial len words dst src token s e same =
    text_same (row kind.Initial) _ _ words.version len words.length_len dst src token _ _
    (bits_described kind.Initial words dst src token) (same (s.len (omega (arith, e)))) refl
bytes_described kind.ZeroRtt len words dst src token s e same =
    text_same (row kind.ZeroRtt) _ _ words.version len words.length_len dst src token _ _
    (bits_described kind.ZeroRtt words dst src token) (same (s.len (omega (arith, e)))) refl
bytes_described kind.Handshake len words dst src token s e same =
    text_same (row kind.Handshake) _ _ words.version len words.length_len dst src token _ _
    (bits_described kind.Handshake words dst src token) (same (s.len (omega (arith, e)))) refl
bytes_described kind.Retry len words dst src token s e same =
    text_same (row kind.Retry) _ _ words.version len len dst src token (U8 0) (U8 0)
    (bits_described kind.Retry words dst src token) refl refl
bytes_described kind.Short len words dst src token s e same =
    text_same (row kind.Short) _ _ words.version len len dst src token _ _
    (bits_described kind.Short words dst src token) refl refl
bytes_described kind.VersionNegotiate len words dst src token s e same =
    text_same (row kind.VersionNegotiate) _ _ words.version len len dst src token (U8 0) (U8 0)
    (bits_described kind.VersionNegotiate words dst src token) refl refl

-- ---- what was written

pub written : (n : ℕ) (old new bytes words : List ℕ) → n ≤ length new → take n new ≡ bytes → drop n new ≡ drop n old
    → bytes ≡ words
    → (new ≡ words ++ drop n old) × (n ≡ length words)
written n old new bytes words within front back same = (
  sym (take-append-drop n new) ∙ ap (λ (xs : List ℕ). xs ++ drop n new) (front ∙ same)
      ∙ ap (λ (xs : List ℕ). words ++ xs) back,
  sym (length-take-le n new within) ∙ ap length (front ∙ same),
)

-- ---- short headers

pub short_can : (words : HeaderFields) (dst : List ℕ) → IsShaped words dst [] [] → words.kind ≡ 4
    → CanWriteHeader words dst [] [] (clear_by kind.Short words.flags) (header_described kind.Short words dst [] [])
short_can words dst s e = can_described kind.Short words dst [] [] [] [] s (sym e) (λ _. refl) (λ _. refl)

low_bytes : (len number : ℕ) → 1 ≤ len → len ≤ 4 → number_bytes (part_of len number) ≡ bytes_of len number
unfolding bytes_of
low_bytes len number some few =
    let P : ℕ → Type 0 = λ n. number_bytes (part_of n number) ≡ bytes_of n number in
    elim (cases_eq len 2) [
      | inl e ↦ subst P (sym e) (let a : byte_at 0 (number % 2 ^ 16)
          ≡ byte_at 0 number = omega arith in let b : byte_at 1 (number % 2 ^ 16)
          ≡ byte_at 1 number = omega arith in cc)
      | inr x ↦ elim (cases_eq len 3) [
        | inl e ↦ subst P (sym e) (let a : byte_at 0 (number % 2 ^ 24)
            ≡ byte_at 0 number = omega arith in let b : byte_at 1 (number % 2 ^ 24) ≡ byte_at 1 number = omega arith in
            let d : byte_at 2 (number % 2 ^ 24) ≡ byte_at 2 number = omega arith in cc)
        | inr y ↦ elim (cases_eq len 4) [
          | inl e ↦ subst P (sym e) (let a : byte_at 0 (number % 2 ^ 32)
              ≡ byte_at 0 number = omega arith in let b : byte_at 1 (number % 2 ^ 32)
              ≡ byte_at 1 number = omega arith in
              let d : byte_at 2 (number % 2 ^ 32) ≡ byte_at 2 number = omega arith in
              let f : byte_at 3 (number % 2 ^ 32) ≡ byte_at 3 number = omega arith in
              cc)
          | inr z ↦ (let e : 1 ≡ len = omega (arith, some, few, x, y, z) in subst P e
              (let a : byte_at 0 (number % 2 ^ 8) ≡ byte_at 0 number = omega arith in cc))
        ]
      ]
    ]

-- the fields of one, as they are written one after another
abbrev pub short_fields : HeaderFields → List ℕ → List ℕ
short_fields words dst =
    (first_word kind.Short words.flags + (words.number_len - 1)) ∷ (dst ++ bytes_of words.number_len words.number)

pub short_stored : (words : HeaderFields) (dst : List ℕ) → 1 ≤ words.number_len → words.number_len ≤ 4
    → short_fields words dst ≡ worded_bytes kind.Short words dst [] []
short_stored words dst some few =
    let part : PacketNumber = part_of words.number_len words.number in
    let size : words.number_len ≡ number_size part = (part_says words.number_len words.number some few).0 in
    ap (λ (xs : List ℕ). (first_word kind.Short words.flags + (words.number_len - 1)) ∷ (dst ++ xs))
    (sym (low_bytes words.number_len words.number some few))
    ∙ ap (λ (n : ℕ). (first_word kind.Short words.flags + (n - 1)) ∷ (dst ++ number_bytes part)) size

pub short_described : (words : HeaderFields) (dst : List ℕ) → IsShaped words dst [] [] → words.kind ≡ 4
    → worded_bytes kind.Short words dst [] [] ≡ described_bytes words.length_len (clear_by kind.Short words.flags)
    (header_described kind.Short words dst [] [])
short_described words dst s e = bytes_described kind.Short words.length_len words dst [] [] s.numbered (sym e) (λ _. refl)

pub short_wrote : (words : HeaderFields) (dst old new : List ℕ) (n : ℕ) → IsShaped words dst [] [] → words.kind ≡ 4
    → n ≤ length new → take n new ≡ worded_bytes kind.Short words dst [] [] → drop n new ≡ drop n old
    → WrotePacketHeader words dst [] [] old new n
short_wrote words dst old new n s e within front back =
    let all = written n old new _ _ within front back (short_described words dst s e) in
    record {
      clear = clear_by kind.Short words.flags;
      head = header_described kind.Short words dst [] [];
      can = short_can words dst s e;
      front = all.0;
      count_is = all.1;
    }

-- ---- headers without a number

-- the fields of one, as they are written
abbrev pub bare_fields : HeaderKind → HeaderFields → List ℕ → List ℕ → List ℕ
bare_fields k words dst src =
    long_front (first_word k words.flags + type_bits k words.version) (bare_version k words.version) dst src

pub bare_stored : (k : HeaderKind) (words : HeaderFields) (dst src token : List ℕ) → IsBare k
    → bare_fields k words dst src ≡ stored_described k words.length_len words dst src token
bare_stored kind.Initial words dst src token bare = absurd bare
bare_stored kind.ZeroRtt words dst src token bare = absurd bare
bare_stored kind.Handshake words dst src token bare = absurd bare
bare_stored kind.Short words dst src token bare = absurd bare
bare_stored kind.Retry words dst src token bare = refl
bare_stored kind.VersionNegotiate words dst src token bare =
    let first : first_word kind.VersionNegotiate words.flags + 0 ≡ first_word kind.VersionNegotiate words.flags = omega arith in
    ap (λ (n : ℕ). long_front n 0 dst src) first

pub bare_length : (k : HeaderKind) (words : HeaderFields) (dst src : List ℕ)
    → length (bare_fields k words dst src) ≡ 7 + length dst + length src
bare_length k words dst src =
    long_length (first_word k words.flags + type_bits k words.version) (bare_version k words.version) dst src

-- ---- headers of packets with a number and a length

pub with_length : (k : HeaderKind) (words : HeaderFields) → word_of (row k) ≡ words.kind → IsTrue (row k).has_len
    → words.kind ≤ 2
with_length kind.Initial words e has = omega (arith, e)
with_length kind.ZeroRtt words e has = omega (arith, e)
with_length kind.Handshake words e has = omega (arith, e)
with_length kind.Retry words e has = absurd (search (rules, has))
with_length kind.Short words e has = absurd (search (rules, has))
with_length kind.VersionNegotiate words e has = absurd (search (rules, has))

-- the fields of one, as they are written one after another
abbrev pub fields_stored : HeaderKind → HeaderFields → List ℕ → List ℕ → List ℕ → List ℕ
fields_stored k words dst src token =
    (long_front (192 - 64 * (words.flags / 64 % 2) + type_bits k words.version + (words.number_len - 1)) words.version dst src
    ++ token_by k token)
    ++ (replicate words.length_len 0 ++ bytes_of words.number_len words.number)

pub fields_length : (k : HeaderKind) (words : HeaderFields) (dst src token : List ℕ)
    → length (fields_stored k words dst src token)
    ≡ 7 + length dst + length src + length (token_by k token) + (words.length_len + words.number_len)
fields_length k words dst src token =
    let first : ℕ = 192 - 64 * (words.flags / 64 % 2) + type_bits k words.version + (words.number_len - 1) in
    let front : List ℕ = long_front first words.version dst src in
    omega (
      arith,
      length-append (front ++ token_by k token) (replicate words.length_len 0 ++ bytes_of words.number_len words.number),
      length-append front (token_by k token),
      length-append (replicate words.length_len 0) (bytes_of words.number_len words.number),
      length-replicate {A = ℕ} words.length_len 0,
      length-bytes_of words.number_len words.number,
      long_length first words.version dst src,
    )

pub typed : (k : HeaderKind) → IsTrue (row k).has_len → IsTyped k
typed kind.Initial has = refl
typed kind.ZeroRtt has = refl
typed kind.Handshake has = refl
typed kind.Retry has = refl
typed kind.Short has = absurd (search (rules, has))
typed kind.VersionNegotiate has = absurd (search (rules, has))

-- the bytes written for one, field after field, are the header that its fields describe
pub numbered_described : (k : HeaderKind) (words : HeaderFields) (dst src token : List ℕ) → IsTrue (row k).has_len
    → 1 ≤ words.number_len → words.number_len ≤ 4
    → fields_stored k words dst src token ≡ worded_bytes k words dst src token
numbered_described kind.Initial words dst src token has some few =
    let first : ℕ = 192 - 64 * (words.flags / 64 % 2) + type_bits kind.Initial words.version + (words.number_len - 1) in
    let part : PacketNumber = part_of words.number_len words.number in
    let size : words.number_len ≡ number_size part = (part_says words.number_len words.number some few).0 in
    let own : List ℕ = token_by kind.Initial token in
    let ids : List ℕ = bytes_of 4 words.version ++ (long_id dst ++ long_id src) in
    ap (λ (xs : List ℕ). (long_front (first) words.version dst src ++ own)
    ++ (replicate words.length_len 0 ++ xs))
    (sym (low_bytes words.number_len words.number some few))
    ∙ ap (λ (n : ℕ). (192 - 64 * (words.flags / 64 % 2) + type_bits kind.Initial words.version + (n - 1))
    ∷ ((ids ++ own) ++ (replicate words.length_len 0 ++ number_bytes part))) size
    ∙ ap (λ (n : ℕ). (192 - n + type_bits kind.Initial words.version + (number_size part - 1))
    ∷ ((ids ++ own) ++ (replicate words.length_len 0 ++ number_bytes part))) (sym (clear_is words.flags))
numbered_described kind.ZeroRtt words dst src token has some few =
    let first : ℕ = 192 - 64 * (words.flags / 64 % 2) + type_bits kind.ZeroRtt words.version + (words.number_len - 1) in
    let part : PacketNumber = part_of words.number_len words.number in
    let size : words.number_len ≡ number_size part = (part_says words.number_len words.number some few).0 in
    let front : List ℕ = long_front (first) words.version dst src in
    let ids : List ℕ = bytes_of 4 words.version ++ (long_id dst ++ long_id src) in
    ap (λ (xs : List ℕ). xs ++ (replicate words.length_len 0 ++ bytes_of words.number_len words.number)) (append-nil front)
    ∙ ap (λ (xs : List ℕ). front ++ (replicate words.length_len 0 ++ xs)) (sym (low_bytes words.number_len words.number some few))
    ∙ ap (λ (n : ℕ). (192 - 64 * (words.flags / 64 % 2) + type_bits kind.ZeroRtt words.version + (n - 1))
    ∷ (ids ++ (replicate words.length_len 0 ++ number_bytes part))) size
    ∙ ap (λ (n : ℕ). (192 - n + type_bits kind.ZeroRtt words.version + (number_size part - 1))
    ∷ (ids ++ (replicate words.length_len 0 ++ number_bytes part))) (sym (clear_is words.flags))
numbered_described kind.Handshake words dst src token has some few =
    let first : ℕ = 192 - 64 * (words.flags / 64 % 2) + type_bits kind.Handshake words.version + (words.number_len - 1) in
    let part : PacketNumber = part_of words.number_len words.number in
    let size : words.number_len ≡ number_size part = (part_says words.number_len words.number some few).0 in
    let front : List ℕ = long_front (first) words.version dst src in
    let ids : List ℕ = bytes_of 4 words.version ++ (long_id dst ++ long_id src) in
    ap (λ (xs : List ℕ). xs ++ (replicate words.length_len 0 ++ bytes_of words.number_len words.number)) (append-nil front)
    ∙ ap (λ (xs : List ℕ). front ++ (replicate words.length_len 0 ++ xs)) (sym (low_bytes words.number_len words.number some few))
    ∙ ap (λ (n : ℕ). (192 - 64 * (words.flags / 64 % 2) + type_bits kind.Handshake words.version + (n - 1))
    ∷ (ids ++ (replicate words.length_len 0 ++ number_bytes part))) size
    ∙ ap (λ (n : ℕ). (192 - n + type_bits kind.Handshake words.version + (number_size part - 1))
    ∷ (ids ++ (replicate words.length_len 0 ++ number_bytes part))) (sym (clear_is words.flags))
numbered_described kind.Retry words dst src token has some few = absurd (search (rules, has))
numbered_described kind.Short words dst src token has some few = absurd (search (rules, has))
numbered_described kind.VersionNegotiate words dst src token has some few = absurd (search (rules, has))
