-- No field of a header is at fault if and only if the header can be written.
use Rattle.std.proofs.Common.{◌≡◌, ℕ, ◌+◌, ◌<◌, ◌≤◌, ◌^◌, ◌⊎◌, List, [], ◌∷◌, length, Bool, true, false, Option, Some, None, refl, sym, ap, ◌∙◌, inl, inr, arith}
use Rattle.std.specs.Prelude.{⊤, ◌≢◌, ◌&&◌, nat_lt, nat_le}
use Rattle.std.proofs.lemmas.Bool.Decides.{nat_tests}
use Rattle.quic_base.specs.Varint.{IsWidth}
use Rattle.quic_header_encode.specs.declared.long_type.HeaderKind.{HeaderKind}
use Rattle.quic_header_encode.specs.declared.long_type.HeaderKind.TheVariants as kind
use Rattle.quic_header_encode.specs.declared.header.Header.{Header}
use Rattle.quic_header_encode.specs.Kinds.{row}
use Rattle.quic_c_headers.specs.declared.words.HeaderFields.{HeaderFields}
use Rattle.quic_c_headers.specs.Faults.{is_width, can_have_number, all_can, AreLengths}
use Rattle.quic_results.specs.Faults.{first_false}
use Rattle.quic_c_headers.specs.Headers.{word_of, CanWriteHeader, DescribesNoHeader, IsNumbered, IsShaped}
use Rattle.quic_c_headers.proofs.Shaping.{shaped}
use Rattle.quic_c_headers.proofs.Writing.{can_described, clear_by, header_described}

-- ---- tests in a row

abbrev All : List Bool → Type 0
All [] = ⊤
All (holds ∷ others) = (holds ≡ true) × All others

all_hold : (index : ℕ) (tests : List Bool) → first_false index tests ≡ None → All tests
all_hold index [] e = tt
all_hold index (true ∷ others) e = (refl, all_hold (index + 1) others e)
all_hold index (false ∷ others) e = absurd cc

none_fails : (index : ℕ) (tests : List Bool) → All tests → first_false index tests ≡ None
none_fails index [] all = refl
none_fails index (true ∷ others) all = none_fails (index + 1) others all.1
none_fails index (false ∷ others) all = absurd (let e = all.0 in cc)

-- ---- each test

above_0 : (n : ℕ) → nat_lt 0 n ≡ true → 0 < n
above_0 n e = grind (arith, nat_tests)

is_above_0 : (n : ℕ) → 0 < n → nat_lt 0 n ≡ true
is_above_0 n h = grind (arith, nat_tests)

at_most : (n most : ℕ) → nat_le n most ≡ true → n ≤ most
at_most n most e = grind (arith, nat_tests)

is_at_most : (n most : ℕ) → n ≤ most → nat_le n most ≡ true
is_at_most n most h = grind (arith, nat_tests)

below : (n most : ℕ) → nat_lt n most ≡ true → n < most
below n most e = grind (arith, nat_tests)

is_below : (n most : ℕ) → n < most → nat_lt n most ≡ true
is_below n most h = grind (arith, nat_tests)

width : (n : ℕ) → is_width n ≡ true → IsWidth n
width n e = grind (arith, nat_tests)

is_a_width : (n : ℕ) → IsWidth n → is_width n ≡ true
is_a_width n h = grind (arith, nat_tests)

pub record Numbered (words : HeaderFields) : Type 0 where
  pub some : 1 ≤ words.number_len
  pub few : words.number_len ≤ 4
  pub small : words.number < 2 ^ 62

three : (len number : ℕ) → (nat_lt 0 len && nat_le len 4 && nat_lt number (2 ^ 62)) ≡ true
    → (1 ≤ len) × (len ≤ 4) × (number < 2 ^ 62)
three len number e = (grind (arith, nat_tests), grind (arith, nat_tests), grind (arith, nat_tests))

are_three : (len number : ℕ) → 1 ≤ len → len ≤ 4 → number < 2 ^ 62
    → (nat_lt 0 len && nat_le len 4 && nat_lt number (2 ^ 62)) ≡ true
are_three len number some few small = grind (arith, nat_tests)

-- ---- headers

-- a header whose number and length, if it has them, can be written
shape : (words : HeaderFields) (dst src token : List ℕ) → words.kind ≤ 5
    → ((words.kind ≤ 2) ⊎ (words.kind ≡ 4) → can_have_number words ≡ true) → (words.kind ≤ 2 → is_width words.length_len ≡ true)
    → (words.kind < 4 → nat_lt 0 words.version ≡ true) → nat_le (length dst) 20 ≡ true
    → (words.kind ≢ 4 → nat_le (length src) 20 ≡ true) → (words.kind ≡ 0 → nat_lt (length token) (2 ^ 62) ≡ true)
    → IsShaped words dst src token
shape words dst src token known number len version to from short = record {
  known = known;
  numbered = record {
    number = λ h. three words.number_len words.number (number h);
    len = λ h. width words.length_len (len h);
  };
  named = λ h. above_0 words.version (version h);
  parts = record {
    dst_few = at_most (length dst) 20 to;
    src_few = λ h. at_most (length src) 20 (from h);
    token_short = λ h. below (length token) _ (short h);
  };
}

pub is_shaped : (k : HeaderKind) (words : HeaderFields) (dst src token : List ℕ) → word_of (row k) ≡ words.kind
    → All (all_can k words (length dst) (length src) (length token)) → IsShaped words dst src token
is_shaped kind.Initial words dst src token e all =
    shape words dst src token (omega (arith, e)) (λ _. all.1.1.1.1.1.1.1.0) (λ _. all.1.1.1.1.1.1.0) (λ _. all.0) all.1.0
    (λ _. all.1.1.0) (λ _. all.1.1.1.1.0)
is_shaped kind.ZeroRtt words dst src token e all =
    shape words dst src token (omega (arith, e)) (λ _. all.1.1.1.1.1.0) (λ _. all.1.1.1.1.0) (λ _. all.0) all.1.0
    (λ _. all.1.1.0) (λ h. absurd (omega (arith, e, h)))
is_shaped kind.Handshake words dst src token e all =
    shape words dst src token (omega (arith, e)) (λ _. all.1.1.1.1.1.0) (λ _. all.1.1.1.1.0) (λ _. all.0) all.1.0
    (λ _. all.1.1.0) (λ h. absurd (omega (arith, e, h)))
is_shaped kind.Retry words dst src token e all =
    shape words dst src token (omega (arith, e)) (λ h. absurd (omega (arith, e, h))) (λ h. absurd (omega (arith, e, h)))
    (λ _. all.0) all.1.0 (λ _. all.1.1.0) (λ h. absurd (omega (arith, e, h)))
is_shaped kind.Short words dst src token e all =
    shape words dst src token (omega (arith, e)) (λ _. all.1.0) (λ h. absurd (omega (arith, e, h)))
    (λ h. absurd (omega (arith, e, h))) all.0 (λ h. absurd (h (sym e))) (λ h. absurd (omega (arith, e, h)))
is_shaped kind.VersionNegotiate words dst src token e all =
    shape words dst src token (omega (arith, e)) (λ h. absurd (omega (arith, e, h))) (λ h. absurd (omega (arith, e, h)))
    (λ h. absurd (omega (arith, e, h))) all.1.0 (λ _. all.1.1.0) (λ h. absurd (omega (arith, e, h)))

has_number : (words : HeaderFields) → IsNumbered words → (words.kind ≤ 2) ⊎ (words.kind ≡ 4)
    → can_have_number words ≡ true
has_number words s h = let n = s.number h in are_three words.number_len words.number n.0 n.1 n.2

pub all_are_had : (k : HeaderKind) (words : HeaderFields) (dst src token : List ℕ) → word_of (row k) ≡ words.kind
    → IsShaped words dst src token → All (all_can k words (length dst) (length src) (length token))
all_are_had kind.Initial words dst src token e s = (
  is_above_0 words.version (s.named (omega (arith, e))),
  (
    is_at_most (length dst) 20 s.parts.dst_few,
    (
      is_at_most (length src) 20 (s.parts.src_few (λ h. omega (arith, e, h))),
      (
        refl,
        (
          is_below (length token) _ (s.parts.token_short (sym e)),
          (
            refl,
            (
              is_a_width words.length_len (s.numbered.len (omega (arith, e))),
              (has_number words s.numbered (inl (omega (arith, e))), tt),
            ),
          ),
        ),
      ),
    ),
  ),
)
all_are_had kind.ZeroRtt words dst src token e s = (
  is_above_0 words.version (s.named (omega (arith, e))),
  (
    is_at_most (length dst) 20 s.parts.dst_few,
    (
      is_at_most (length src) 20 (s.parts.src_few (λ h. omega (arith, e, h))),
      (
        refl,
        (
          is_a_width words.length_len (s.numbered.len (omega (arith, e))),
          (has_number words s.numbered (inl (omega (arith, e))), tt),
        ),
      ),
    ),
  ),
)
all_are_had kind.Handshake words dst src token e s = (
  is_above_0 words.version (s.named (omega (arith, e))),
  (
    is_at_most (length dst) 20 s.parts.dst_few,
    (
      is_at_most (length src) 20 (s.parts.src_few (λ h. omega (arith, e, h))),
      (
        refl,
        (
          is_a_width words.length_len (s.numbered.len (omega (arith, e))),
          (has_number words s.numbered (inl (omega (arith, e))), tt),
        ),
      ),
    ),
  ),
)
all_are_had kind.Retry words dst src token e s = (
  is_above_0 words.version (s.named (omega (arith, e))),
  (
    is_at_most (length dst) 20 s.parts.dst_few,
    (is_at_most (length src) 20 (s.parts.src_few (λ h. omega (arith, e, h))), (refl, tt)),
  ),
)
all_are_had kind.Short words dst src token e s =
    (is_at_most (length dst) 20 s.parts.dst_few, (has_number words s.numbered (inr (sym e)), tt))
all_are_had kind.VersionNegotiate words dst src token e s = (
  refl,
  (
    is_at_most (length dst) 20 s.parts.dst_few,
    (is_at_most (length src) 20 (s.parts.src_few (λ h. omega (arith, e, h))), tt),
  ),
)

pub possible : (k : HeaderKind) (words : HeaderFields) (dst src token : List ℕ) → word_of (row k) ≡ words.kind
    → first_false 1 (all_can k words (length dst) (length src) (length token)) ≡ None
    → (clear : Bool) × (head : Header) × CanWriteHeader words dst src token clear head
possible k words dst src token e none =
    let s =
    is_shaped k words dst src token e (all_hold 1 (all_can k words (length dst) (length src) (length token)) none) in (
      clear_by k words.flags,
      header_described k words dst src token,
      can_described k words dst src token src token s e (λ _. refl) (λ _. refl),
    )

no_index : (i : ℕ) → ◌≡◌ {A = Option ℕ} None (Some i) → ⊥
no_index i e = cc

pub refused : (k : HeaderKind) (words : HeaderFields) (dst src token : List ℕ) (i : ℕ) → word_of (row k) ≡ words.kind
    → first_false 1 (all_can k words (length dst) (length src) (length token)) ≡ Some i
    → DescribesNoHeader words dst src token
refused k words dst src token i e some clear head can =
    let s = shaped words dst src token clear head can in
    let none = none_fails 1 _ (all_are_had k words dst src token e s) in
    no_index i (sym none ∙ some)

-- by lengths
found_by : (k : HeaderKind) (words : HeaderFields) (dst src token : List ℕ) (a b c : ℕ) (found : Option ℕ)
    → AreLengths dst src token a b c → first_false 1 (all_can k words a b c) ≡ found
    → first_false 1 (all_can k words (length dst) (length src) (length token)) ≡ found
found_by k words dst src token a b c found l e =
    ap (λ (n : ℕ). first_false 1 (all_can k words n (length src) (length token))) l.dst_is
    ∙ ap (λ (n : ℕ). first_false 1 (all_can k words a n (length token))) l.src_is
    ∙ ap (λ (n : ℕ). first_false 1 (all_can k words a b n)) l.token_is ∙ e

pub possible_by : (k : HeaderKind) (words : HeaderFields) (a b c : ℕ) → word_of (row k) ≡ words.kind
    → first_false 1 (all_can k words a b c) ≡ None → (dst src token : List ℕ) → AreLengths dst src token a b c
    → (clear : Bool) × (head : Header) × CanWriteHeader words dst src token clear head
possible_by k words a b c e none dst src token l =
    possible k words dst src token e (found_by k words dst src token a b c None l none)

pub refused_by : (k : HeaderKind) (words : HeaderFields) (a b c i : ℕ) → word_of (row k) ≡ words.kind
    → first_false 1 (all_can k words a b c) ≡ Some i → (dst src token : List ℕ) → AreLengths dst src token a b c
    → DescribesNoHeader words dst src token
refused_by k words a b c i e some dst src token l =
    refused k words dst src token i e (found_by k words dst src token a b c (Some i) l some)
