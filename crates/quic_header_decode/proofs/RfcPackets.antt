-- A datagram begins with one packet that RFC 9000 allows, or with none for one reason.
use Rattle.std.specs.Prelude.{◌≡◌, ◌≢◌, ℕ, ◌+◌, ◌≤◌, ◌⊎◌, Bool, true, false, List, [], ◌∷◌, ◌++◌, length, slice_index, take, Result, Ok, Err, Contains, nat_eq, codes}
use Rattle.std.proofs.Common.{sym, ap, subst, ◌∙◌, arith, refl, cond, inl, inr, suc, append_assoc, length-append}
use Rattle.std.proofs.lemmas.Bool.{cases_lt}
use Rattle.std.proofs.lemmas.List.{append-nil}
use Rattle.std.proofs.lemmas.Bool.Decides.{nat_tests}
use Rattle.std.specs.List.{list_any}
use Rattle.quic_base.specs.Number.{AreBytes, has_bit, num}
use Rattle.quic_base.specs.One.{ExactlyOne}
use Rattle.quic_base.specs.ConnectionId.{long_id}
use Rattle.quic_header_encode.specs.Types.{long_type}
use Rattle.quic_header_decode.specs.declared.protected.ProtectedHeader.{ProtectedHeader}
use Rattle.quic_header_decode.specs.declared.protected.ProtectedHeader.TheVariants as protected
use Rattle.quic_header_decode.specs.Grammar.{AreHeaderFields, Bytes, Cut, CutAnswer, DestinationId, HeaderAt, HeaderField, HeaderValue, IsHeader, IsHeaderField, IsKnownVersion, Length, Number, ShortId, SourceId, Supported, Token, TokenLength, Uncut, Version, is_long, header_row_of, typed_row}
use Rattle.quic_header_decode.specs.Places.{IsUnknownVersion}
use Rattle.quic_header_decode.specs.Reading.{DecodeOptions, TakesWithin, cut_at, wide_at}
use Rattle.quic_header_decode.specs.Refusal.{Refusal, Unsupported, Invalid, NoMemory}
use Rattle.quic_header_decode.specs.Rfc.{IsComplete, IsNegotiation, IsRfcPacket, IsRfcRefused, LacksFixedBit, PartialRetry, RfcPacketAnswer, RfcRefusal, Unread, fixed_bit, retry, uncut, unknown_version, with_grease}
use Rattle.quic_header_decode.proofs.CutAnswers.{cut_again, cut_answer, uncut_again}
use Rattle.quic_header_decode.proofs.Headers.{Ids, id_values, ids_of, long_row, version_is}
use Rattle.quic_header_decode.proofs.Rows.{known_at, known_again, row_behind_ids}
use Rattle.quic_header_decode.proofs.Steps.{bool_cases, err_ok, err_same, take_front}
use Rattle.quic_header_decode.proofs.Wide.{Read, named, unknown_again, wide_unknown}

abbrev Packet : Type 0
Packet = ProtectedHeader × ℕ × ℕ

abbrev Answer : Type 0
Answer = Result Packet RfcRefusal

-- ---- what a header says about its version

pub same_first : {a b : ℕ} {xs ys : List ℕ} → a ∷ xs ≡ b ∷ ys → (a ≡ b) × (xs ≡ ys)
same_first e = (cc, cc)

-- values grow
grown : (options : DecodeOptions) (fields : List HeaderField) (before after : List HeaderValue) (bytes rest : List ℕ)
    → AreHeaderFields options fields before after bytes rest
    → (more : List HeaderValue) × (after ≡ before ++ more)
grown options [] before after bytes rest are = ([], are.0 ∙ sym (append-nil before))
grown options (field ∷ fields) before after bytes rest are =
    let later = grown options fields (before ++ are.0) after are.1 rest are.3 in
    (are.0 ++ later.0, later.1 ∙ append_assoc before are.0 later.0)

-- the version of a long header, and the values of its fields
record HasVersion (options : DecodeOptions) (text : List ℕ) (values : List HeaderValue) : Type 0 where
  number : ℕ
  enough : 4 ≤ length text
  is : num (take 4 text) ≡ number
  more : List HeaderValue
  dst : List ℕ
  src : List ℕ
  values_are : values ≡ Number number ∷ Bytes dst ∷ Bytes src ∷ more
  known : number ≢ 0 → Contains options.versions number
  none : number ≡ 0 → more ≡ []

behind : (options : DecodeOptions) (first number : ℕ) (text dst src left rest : List ℕ) (values : List HeaderValue)
    → 4 ≤ length text → num (take 4 text) ≡ number
    → (none : Bool) → nat_eq number 0 ≡ none
    → AreHeaderFields options (cond none [] (Supported number ∷ typed_row (long_type number first)))
    (id_values number dst src) values left rest
    → HasVersion options text values
behind options first number text dst src left rest values enough is true zero (values_are, same) = record {
  number = number;
  enough = enough;
  is = is;
  more = [];
  dst = dst;
  src = src;
  values_are = values_are;
  known = λ some. absurd (some (grind (arith, nat_tests)));
  none = λ _. refl;
}
behind options first number text dst src left rest values enough is false zero (v, back, (f, split, (v_is, nothing, known)), others) =
    let later =
    grown options (typed_row (long_type number first)) (id_values number dst src ++ v) values back rest others in
    record {
      number = number;
      enough = enough;
      is = is;
      more = v ++ later.0;
      dst = dst;
      src = src;
      values_are = later.1;
      known = λ _. known;
      none = λ e. absurd (let yes : nat_eq number 0 ≡ true = grind (arith, nat_tests) in cc);
    }

ids_enough : (text : List ℕ) (number : ℕ) (dst src left : List ℕ) → Ids text number dst src left → 4 ≤ length text
ids_enough text number dst src left ids =
    omega (arith, ids.is_word.width, ap length ids.text_is, length-append ids.word (long_id dst ++ (long_id src ++ left)))

has_version : (options : DecodeOptions) (first : ℕ) (text rest : List ℕ) (values : List HeaderValue)
    → is_long first ≡ true
    → AreHeaderFields options (header_row_of first (num (take 4 text))) [] values text rest
    → HasVersion options text values
has_version options first text rest values long fields =
    let row : AreHeaderFields options (long_row (row_behind_ids first (num (take 4 text)))) [] values text rest =
    subst (λ (b : Bool). AreHeaderFields options
    (cond b (long_row (row_behind_ids first (num (take 4 text)))) (ShortId ∷ [])) [] values text rest) long fields in
    let x = ids_of options (row_behind_ids first (num (take 4 text))) values text rest row in
    let same : num (take 4 text) ≡ x.0 = version_is text x.0 x.1 x.2 x.3 x.4 in
    behind options first x.0 text x.1 x.2 x.3 rest values (ids_enough text x.0 x.1 x.2 x.3 x.4) same (nat_eq x.0 0) refl
    (subst (λ (n : ℕ). AreHeaderFields options (row_behind_ids first n) (id_values x.0 x.1 x.2) values x.3 rest) same x.5)

-- ---- the fields don't depend on the fixed bit

field_same : (options : DecodeOptions) (a b : Bool) (field : HeaderField) (before values : List HeaderValue)
    (bytes rest : List ℕ) → IsHeaderField (with_grease a options) field before values bytes rest
    → IsHeaderField (with_grease b options) field before values bytes rest
field_same options a b Version before values bytes rest is = is
field_same options a b DestinationId before values bytes rest is = is
field_same options a b SourceId before values bytes rest is = is
field_same options a b (Supported version) before values bytes rest is = is
field_same options a b TokenLength before values bytes rest is = is
field_same options a b Token before values bytes rest is = is
field_same options a b Length before values bytes rest is = is
field_same options a b ShortId before values bytes rest is = is

fields_same : (options : DecodeOptions) (a b : Bool) (fields : List HeaderField) (before after : List HeaderValue)
    (bytes rest : List ℕ) → AreHeaderFields (with_grease a options) fields before after bytes rest
    → AreHeaderFields (with_grease b options) fields before after bytes rest
fields_same options a b [] before after bytes rest are = are
fields_same options a b (field ∷ fields) before after bytes rest are = (
  are.0,
  are.1,
  (are.2.0, are.2.1, field_same options a b field before are.0 are.2.0 are.1 are.2.2),
  fields_same options a b fields (before ++ are.0) after are.1 rest are.3,
)

first_of : (first : ℕ) (text bytes : List ℕ) → bytes ≡ first ∷ text → slice_index bytes 0 ≡ first
first_of first text bytes e = ap (λ (l : List ℕ). slice_index l 0) e

-- ---- with the fixed bit checked, and without

pub relaxed : (options : DecodeOptions) (datagram : List ℕ) (h : ProtectedHeader) (p q : ℕ)
    → Cut (with_grease false options) datagram h p q
    → Cut (with_grease true options) datagram h p q × (has_bit 0x40 (slice_index datagram 0) ≡ true)
relaxed options datagram h p q cut =
    let at = cut.1 in
    let row = header_row_of at.0 (num (take 4 at.1)) in (
      (
        cut.0,
        (at.0, at.1, at.2, at.3, refl, fields_same options false true row [] at.2 at.1 cut.0 at.5, at.6),
        cut.2,
        cut.3,
        cut.4,
      ),
      ap (has_bit 0x40) (first_of at.0 at.1 datagram at.3) ∙ at.4,
    )

pub checked : (options : DecodeOptions) (datagram : List ℕ) (h : ProtectedHeader) (p q : ℕ)
    → Cut (with_grease true options) datagram h p q → has_bit 0x40 (slice_index datagram 0) ≡ true
    → Cut (with_grease false options) datagram h p q
checked options datagram h p q cut fixed =
    let at = cut.1 in
    let row = header_row_of at.0 (num (take 4 at.1)) in (
      cut.0,
      (
        at.0,
        at.1,
        at.2,
        at.3,
        sym (ap (has_bit 0x40) (first_of at.0 at.1 datagram at.3)) ∙ fixed,
        fields_same options true false row [] at.2 at.1 cut.0 at.5,
        at.6,
      ),
      cut.2,
      cut.3,
      cut.4,
    )

-- ---- unknown versions

pub unknown_is : (options : DecodeOptions) (datagram text dst src : List ℕ) (first number : ℕ)
    → IsUnknownVersion options datagram number dst src → datagram ≡ first ∷ text
    → (is_long first ≡ true) × (num (take 4 text) ≡ number) × ¬ (IsKnownVersion options number)
unknown_is options datagram text dst src first number (rest, (f, word, split, long, is), some, none) begins =
    let same = same_first (sym begins ∙ split) in (
      ap is_long same.0 ∙ long,
      ap (λ (xs : List ℕ). num (take 4 xs)) same.1
          ∙ ap num (take_front word (long_id dst ++ (long_id src ++ rest)) 4 is.width)
          ∙ is.value,
      λ known. none known.1,
    )

-- their fixed bit may be clear
pub unknown_present : (options : DecodeOptions) (datagram dst src : List ℕ) (number : ℕ)
    → IsUnknownVersion options datagram number dst src → ¬ (LacksFixedBit options datagram)
unknown_present options datagram dst src number unknown lacks =
    let u = unknown_is options datagram lacks.text dst src lacks.first number unknown lacks.begins in
    elim lacks.counts [
      | inl short ↦ (let long = u.0 in cc)
      | inr known ↦ u.2 (subst (IsKnownVersion options) u.1 known.1)
    ]

-- no header is read
pub unknown_unread : (options : DecodeOptions) (datagram dst src : List ℕ) (number whole : ℕ) (h : ProtectedHeader)
    (rest : List ℕ) → IsUnknownVersion options datagram number dst src
    → ¬ (HeaderAt (with_grease true options) whole datagram h rest)
unknown_unread options datagram dst src number whole h rest unknown at =
    let u = unknown_is options datagram at.1 dst src at.0 number unknown at.3 in
    let v = has_version (with_grease true options) at.0 at.1 rest at.2 u.0 at.5 in
    let same : v.number ≡ number = sym v.is ∙ u.1 in
    u.2 (unknown.2, subst (Contains options.versions) same (v.known (λ zero. unknown.2 (sym same ∙ zero))))

pub unknown_uncut : (options : DecodeOptions) (datagram dst src : List ℕ) (number : ℕ) (h : ProtectedHeader) (p q : ℕ)
    → IsUnknownVersion options datagram number dst src → ¬ (Cut (with_grease true options) datagram h p q)
unknown_uncut options datagram dst src number h p q unknown cut =
    unknown_unread options datagram dst src number (length datagram) h cut.0 unknown cut.1

pub unknown_once : (options : DecodeOptions) (datagram dst src d s : List ℕ) (number n : ℕ)
    → IsUnknownVersion options datagram number dst src → IsUnknownVersion options datagram n d s
    → (s ≡ src) × (d ≡ dst) × (n ≡ number)
unknown_once options datagram dst src d s number n
    (rest, (first, word, split, long, is), some, none) (r, (f, w, cut, l, i), so, new) =
    let same = same_first (sym cut ∙ split) in
    let one = unknown_again options.versions 0 first (word ++ (long_id dst ++ (long_id src ++ rest))) src dst number
    (word, rest, refl, is, some, none) in
    let other = unknown_again options.versions 0 first (word ++ (long_id dst ++ (long_id src ++ rest))) s d n
    (w, r, sym same.1, i, so, new) in
    named src s dst d number n (sym other ∙ one)

abbrev HasUnknown : DecodeOptions → List ℕ → Type 0
HasUnknown options datagram =
    ((number : ℕ) × (dst : List ℕ) × (src : List ℕ) × IsUnknownVersion options datagram number dst src)
    ⊎ ((number : ℕ) (dst src : List ℕ) → ¬ (IsUnknownVersion options datagram number dst src))

unread : (options : DecodeOptions) (first : ℕ) (text : List ℕ) (r : Read)
    → ((dst src : List ℕ) (number : ℕ) → ¬ (r ≡ Err (Unsupported src dst number)))
    → wide_at options.versions 0 first text ≡ r
    → (number : ℕ) (dst src : List ℕ) → ¬ (IsUnknownVersion options (first ∷ text) number dst src)
unread options first text r other read number dst src (rest, (f, word, split, long, is), some, none) =
    other dst src number (sym read ∙ unknown_again options.versions 0 first text src dst number
    (word, rest, (same_first split).1, is, some, none))

by_reading : (options : DecodeOptions) (first : ℕ) (text : List ℕ) → AreBytes text → is_long first ≡ true → (r : Read)
    → wide_at options.versions 0 first text ≡ r → HasUnknown options (first ∷ text)
by_reading options first text fits long (Ok found) read = inr (unread options first text _ (λ dst src number e. cc) read)
by_reading options first text fits long (Err (Unsupported src dst number)) read =
    let h = wide_unknown options.versions 0 first text src dst number fits read in
    inl (number, dst, src, (h.1, (first, h.0, ap (λ (xs : List ℕ). first ∷ xs) h.2, long, h.3), h.4, h.5))
by_reading options first text fits long (Err (Invalid e)) read =
    inr (unread options first text _ (λ dst src number e. cc) read)
by_reading options first text fits long (Err NoMemory) read =
    inr (unread options first text _ (λ dst src number e. cc) read)

has_unknown : (options : DecodeOptions) (datagram : List ℕ) → AreBytes datagram → HasUnknown options datagram
has_unknown options [] fits = inr (λ number dst src (rest, (first, word, split, long, is), some, none). cc)
has_unknown options (first ∷ text) fits = elim (bool_cases (is_long first)) [
  | inl long ↦
      by_reading options first text (λ i. fits (suc i)) long (wide_at options.versions 0 first text) refl
  | inr short ↦ inr (λ number dst src unknown.
      let u = unknown_is options (first ∷ text) text dst src first number unknown refl in
      let long = u.0 in cc)
]

-- ---- the fixed bit

abbrev Lacks : DecodeOptions → List ℕ → Type 0
Lacks options datagram = LacksFixedBit options datagram ⊎ ¬ (LacksFixedBit options datagram)

is_known : (options : DecodeOptions) (number : ℕ) → IsKnownVersion options number ⊎ ¬ (IsKnownVersion options number)
is_known options number = elim (bool_cases (nat_eq number 0)) [
  | inl zero ↦ inr (λ known. known.0 (grind (arith, nat_tests)))
  | inr some ↦ elim (bool_cases (list_any (λ k. nat_eq k number) options.versions)) [
    | inl among ↦ inl (
      (λ e. (let yes : nat_eq number 0 ≡ true = grind (arith, nat_tests) in cc)),
      known_at options.versions number among,
    )
    | inr new ↦ inr (λ known. (let no = known_again options.versions number known.1 in cc))
  ]
]

lacks : (options : DecodeOptions) (datagram : List ℕ) → Lacks options datagram
lacks options [] = inr (λ l. (let e = l.begins in cc))
lacks options (first ∷ text) = elim (bool_cases (has_bit 0x40 first)) [
  | inl set ↦ inr (λ l. (let e = ap (has_bit 0x40) (same_first l.begins).0 in let clear = l.clear in cc))
  | inr clear ↦ elim (bool_cases (is_long first)) [
    | inr short ↦ inl (record { first = first; text = text; begins = refl; clear = clear; counts = inl short })
    | inl long ↦ elim (cases_lt (length text) 4) [
      | inl few ↦ inr (λ l. elim l.counts [
        | inl short ↦ (let e = ap is_long (same_first l.begins).0 in cc)
        | inr known ↦ (let e = ap length (same_first l.begins).1 in omega (arith, known.0))
      ])
      | inr enough ↦ elim (is_known options (num (take 4 text))) [
        | inl known ↦
            inl (record { first = first; text = text; begins = refl; clear = clear; counts = inr (enough, known) })
        | inr unknown ↦ inr (λ l. elim l.counts [
          | inl short ↦ (let e = ap is_long (same_first l.begins).0 in cc)
          | inr known ↦ unknown (subst (λ (xs : List ℕ). IsKnownVersion options (num (take 4 xs)))
              (sym (same_first l.begins).1) known.1)
        ])
      ]
    ]
  ]
]

-- ---- packets

negotiated : (datagram_len first : ℕ) (values : List HeaderValue) (dst src : List ℕ) (h : ProtectedHeader)
    → is_long first ≡ true → values ≡ Number 0 ∷ Bytes dst ∷ Bytes src ∷ [] → IsHeader datagram_len first values h
    → IsNegotiation h
negotiated datagram_len first values dst src (protected.Short spin d) long are is = absurd (let no = is.0 in cc)
negotiated datagram_len first values dst src (protected.VersionNegotiate random d s) long are is = tt
negotiated datagram_len first values dst src (protected.Retry d s n) long are is =
    absurd (is.0 (let e = is.2 in cc))
negotiated datagram_len first values dst src (protected.Long ty d s len n) long are is =
    absurd (let e = is.1 in cc)
negotiated datagram_len first values dst src (protected.Initial x) long are is = absurd (let e = is.4 in cc)

negotiation_long : (datagram_len first : ℕ) (values : List HeaderValue) (h : ProtectedHeader)
    → IsHeader datagram_len first values h → IsNegotiation h → is_long first ≡ true
negotiation_long datagram_len first values (protected.VersionNegotiate random d s) is n =
    (let e = is.0 in grind (arith, nat_tests))
negotiation_long datagram_len first values (protected.Short spin d) is n = absurd n
negotiation_long datagram_len first values (protected.Retry d s v) is n = absurd n
negotiation_long datagram_len first values (protected.Long ty d s len v) is n = absurd n
negotiation_long datagram_len first values (protected.Initial x) is n = absurd n

zero_version : (datagram_len first number : ℕ) (values more : List HeaderValue) (dst src : List ℕ) (h : ProtectedHeader)
    → values ≡ Number number ∷ Bytes dst ∷ Bytes src ∷ more → IsHeader datagram_len first values h → IsNegotiation h
    → number ≡ 0
zero_version datagram_len first number values more dst src (protected.VersionNegotiate random d s) are is n =
    (let e = is.1 in cc)
zero_version datagram_len first number values more dst src (protected.Short spin d) are is n = absurd n
zero_version datagram_len first number values more dst src (protected.Retry d s v) are is n = absurd n
zero_version datagram_len first number values more dst src (protected.Long ty d s len v) are is n = absurd n
zero_version datagram_len first number values more dst src (protected.Initial x) are is n = absurd n

-- an allowed packet has its fixed bit
pub packet_present : (options : DecodeOptions) (datagram : List ℕ) (h : ProtectedHeader) (p q : ℕ)
    → IsRfcPacket options datagram h p q → ¬ (LacksFixedBit options datagram)
packet_present options datagram h p q is lacks =
    let at = is.cut.1 in
    let same = same_first (sym at.3 ∙ lacks.begins) in
    elim is.fixed [
      | inr set ↦ (let e : slice_index datagram 0 ≡ lacks.first = ap (λ (xs : List ℕ). slice_index xs 0) lacks.begins in
          let bit = ap (has_bit 0x40) e in let clear = lacks.clear in cc)
      | inl n ↦ elim lacks.counts [
        | inl short ↦ (let long = negotiation_long (length datagram) at.0 at.2 h at.6 n in let e = ap is_long same.0 in cc)
        | inr known ↦
            let long = negotiation_long (length datagram) at.0 at.2 h at.6 n in
            let v = has_version (with_grease true options) at.0 at.1 is.cut.0 at.2 long at.5 in
            let zero = zero_version (length datagram) at.0 v.number at.2 v.more v.dst v.src h v.values_are at.6 n in
            known.1.0 (ap (λ (xs : List ℕ). num (take 4 xs)) (sym same.1) ∙ v.is ∙ zero)
      ]
    ]

-- a packet that is cut is a version negotiation, or has its fixed bit
pub cut_fixed : (options : DecodeOptions) (datagram : List ℕ) (h : ProtectedHeader) (p q : ℕ)
    → ¬ (LacksFixedBit options datagram) → Cut (with_grease true options) datagram h p q
    → IsNegotiation h ⊎ (has_bit 0x40 (slice_index datagram 0) ≡ true)
cut_fixed options datagram h p q present cut =
    let at = cut.1 in
    let e : slice_index datagram 0 ≡ at.0 = ap (λ (xs : List ℕ). slice_index xs 0) at.3 in
    elim (bool_cases (has_bit 0x40 at.0)) [
      | inl set ↦ inr (ap (has_bit 0x40) e ∙ set)
      | inr clear ↦ elim (bool_cases (is_long at.0)) [
        | inr short ↦ absurd (present (record {
          first = at.0;
          text = at.1;
          begins = at.3;
          clear = clear;
          counts = inl short;
        }))
        | inl long ↦
            let v = has_version (with_grease true options) at.0 at.1 cut.0 at.2 long at.5 in
            elim (bool_cases (nat_eq v.number 0)) [
              | inl zero ↦
                  let none : v.number ≡ 0 = grind (arith, nat_tests) in
                  let are : at.2 ≡ Number 0 ∷ Bytes v.dst ∷ Bytes v.src ∷ [] =
                  v.values_are ∙ ap (λ (n : ℕ). Number n ∷ Bytes v.dst ∷ Bytes v.src ∷ v.more) none
                  ∙ ap (λ (xs : List HeaderValue). Number 0 ∷ Bytes v.dst ∷ Bytes v.src ∷ xs) (v.none none) in
                  inl (negotiated (length datagram) at.0 at.2 v.dst v.src h long are at.6)
              | inr some ↦
                  let other : v.number ≢ 0 =
                  λ zero. (let yes : nat_eq v.number 0 ≡ true = grind (arith, nat_tests) in cc) in
                  absurd (present (record {
                    first = at.0;
                    text = at.1;
                    begins = at.3;
                    clear = clear;
                    counts = inr (v.enough, subst (IsKnownVersion options) (sym v.is) (other, v.known other));
                  }))
            ]
      ]
    ]

pub is_complete : (h : ProtectedHeader) (p q : ℕ) → IsComplete h p q ⊎ ¬ (IsComplete h p q)
is_complete (protected.Retry dst src n) p q = elim (cases_lt q (p + 17)) [
  | inl few ↦ inr (λ le. omega arith)
  | inr enough ↦ inl enough
]
is_complete (protected.Short spin d) p q = inl tt
is_complete (protected.VersionNegotiate random d s) p q = inl tt
is_complete (protected.Long ty d s len n) p q = inl tt
is_complete (protected.Initial x) p q = inl tt

-- ---- one answer

abbrev Found : Type 0
Found = Result Packet Refusal

found_same : (a b : Packet) → (let x : Found = Ok a in x) ≡ Ok b → a ≡ b
found_same a b e = cc

pub cut_same : (options : DecodeOptions) (datagram : List ℕ) (a b : Packet)
    → Cut (with_grease true options) datagram a.0 a.1 a.2 → Cut (with_grease true options) datagram b.0 b.1 b.2 → a ≡ b
cut_same options datagram a b cut other =
    found_same a b (sym (cut_again (with_grease true options) datagram a.0 a.1 a.2 cut)
    ∙ cut_again (with_grease true options) datagram b.0 b.1 b.2 other)

pub cut_or : (options : DecodeOptions) (datagram : List ℕ) (a : Packet) (e : Refusal) → AreBytes datagram
    → Cut (with_grease true options) datagram a.0 a.1 a.2 → ¬ (Uncut (with_grease true options) datagram e)
cut_or options datagram a e fits cut other =
    err_ok {A = Packet} e a (sym (uncut_again (with_grease true options) datagram e fits other)
    ∙ cut_again (with_grease true options) datagram a.0 a.1 a.2 cut)

pub uncut_same : (options : DecodeOptions) (datagram : List ℕ) (a b : Refusal) → AreBytes datagram
    → Uncut (with_grease true options) datagram a → Uncut (with_grease true options) datagram b → a ≡ b
uncut_same options datagram a b fits one other =
    err_same {A = Packet} a b (sym (uncut_again (with_grease true options) datagram a fits one)
    ∙ uncut_again (with_grease true options) datagram b fits other)

reported_same : (dst src d s : List ℕ) (number n : ℕ) → (s ≡ src) × (d ≡ dst) × (n ≡ number)
    → Unread (Unsupported src dst number) ≡ Unread (Unsupported s d n)
reported_same dst src d s number n (src_is, dst_is, is) = cc

refused_only : (options : DecodeOptions) (datagram : List ℕ) (e f : RfcRefusal) → AreBytes datagram
    → IsRfcRefused options datagram e → IsRfcRefused options datagram f → e ≡ f
refused_only options datagram _ _ fits (fixed_bit l) (fixed_bit m) = refl
refused_only options datagram _ _ fits (fixed_bit l) (unknown_version n d s u) =
    absurd (unknown_present options datagram d s n u l)
refused_only options datagram _ _ fits (fixed_bit l) (uncut e present known is) = absurd (present l)
refused_only options datagram _ _ fits (fixed_bit l) (retry h p q present cut some) = absurd (present l)
refused_only options datagram _ _ fits (unknown_version n d s u) (fixed_bit l) =
    absurd (unknown_present options datagram d s n u l)
refused_only options datagram _ _ fits (unknown_version n d s u) (unknown_version n' d' s' u') =
    reported_same d s d' s' n n' (unknown_once options datagram d s d' s' n n' u u')
refused_only options datagram _ _ fits (unknown_version n d s u) (uncut e present known is) = absurd (known n d s u)
refused_only options datagram _ _ fits (unknown_version n d s u) (retry h p q present cut some) =
    absurd (unknown_uncut options datagram d s n h p q u cut)
refused_only options datagram _ _ fits (uncut e present known is) (fixed_bit l) = absurd (present l)
refused_only options datagram _ _ fits (uncut e present known is) (unknown_version n d s u) = absurd (known n d s u)
refused_only options datagram _ _ fits (uncut e present known is) (uncut f present' known' is') =
    ap (λ (r : Refusal). Unread r) (uncut_same options datagram e f fits is is')
refused_only options datagram _ _ fits (uncut e present known is) (retry h p q present' cut some) =
    absurd (cut_or options datagram (h, p, q) e fits cut is)
refused_only options datagram _ _ fits (retry h p q present cut some) (fixed_bit l) = absurd (present l)
refused_only options datagram _ _ fits (retry h p q present cut some) (unknown_version n d s u) =
    absurd (unknown_uncut options datagram d s n h p q u cut)
refused_only options datagram _ _ fits (retry h p q present cut some) (uncut e present' known is) =
    absurd (cut_or options datagram (h, p, q) e fits cut is)
refused_only options datagram _ _ fits (retry h p q present cut some) (retry h' p' q' present' cut' some') = refl

-- an allowed packet excludes each reason
not_refused : (options : DecodeOptions) (datagram : List ℕ) (a : Packet) (e : RfcRefusal) → AreBytes datagram
    → IsRfcPacket options datagram a.0 a.1 a.2 → ¬ (IsRfcRefused options datagram e)
not_refused options datagram a _ fits is (fixed_bit l) = packet_present options datagram a.0 a.1 a.2 is l
not_refused options datagram a _ fits is (unknown_version n d s u) =
    unknown_uncut options datagram d s n a.0 a.1 a.2 u is.cut
not_refused options datagram a _ fits is (uncut e present known other) = cut_or options datagram a e fits is.cut other
not_refused options datagram a _ fits is (retry h p q present cut partial) =
    partial (subst (λ (x : Packet). IsComplete x.0 x.1 x.2) (cut_same options datagram a (h, p, q) is.cut cut) is.complete)

pub only_packet : (options : DecodeOptions) (datagram : List ℕ) (one other : Answer) → AreBytes datagram
    → RfcPacketAnswer options datagram one → RfcPacketAnswer options datagram other → one ≡ other
only_packet options datagram (Ok a) (Ok b) fits is is' =
    ap (λ (x : Packet). let r : Answer = Ok x in r) (cut_same options datagram a b is.cut is'.cut)
only_packet options datagram (Ok a) (Err e) fits is is' = absurd (not_refused options datagram a e fits is is')
only_packet options datagram (Err e) (Ok a) fits is is' = absurd (not_refused options datagram a e fits is' is)
only_packet options datagram (Err e) (Err f) fits is is' =
    ap (λ (x : RfcRefusal). let r : Answer = Err x in r) (refused_only options datagram e f fits is is')

abbrev Some_answer : DecodeOptions → List ℕ → Type 0
Some_answer options datagram = (answer : Answer) × RfcPacketAnswer options datagram answer

by_cut : (options : DecodeOptions) (datagram : List ℕ) → ¬ (LacksFixedBit options datagram)
    → ((number : ℕ) (dst src : List ℕ) → ¬ (IsUnknownVersion options datagram number dst src))
    → (r : Found) → CutAnswer (with_grease true options) datagram r → Some_answer options datagram
by_cut options datagram present known (Ok x) cut = elim (is_complete x.0 x.1 x.2) [
  | inl complete ↦ (
    Ok x,
    record {
      cut = cut;
      fixed = cut_fixed options datagram x.0 x.1 x.2 present cut;
      complete = complete;
    },
  )
  | inr partial ↦ (Err PartialRetry, retry x.0 x.1 x.2 present cut partial)
]
by_cut options datagram present known (Err e) is = (Err (Unread e), uncut e present known is)

some_packet : (options : DecodeOptions) (datagram : List ℕ) → AreBytes datagram → TakesWithin options
    → Some_answer options datagram
some_packet options datagram fits takes = elim (lacks options datagram) [
  | inl l ↦ (Err (Unread (Invalid (codes "fixed bit unset"))), fixed_bit l)
  | inr present ↦ elim (has_unknown options datagram fits) [
    | inl u ↦ (Err (Unread (Unsupported u.2 u.1 u.0)), unknown_version u.0 u.1 u.2 u.3)
    | inr known ↦
        by_cut options datagram present known (cut_at (with_grease true options) datagram)
        (cut_answer (with_grease true options) datagram fits takes)
  ]
]

pub one_packet : (options : DecodeOptions) (datagram : List ℕ) → AreBytes datagram → TakesWithin options
    → ExactlyOne (RfcPacketAnswer options datagram)
one_packet options datagram fits takes =
    let found = some_packet options datagram fits takes in
    record {
      it = found.0;
      is = found.1;
      only = λ other is. only_packet options datagram other found.0 fits is found.1;
    }
