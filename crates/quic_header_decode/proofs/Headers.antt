-- A header, or an error, is read exactly when the grammar has it.
use Rattle.std.specs.Prelude.{◌≡◌, ◌≢◌, ℕ, ◌+◌, ◌-◌, ◌/◌, ◌%◌, ◌<◌, ◌≤◌, Bool, true, false, List, [], ◌∷◌, ◌++◌, length, take, drop, Result, Ok, Err, Some, nat_eq, nat_lt, not, ◌&&◌, ◌||◌, codes}
use Rattle.std.proofs.Common.{sym, ap, ◌∙◌, arith, refl, cond, subst, suc, inl, inr, length-append}
use Rattle.std.specs.List.{list_any}
use Rattle.std.specs.Option.{ok_or}
use Rattle.std.proofs.lemmas.List.{length-drop}
use Rattle.std.proofs.lemmas.Bool.Decides.{nat_tests}
use Rattle.quic_base.specs.Number.{has_bit, AreBytes, IsNumber, num}
use Rattle.quic_base.specs.Reading.{◌>>=◌, number_at}
use Rattle.quic_base.specs.ConnectionId.{long_id}
use Rattle.quic_header_decode.specs.declared.protected.ProtectedHeader.{ProtectedHeader}
use Rattle.quic_header_decode.specs.declared.protected.ProtectedHeader.TheVariants as protected
use Rattle.quic_header_encode.specs.declared.long_type.LongHeaderType.{LongHeaderType}
use Rattle.quic_header_encode.specs.declared.long_type.LongHeaderType.TheVariants as kind
use Rattle.quic_header_encode.specs.Types.{long_type}
use Rattle.quic_header_decode.specs.Refusal.{Refusal, Unsupported, Invalid}
use Rattle.quic_header_decode.specs.Reading.{word_at, long_id_at}
use Rattle.quic_header_decode.specs.Grammar.{is_long, is_fixed, HeaderField, Version, DestinationId, SourceId, Supported, ShortId, HeaderValue, Number, Bytes, typed_row, header_row_of, AreHeaderFields, StopsWithinRow, IsHeader, HeaderAt, Refused, token_length_of}
use Rattle.quic_header_decode.specs.Reading.{DecodeOptions, TakesWithin, header_at, long_at, typed_at, at_end, bad_id}
use Rattle.quic_header_decode.proofs.Rows.{row_behind_ids}
use Rattle.quic_header_decode.proofs.Steps.{chosen, otherwise, taken, option_ok, ok_pair, ok_err, err_ok, err_same, bool_cases, some_same, none_some, take_front}
use Rattle.quic_header_decode.specs.Fields.{Taken}
use Rattle.quic_header_decode.proofs.Rows.{row_at, row_again, row_found, row_refused, row_stops, row_room}

-- ---- the parts of a long header

-- the text begins with a version and two ids, and left is after them
pub record Ids (text : List ℕ) (version : ℕ) (dst src left : List ℕ) : Type 0 where
  pub word : List ℕ
  pub is_word : IsNumber 4 version word
  pub dst_len : length dst ≤ 20
  pub src_len : length src ≤ 20
  pub text_is : text ≡ word ++ (long_id dst ++ (long_id src ++ left))

abbrev pub id_values : ℕ → List ℕ → List ℕ → List HeaderValue
id_values version dst src = Number version ∷ Bytes dst ∷ Bytes src ∷ []

-- the row of a long header whose ids are followed by fields
abbrev pub long_row : List HeaderField → List HeaderField
long_row fields = Version ∷ DestinationId ∷ SourceId ∷ fields

pub ids_of : (options : DecodeOptions) (fields : List HeaderField) (after : List HeaderValue) (text rest : List ℕ)
    → AreHeaderFields options (long_row fields) [] after text rest
    → (version : ℕ) × (dst src left : List ℕ) × Ids text version dst src left
    × AreHeaderFields options fields (id_values version dst src) after left rest
ids_of options fields after text rest (
  v,
  t1,
  (word, split1, (version, is1, number)),
  (d, t2, (f2, split2, (dst, is2, len2, text2)), (s, left, (f3, split3, (src, is3, len3, text3)), others)),
) = (
  version,
  dst,
  src,
  left,
  record {
    word = word;
    is_word = number;
    dst_len = len2;
    src_len = len3;
    text_is = split1 ∙ ap (λ (xs : List ℕ). word ++ xs) (split2 ∙ ap (λ (xs : List ℕ). xs ++ t2) text2
        ∙ ap (λ (xs : List ℕ). long_id dst ++ xs) (split3 ∙ ap (λ (xs : List ℕ). xs ++ left) text3));
  },
  (let values_are : (v ++ d) ++ s ≡ id_values version dst src = rw (is1, is2, is3) in subst
      (λ (xs : List HeaderValue). AreHeaderFields options fields xs after left rest) values_are others),
)

pub of_ids : (options : DecodeOptions) (fields : List HeaderField) (after : List HeaderValue) (text rest : List ℕ)
    (version : ℕ) (dst src left : List ℕ)
    → Ids text version dst src left
    → AreHeaderFields options fields (id_values version dst src) after left rest
    → AreHeaderFields options (long_row fields) [] after text rest
of_ids options fields after text rest version dst src left ids others = (
  Number version ∷ [],
  long_id dst ++ (long_id src ++ left),
  (ids.word, ids.text_is, (version, refl, ids.is_word)),
  (
    Bytes dst ∷ [],
    long_id src ++ left,
    (long_id dst, refl, (dst, refl, ids.dst_len, refl)),
    (Bytes src ∷ [], left, (long_id src, refl, (src, refl, ids.src_len, refl)), others),
  ),
)

pub stops_behind_ids : (options : DecodeOptions) (fields : List HeaderField) (text : List ℕ) (e : Refusal) (version : ℕ)
    (dst src left : List ℕ)
    → Ids text version dst src left
    → StopsWithinRow options fields (id_values version dst src) left e
    → StopsWithinRow options (long_row fields) [] text e
stops_behind_ids options fields text e version dst src left ids stops = inr (
  Number version ∷ [],
  long_id dst ++ (long_id src ++ left),
  (ids.word, ids.text_is, (version, refl, ids.is_word)),
  inr (
    Bytes dst ∷ [],
    long_id src ++ left,
    (long_id dst, refl, (dst, refl, ids.dst_len, refl)),
    inr (Bytes src ∷ [], left, (long_id src, refl, (src, refl, ids.src_len, refl)), stops),
  ),
)

-- the version is what the first four bytes say
pub version_is : (text : List ℕ) (version : ℕ) (dst src left : List ℕ) → Ids text version dst src left
    → num (take 4 text) ≡ version
version_is text version dst src left ids =
    ap (λ (xs : List ℕ). num (take 4 xs)) ids.text_is
    ∙ ap num (take_front ids.word (long_id dst ++ (long_id src ++ left)) 4 ids.is_word.width) ∙ ids.is_word.value

-- ---- the header that values make

abbrev pub other_header : ProtectedHeader
other_header = protected.Short false []

abbrev pub long_made : LongHeaderType → List ℕ → List ℕ → ℕ → ℕ → ProtectedHeader
long_made kind.Initial dst src len version = other_header
long_made (kind.Standard ty) dst src len version = protected.Long ty dst src len version
long_made kind.Retry dst src len version = other_header

abbrev pub made : ℕ → ℕ → List HeaderValue → ProtectedHeader
made whole first (Bytes dst ∷ []) = protected.Short (has_bit 0x20 first) dst
made whole first (Number version ∷ Bytes dst ∷ Bytes src ∷ []) =
    cond (nat_eq version 0) (protected.VersionNegotiate (first - 128) dst src) (protected.Retry dst src version)
made whole first (Number version ∷ Bytes dst ∷ Bytes src ∷ Number len ∷ []) =
    long_made (long_type version first) dst src len version
made whole first (Number version ∷ Bytes dst ∷ Bytes src ∷ Number count ∷ Number left ∷ Number len ∷ []) =
    let start = whole - (count + left) in
    protected.Initial (record {
      dst_cid = dst;
      src_cid = src;
      token_pos = record { start = start; end = start + count };
      len = len;
      version = version;
    })
made whole first values = other_header

made_is : (whole first : ℕ) (values : List HeaderValue) (h : ProtectedHeader) → IsHeader whole first values h
    → made whole first values ≡ h
made_is whole first values (protected.Short spin dst) (short, is, values_are) =
    ap (made whole first) values_are ∙ ap (λ (s : Bool). protected.Short s dst) (sym is)
made_is whole first values (protected.VersionNegotiate random dst src) (is, values_are) =
    ap (made whole first) values_are
    ∙ ap (λ (n : ℕ). protected.VersionNegotiate n dst src) (let same : first - 128 ≡ random = omega (arith, is) in same)
made_is whole first values (protected.Retry dst src version) (some, is, values_are) =
    ap (made whole first) values_are
    ∙ otherwise (nat_eq version 0) _ _ (protected.Retry dst src version) (grind (arith, nat_tests)) refl
made_is whole first values (protected.Long ty dst src len version) (is, values_are) =
    ap (made whole first) values_are ∙ ap (λ (k : LongHeaderType). long_made k dst src len version) is
made_is whole first values (protected.Initial h) (count, left, start, stop, values_are) =
    let at : ℕ → ℕ → ProtectedHeader =
    λ a b. protected.Initial (record {
      dst_cid = h.dst_cid;
      src_cid = h.src_cid;
      token_pos = record { start = a; end = b };
      len = h.len;
      version = h.version;
    }) in
    let begins : whole - (count + left) ≡ h.token_pos.start = omega (arith, stop, start) in
    ap (made whole first) values_are ∙ ap (λ (n : ℕ). at n (n + count)) begins
    ∙ ap (λ (n : ℕ). at h.token_pos.start n) start

-- the values of a row make the header that they are
typed_is : (options : DecodeOptions) (whole first version : ℕ) (dst src left rest : List ℕ) (values : List HeaderValue)
    → length left ≤ whole → version ≢ 0
    → (ty : LongHeaderType) → long_type version first ≡ ty
    → AreHeaderFields options (typed_row ty) (id_values version dst src) values left rest
    → IsHeader whole first values (made whole first values)
typed_is options whole first version dst src left rest values room some kind.Retry is (values_are, same) =
    subst (λ (xs : List HeaderValue). IsHeader whole first xs (made whole first xs)) (sym values_are)
    (subst (IsHeader whole first (id_values version dst src))
    (sym (otherwise (nat_eq version 0) _ _ (protected.Retry dst src version) (grind (arith, nat_tests)) refl))
    (some, is, refl))
typed_is options whole first version dst src left rest values room some (kind.Standard ty) is
    (v, back, (f, split, (len, is1, encoded)), (values_are, same)) =
    let all : values ≡ Number version ∷ Bytes dst ∷ Bytes src ∷ Number len ∷ [] =
    values_are ∙ ap (λ (xs : List HeaderValue). id_values version dst src ++ xs) is1 in
    subst (λ (xs : List HeaderValue). IsHeader whole first xs (made whole first xs)) (sym all)
    (subst (IsHeader whole first (Number version ∷ Bytes dst ∷ Bytes src ∷ Number len ∷ []))
    (ap (λ (k : LongHeaderType). long_made k dst src len version) (sym is)) (is, refl))
typed_is options whole first version dst src left rest values room some kind.Initial is (
  v1,
  t1,
  (f1, split1, (count, is1, encoded1)),
  (
    v2,
    t2,
    (token, split2, (is2, width)),
    (v3, t3, (f3, split3, (len, is3, encoded3)), (values_are, same)),
  ),
) =
    let base : List HeaderValue = id_values version dst src in
    let all : values ≡ Number version ∷ Bytes dst ∷ Bytes src ∷ Number count ∷ Number (length t2) ∷ Number len ∷ [] =
    values_are
    ∙ (let eq : ((base ++ v1) ++ v2) ++ v3 ≡ ((base ++ Number count ∷ []) ++ Number (length t2) ∷ []) ++ Number len
    ∷ [] = rw (is1, is2, is3) in eq) in
    let size : length token ≡ count =
    width
    ∙ (let eq : token_length_of (base ++ v1) ≡ count = ap (λ (xs : List HeaderValue). token_length_of (base ++ xs)) is1 in eq) in
    let inner : count + length t2 ≤ whole =
    omega (arith, room, size, ap length split1, length-append f1 t1, ap length split2, length-append token t2) in
    subst (λ (xs : List HeaderValue). IsHeader whole first xs (made whole first xs)) (sym all)
    (count, length t2, refl, omega (arith, inner), refl)

behind_is : (options : DecodeOptions) (whole first version : ℕ) (dst src left rest : List ℕ) (values : List HeaderValue)
    → length left ≤ whole → 128 ≤ first
    → (none : Bool) → nat_eq version 0 ≡ none
    → AreHeaderFields options (cond none [] (Supported version ∷ typed_row (long_type version first)))
    (id_values version dst src) values left rest
    → IsHeader whole first values (made whole first values)
behind_is options whole first version dst src left rest values room long true is (values_are, same) =
    let zero_version : version ≡ 0 = grind (arith, nat_tests) in
    let all : values ≡ id_values 0 dst src = values_are ∙ ap (λ (n : ℕ). id_values n dst src) zero_version in
    subst (λ (xs : List HeaderValue). IsHeader whole first xs (made whole first xs)) (sym all) (omega arith, refl)
behind_is options whole first version dst src left rest values room long false is (v, back, (f, split, (values_are, none, known)), others) =
    let some : version ≢ 0 = grind (arith, nat_tests) in
    let kept : left ≡ back = split ∙ ap (λ (xs : List ℕ). xs ++ back) none in
    typed_is options whole first version dst src back rest values (subst (λ (xs : List ℕ). length xs ≤ whole) kept room)
    some (long_type version first) refl
    (subst (λ (xs : List HeaderValue). AreHeaderFields options (typed_row (long_type version first))
    (id_values version dst src ++ xs) values back rest) values_are others)

pub ids_room : (text : List ℕ) (version : ℕ) (dst src left : List ℕ) → Ids text version dst src left
    → length left ≤ length text
ids_room text version dst src left ids =
    omega (
      arith,
      ap length ids.text_is,
      length-append ids.word (long_id dst ++ (long_id src ++ left)),
      length-append dst (long_id src ++ left),
      length-append src left,
    )

row_is : (options : DecodeOptions) (whole first : ℕ) (text rest : List ℕ) (values : List HeaderValue)
    → length text ≤ whole
    → (long : Bool) → is_long first ≡ long
    → AreHeaderFields options (cond long (long_row (row_behind_ids first (num (take 4 text)))) (ShortId ∷ [])) [] values text rest
    → IsHeader whole first values (made whole first values)
row_is options whole first text rest values room false is (v, back, (f, split, (dst, is1, parsed)), (values_are, same)) =
    subst (λ (xs : List HeaderValue). IsHeader whole first xs (made whole first xs)) (sym (values_are ∙ is1)) (is, refl, refl)
row_is options whole first text rest values room true is d =
    let long : 128 ≤ first = grind (arith, nat_tests) in
    let x = ids_of options (row_behind_ids first (num (take 4 text))) values text rest d in
    let same : num (take 4 text) ≡ x.0 = version_is text x.0 x.1 x.2 x.3 x.4 in
    behind_is options whole first x.0 x.1 x.2 x.3 rest values (omega (arith, room, ids_room text x.0 x.1 x.2 x.3 x.4))
    long (nat_eq x.0 0) refl
    (subst (λ (n : ℕ). AreHeaderFields options (row_behind_ids first n) (id_values x.0 x.1 x.2) values x.3 rest) same x.5)

-- ---- the reader, by rows

abbrev pub finish : ℕ → ℕ → List HeaderValue → List ℕ → Result (ProtectedHeader × List ℕ) Refusal
finish whole first values rest = Ok (made whole first values, rest)

pub reassoc : {A B : Type 0} (r : Result A Refusal) (f : A → Taken) (k : Taken → Result B Refusal) (g : A → Result B Refusal)
    → ((x : A) → r ≡ Ok x → g x ≡ k (f x)) → (r >>= g) ≡ ((r >>= λ x. Ok (f x)) >>= k)
reassoc (Ok x) f k g same = same x refl
reassoc (Err e) f k g same = refl

cond_bind : {B : Type 0} (b : Bool) (e : Refusal) (x : Taken) (k : Taken → Result B Refusal) (y : Result B Refusal)
    → (b ≡ false → y ≡ k x) → cond b (Err e) y ≡ ((let c : Result Taken Refusal = cond b (Err e) (Ok x) in c) >>= k)
cond_bind true e x k y same = refl
cond_bind false e x k y same = same refl

number_value : ℕ × List ℕ → Taken
number_value x = (Number x.0 ∷ [], x.1)

typed_same : (options : DecodeOptions) (whole first version : ℕ) (dst src left : List ℕ) → nat_eq version 0 ≡ false
    → (ty : LongHeaderType) → long_type version first ≡ ty
    → typed_at ty whole dst src version left ≡ row_at options (typed_row ty) (id_values version dst src) left (finish whole first)
unfolding typed_at
typed_same options whole first version dst src left some kind.Retry is =
    sym (ap (λ (b : Bool). let r : Result (ProtectedHeader × List ℕ) Refusal = Ok
    (cond b (protected.VersionNegotiate (first - 128) dst src) (protected.Retry dst src version), left) in r) some)
typed_same options whole first version dst src left some (kind.Standard ty) is =
    reassoc (ok_or (number_at left) at_end) (λ x. (Number x.0 ∷ [], x.1)) _ _
    (λ len e. sym (ap (λ (k : LongHeaderType). let r : Result (ProtectedHeader × List ℕ) Refusal = Ok
    (long_made k dst src len.0 version, len.1) in r) is))
typed_same options whole first version dst src left some kind.Initial is =
    reassoc (ok_or (number_at left) at_end) (λ x. (Number x.0 ∷ [], x.1)) _ _
    (λ token e. cond_bind (nat_lt (length token.1) token.0) (Invalid (codes "token out of bounds")) (Number (length (drop token.0 token.1)) ∷ [], drop token.0 token.1) _ _
    (λ within. reassoc (ok_or (number_at (drop token.0 token.1)) at_end) (λ x. (Number x.0 ∷ [], x.1)) _ _
    (λ len f.
    let at : ℕ → ProtectedHeader =
    λ a. protected.Initial (record {
      dst_cid = dst;
      src_cid = src;
      token_pos = record { start = a; end = a + token.0 };
      len = len.0;
      version = version;
    }) in
    let enough : token.0 ≤ length token.1 = grind (arith, nat_tests) in
    let sum : length token.1 ≡ token.0 + length (drop token.0 token.1) = omega (arith, length-drop token.0 token.1) in
    ap (λ (n : ℕ). let r : Result (ProtectedHeader × List ℕ) Refusal = Ok (at (whole - n), len.1) in r) sum)))

behind_same : (options : DecodeOptions) (whole first version : ℕ) (dst src left : List ℕ) (none : Bool)
    → nat_eq version 0 ≡ none
    → cond none (Ok (protected.VersionNegotiate (first - 128) dst src, left))
    (cond (not (list_any (λ known. nat_eq known version) options.versions)) (Err (Unsupported src dst version))
    (typed_at (long_type version first) whole dst src version left))
    ≡ row_at options (cond none [] (Supported version ∷ typed_row (long_type version first)))
    (id_values version dst src) left (finish whole first)
behind_same options whole first version dst src left true is =
    sym (ap (λ (b : Bool). let r : Result (ProtectedHeader × List ℕ) Refusal = Ok
    (cond b (protected.VersionNegotiate (first - 128) dst src) (protected.Retry dst src version), left) in r) is)
behind_same options whole first version dst src left false is =
    cond_bind (not (list_any (λ known. nat_eq known version) options.versions)) (Unsupported src dst version) ([], left) _ _
    (λ known. typed_same options whole first version dst src left is (long_type version first) refl)

pub word_says : (text : List ℕ) (x : ℕ × List ℕ) → word_at text ≡ Some x → num (take 4 text) ≡ x.0
word_says text x e = elim (chosen (nat_lt (length text) 4) _ _ (Some x) e) [
  | inl short ↦ absurd (none_some x short.1)
  | inr long ↦ ap (λ (p : ℕ × List ℕ). p.0) (some_same long.1)
]

long_same : (options : DecodeOptions) (whole first : ℕ) (text : List ℕ)
    → long_at options.versions whole first text ≡ row_at options (long_row (row_behind_ids first (num (take 4 text))))
    [] text (finish whole first)
unfolding long_at
long_same options whole first text =
    reassoc (ok_or (word_at text) at_end) (λ x. (Number x.0 ∷ [], x.1)) _ _
    (λ version e. reassoc (ok_or (long_id_at version.1) bad_id) (λ x. (Bytes x.0 ∷ [], x.1)) _ _
    (λ dst f. reassoc (ok_or (long_id_at dst.1) bad_id) (λ x. (Bytes x.0 ∷ [], x.1)) _ _
    (λ src g. behind_same options whole first version.0 dst.0 src.0 src.1 (nat_eq version.0 0) refl
    ∙ ap (λ (n : ℕ). row_at options (row_behind_ids first n) (id_values version.0 dst.0 src.0) src.1
    (finish whole first)) (sym (word_says text version (option_ok (word_at text) at_end version e))))))

form_same : (options : DecodeOptions) (whole first : ℕ) (text : List ℕ) (long : Bool) → is_long first ≡ long
    → cond (nat_lt first 128) (options.parsed text >>= λ id. Ok
    (protected.Short (nat_eq (first / 32 % 2) 1) id.0, drop id.1 text)) (long_at options.versions whole first text)
    ≡ row_at options (cond long (long_row (row_behind_ids first (num (take 4 text)))) (ShortId ∷ [])) [] text (finish whole first)
form_same options whole first text true is =
    otherwise (nat_lt first 128) _ _ _ (grind (arith, nat_tests)) (long_same options whole first text)
form_same options whole first text false is =
    taken (nat_lt first 128) _ _ _ (grind (arith, nat_tests))
    (reassoc (options.parsed text) (λ id. (Bytes id.0 ∷ [], drop id.1 text)) _ _ (λ id e. refl))

fixed_test : (grease : Bool) (m : ℕ) → (not grease && nat_eq (m % 2) 0) ≡ not (grease || nat_eq (m % 2) 1)
fixed_test true m = refl
fixed_test false m = elim (bool_cases (nat_eq (m % 2) 0)) [
  | inl e ↦ (let no : nat_eq (m % 2) 1 ≡ false = grind (arith, nat_tests) in e ∙ sym (ap not no))
  | inr e ↦ (let yes : nat_eq (m % 2) 1 ≡ true = grind (arith, nat_tests) in e ∙ sym (ap not yes))
]

turned : {A : Type 0} (b c : Bool) (x y : A) → b ≡ not c → cond b x y ≡ cond c y x
turned true true x y e = absurd cc
turned true false x y e = refl
turned false true x y e = refl
turned false false x y e = absurd cc

pub by_rows : (options : DecodeOptions) (whole first : ℕ) (text : List ℕ)
    → header_at options whole (first ∷ text)
    ≡ cond (is_fixed options first) (row_at options (header_row_of first (num (take 4 text))) [] text (finish whole first)) (Err (Invalid (codes "fixed bit unset")))
unfolding header_at
by_rows options whole first text =
    turned (not options.grease && nat_eq (first / 64 % 2) 0) (is_fixed options first) (Err (Invalid (codes "fixed bit unset"))) _ (fixed_test options.grease (first / 64))
    ∙ ap (λ (r : Result (ProtectedHeader × List ℕ) Refusal). cond (is_fixed options first) r (Err (Invalid (codes "fixed bit unset")))) (form_same options whole first text (is_long first) refl)

-- ---- each way

pub header_again : (options : DecodeOptions) (whole : ℕ) (bytes : List ℕ) (h : ProtectedHeader) (rest : List ℕ)
    → HeaderAt options whole bytes h rest → header_at options whole bytes ≡ Ok (h, rest)
header_again options whole bytes h rest (first, text, values, split, fixed, fields, is) =
    ap (header_at options whole) split ∙ by_rows options whole first text
    ∙ taken (is_fixed options first) _ _ _ fixed (row_again options (header_row_of first (num (take 4 text))) [] values
    text rest (finish whole first) fields)
    ∙ ap (λ (g : ProtectedHeader). let r : Result (ProtectedHeader × List ℕ) Refusal = Ok (g, rest) in r) (made_is whole first values h is)

pub header_found : (options : DecodeOptions) (whole : ℕ) (bytes rest : List ℕ) (h : ProtectedHeader) → AreBytes bytes
    → length bytes ≤ whole → TakesWithin options
    → header_at options whole bytes ≡ Ok (h, rest) → HeaderAt options whole bytes h rest
unfolding header_at
header_found options whole [] rest h fits room takes e = absurd cc
header_found options whole (first ∷ text) rest h fits room takes e =
    elim (chosen (is_fixed options first) _ _ (Ok (h, rest)) (sym (by_rows options whole first text) ∙ e)) [
      | inr bad ↦ absurd (err_ok (Invalid (codes "fixed bit unset")) (h, rest) bad.1)
      | inl good ↦
          let x =
          row_found options (header_row_of first (num (take 4 text))) [] text (finish whole first) (h, rest)
          (λ i. fits (suc i)) takes good.1 in
          let parts = ok_pair x.3 in (
            first,
            text,
            x.0,
            refl,
            good.0,
            subst (AreHeaderFields options (header_row_of first (num (take 4 text))) [] x.0 text) parts.1 x.2,
            subst (IsHeader whole first x.0) parts.0 (row_is options whole first text x.1 x.0 (omega arith) (is_long first) refl x.2),
          )
    ]

pub refused_again : (options : DecodeOptions) (whole : ℕ) (bytes : List ℕ) (e : Refusal) → AreBytes bytes
    → Refused options bytes e → header_at options whole bytes ≡ Err e
unfolding header_at
refused_again options whole [] e fits is =
    ap (λ (r : Refusal). let q : Result (ProtectedHeader × List ℕ) Refusal = Err r in q) (sym is)
refused_again options whole (first ∷ text) e fits (inl (unset, is)) =
    by_rows options whole first text
    ∙ otherwise (is_fixed options first) _ _ _ unset (ap (λ (r : Refusal). let q : Result (ProtectedHeader × List ℕ)
    Refusal = Err r in q) (sym is))
refused_again options whole (first ∷ text) e fits (inr (set, stops)) =
    by_rows options whole first text ∙ taken (is_fixed options first) _ _ _ set
    (row_stops options (header_row_of first (num (take 4 text))) [] text (finish whole first) e (λ i. fits (suc i)) stops)

pub refused_found : (options : DecodeOptions) (whole : ℕ) (bytes : List ℕ) (e : Refusal) → AreBytes bytes
    → TakesWithin options → header_at options whole bytes ≡ Err e → Refused options bytes e
unfolding header_at
refused_found options whole [] e fits takes h = sym (err_same _ e h)
refused_found options whole (first ∷ text) e fits takes h =
    elim (chosen (is_fixed options first) _ _ (Err e) (sym (by_rows options whole first text) ∙ h)) [
      | inr bad ↦ inl (bad.0, sym (err_same _ e bad.1))
      | inl good ↦ inr (
        good.0,
        row_refused options (header_row_of first (num (take 4 text))) [] text
            (finish whole first) e (λ i. fits (suc i)) takes (λ after rest f. ok_err _ e f) good.1,
      )
    ]

-- a header has at least one byte
pub header_strict : (options : DecodeOptions) (whole : ℕ) (bytes : List ℕ) (h : ProtectedHeader) (rest : List ℕ)
    → HeaderAt options whole bytes h rest → length rest < length bytes
header_strict options whole bytes h rest (first, text, values, split, fixed, fields, is) =
    omega (arith, ap length split, row_room options (header_row_of first (num (take 4 text))) [] values text rest fields)
