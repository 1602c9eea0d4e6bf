-- The spans of each kind of header.
use Rattle.std.specs.Prelude.{nat_eq, nat_lt, slice_index, ◌≢◌, Contains}
use Rattle.std.proofs.Common.{◌≡◌, ℕ, ◌+◌, ◌-◌, ◌≤◌, Bool, true, false, List, [], ◌∷◌, ◌++◌, length, take, Ok, Err, Result, refl, sym, ap, subst, cond, ◌∙◌, inl, inr, length-append, length-take, arith}
use Rattle.std.proofs.lemmas.Bool.Decides.{nat_tests}
use Rattle.quic_base.specs.ConnectionId.{long_id}
use Rattle.quic_base.specs.Number.{IsNumber, num}
use Rattle.quic_fields.specs.declared.field.Span.{Span}
use Rattle.quic_header_encode.specs.declared.long_type.LongHeaderType.{LongHeaderType}
use Rattle.quic_header_encode.specs.declared.long_type.LongHeaderType.TheVariants as kind
use Rattle.quic_header_encode.specs.Types.{long_type}
use Rattle.quic_header_decode.specs.declared.protected.ProtectedHeader.{ProtectedHeader}
use Rattle.quic_header_decode.specs.declared.protected.ProtectedHeader.TheVariants as protected
use Rattle.quic_header_decode.specs.Grammar.{HeaderField, HeaderValue, Number, Bytes, Version, DestinationId, SourceId, Supported, ShortId, token_length_of, typed_row, header_row_of, is_long, IsHeader, HeaderAt}
use Rattle.quic_header_decode.specs.Places.{any_fixed, IsUnknownVersion}
use Rattle.quic_header_decode.specs.Reading.{DecodeOptions}
use Rattle.quic_header_decode.specs.Refusal.{Refusal, Unsupported}
use Rattle.quic_header_decode.proofs.Headers.{Ids, id_values, long_row, version_is}
use Rattle.quic_header_decode.proofs.Steps.{take_front}
use Rattle.quic_header_fields.specs.Headers.{from_to, ids_end, long_spans, spans_in}
use Rattle.quic_header_fields.specs.Spans.{span, first_span, AreFieldsAt, StopsWithinAt, IsHeaderAt, IsNoHeaderAt}
use Rattle.quic_header_fields.proofs.HeaderLaws.{header_with_spans, header_in_row}
use Rattle.quic_header_fields.proofs.Readings.{not_unknown}

-- ---- long headers

-- the spans of a version and two ids, and what is behind them
pub record IdsAt (options : DecodeOptions) (fields : List HeaderField) (spans : List Span) (after : List HeaderValue)
    (text rest : List ℕ) : Type 0 where
  pub version : ℕ
  pub dst : List ℕ
  pub src : List ℕ
  pub left : List ℕ
  pub behind : List Span
  pub ids : Ids text version dst src left
  pub spans_are : spans ≡ from_to 1 1 5 version ∷ from_to 2 5 (6 + length dst) (length dst)
      ∷ from_to 3 (6 + length dst) (ids_end dst src) (length src)
      ∷ behind
  pub others : AreFieldsAt true options 4 (ids_end dst src) fields (id_values version dst src) behind after left rest

ids_at : (options : DecodeOptions) (fields : List HeaderField) (spans : List Span) (after : List HeaderValue)
    (text rest : List ℕ) → AreFieldsAt true options 1 1 (long_row fields) [] spans after text rest
    → IdsAt options fields spans after text rest
ids_at options fields spans after text rest (
  v,
  word,
  t1,
  o1,
  split1,
  (version, is1, number),
  all1,
  (
    d,
    f2,
    t2,
    o2,
    split2,
    (dst, is2, len2, text2),
    all2,
    (s, f3, left, behind, split3, (src, is3, len3, text3), all3, others),
  ),
) =
    let w1 : length word ≡ 4 = number.width in
    let w2 : length f2 ≡ 1 + length dst = omega (arith, ap length text2) in
    let w3 : length f3 ≡ 1 + length src = omega (arith, ap length text3) in
    let e1 : 1 + length word ≡ 5 = omega (arith, w1) in
    let e2 : 5 + length f2 ≡ 6 + length dst = omega (arith, w2) in
    let e4 : 6 + length dst + length f3 ≡ ids_end dst src = omega (arith, w3) in
    let e3 : 1 + length word + length f2 + length f3 ≡ ids_end dst src = omega (arith, w1, w2, w3) in
    let values_are : (v ++ d) ++ s ≡ id_values version dst src = rw (is1, is2, is3) refl in
    record {
      version = version;
      dst = dst;
      src = src;
      left = left;
      behind = behind;
      ids = record {
        word = word;
        is_word = number;
        dst_len = len2;
        src_len = len3;
        text_is = split1 ∙ ap (λ (xs : List ℕ). word ++ xs) (split2 ∙ ap (λ (xs : List ℕ). xs ++ t2) text2
            ∙ ap (λ (xs : List ℕ). long_id dst ++ xs) (split3 ∙ ap (λ (xs : List ℕ). xs ++ left) text3));
      };
      spans_are = rw (all1, all2, all3, is1, is2, is3, e1, e2, e4) refl;
      others = subst (λ (n : ℕ). AreFieldsAt true options 4 n fields (id_values version dst src) behind after left rest) e3
          (subst (λ (xs : List HeaderValue). AreFieldsAt true options 4 (1 + length word + length f2 + length f3) fields xs behind after left rest) values_are others);
    }

-- the spans after a long header's first byte, and after its ids
abbrev behind_first : ℕ → List ℕ → List ℕ → List Span → List Span
behind_first version dst src behind =
    from_to 1 1 5 version ∷ from_to 2 5 (6 + length dst) (length dst)
    ∷ from_to 3 (6 + length dst) (ids_end dst src) (length src)
    ∷ behind

abbrev behind_typed : ℕ → List ℕ → List ℕ → List Span → List Span
behind_typed version dst src behind =
    behind_first version dst src (from_to 4 (ids_end dst src) (ids_end dst src) 0 ∷ behind)

-- the values and the spans of each row
data Shape (whole end : ℕ) (values : List HeaderValue) (others : List Span) : Type 0 where
  short_shape : (id : List ℕ) → values ≡ Bytes id ∷ [] → others ≡ from_to 1 1 end (length id) ∷ []
      → Shape whole end values others
  negotiation_shape : (dst src : List ℕ) → values ≡ id_values 0 dst src → others ≡ behind_first 0 dst src []
      → Shape whole end values others
  retry_shape : (version : ℕ) (dst src : List ℕ) → version ≢ 0 → values ≡ id_values version dst src
      → others ≡ behind_typed version dst src [] → Shape whole end values others
  standard_shape : (version : ℕ) (dst src : List ℕ) (len : ℕ)
      → values ≡ Number version ∷ Bytes dst ∷ Bytes src ∷ Number len ∷ []
      → others ≡ behind_typed version dst src (from_to 5 (ids_end dst src) end len ∷ [])
      → Shape whole end values others
  initial_shape : (version : ℕ) (dst src : List ℕ) (count left len start : ℕ)
      → values ≡ Number version ∷ Bytes dst ∷ Bytes src ∷ Number count ∷ Number left ∷ Number len ∷ []
      → start + count + left ≡ whole
      → others ≡ behind_typed version dst src (from_to 5 (ids_end dst src) start count
      ∷ from_to 6 start (start + count) count
      ∷ from_to 7 (start + count) end len
      ∷ [])
      → Shape whole end values others

-- ---- the shape of a row

fixed_width : (short : Bool) (n k : ℕ) (bytes id : List ℕ) (e : Refusal)
    → (short ≡ false → n ≤ length bytes)
    → cond {A = Result (List ℕ × ℕ) Refusal} short (Err e) (Ok (take n bytes, n)) ≡ Ok (id, k) → length id ≡ k
fixed_width true n k bytes id e room h = absurd cc
fixed_width false n k bytes id e room h =
    let parts : (let p : List ℕ × ℕ = (take n bytes, n) in p) ≡ (id, k) = cc in
    let text : take n bytes ≡ id = ap (λ (p : List ℕ × ℕ). p.0) parts in
    let width : n ≡ k = ap (λ (p : List ℕ × ℕ). p.1) parts in
    omega (arith, ap length text, width, length-take n bytes, room refl)

short_row : (id_len : ℕ) (versions : List ℕ) (whole end : ℕ) (text rest : List ℕ) (values : List HeaderValue)
    (others : List Span) → whole ≡ 1 + length text → end + length rest ≡ whole
    → AreFieldsAt true (any_fixed id_len versions) 1 1 (ShortId ∷ []) [] others values text rest
    → Shape whole end values others
short_row id_len versions whole end text rest values others size ends
    (v, front, left, o, split, (id, is, parsed), all, (none, after, same)) =
    let width : length id ≡ length front =
    fixed_width (nat_lt (length (front ++ left)) id_len) id_len (length front) (front ++ left) id _
    (λ room. (let enough : id_len ≤ length (front ++ left) = grind (arith, nat_tests, room) in enough)) parsed in
    let end_is : 1 + length front ≡ end =
    omega (arith, size, ends, ap length split, length-append front left, ap length same) in
    short_shape id (after ∙ is) (rw (all, none, is, end_is) refl)

ids_size : (text : List ℕ) (version : ℕ) (dst src left : List ℕ) → Ids text version dst src left
    → 1 + length text ≡ ids_end dst src + length left
ids_size text version dst src left ids = omega (
  arith,
  ap length ids.text_is,
  ids.is_word.width,
  length-append ids.word (long_id dst ++ (long_id src ++ left)),
  length-append dst (long_id src ++ left),
  length-append src left,
)

typed_row_shape : (options : DecodeOptions) (whole end version : ℕ) (dst src left rest : List ℕ)
    (values : List HeaderValue) (behind : List Span) (others : List Span) → version ≢ 0
    → whole ≡ ids_end dst src + length left → end + length rest ≡ whole
    → others ≡ behind_typed version dst src behind
    → (ty : LongHeaderType)
    → AreFieldsAt true options 5 (ids_end dst src) (typed_row ty) (id_values version dst src) behind values left rest
    → Shape whole end values others
typed_row_shape options whole end version dst src left rest values behind others some size ends are kind.Retry
    (none, after, same) =
    retry_shape version dst src some after (rw (are, none) refl)
typed_row_shape options whole end version dst src left rest values behind others some size ends are (kind.Standard ty)
    (v, front, back, o, split, (len, is, encoded), all, (none, after, same)) =
    let end_is : ids_end dst src + length front ≡ end =
    omega (arith, size, ends, ap length split, length-append front back, ap length same) in
    standard_shape version dst src len (after ∙ ap (λ (xs : List HeaderValue). id_values version dst src ++ xs) is)
    (rw (are, all, none, is, end_is) refl)
typed_row_shape options whole end version dst src left rest values behind others some size ends are kind.Initial (
  v1,
  f1,
  t1,
  o1,
  split1,
  (count, is1, encoded1),
  all1,
  (
    v2,
    token,
    t2,
    o2,
    split2,
    (is2, width),
    all2,
    (v3, f3, t3, o3, split3, (len, is3, encoded3), all3, (none, after, same)),
  ),
) =
    let base : List HeaderValue = id_values version dst src in
    let start : ℕ = ids_end dst src + length f1 in
    let token_size : length token ≡ count =
    width
    ∙ (let eq : token_length_of (base ++ v1) ≡ count = ap (λ (xs : List HeaderValue). token_length_of (base ++ xs)) is1 in eq) in
    let values_are : values ≡ Number version ∷ Bytes dst ∷ Bytes src ∷ Number count ∷ Number (length t2) ∷ Number len ∷ [] =
    after
    ∙ (let eq : ((base ++ v1) ++ v2) ++ v3 ≡ ((base ++ Number count ∷ []) ++ Number (length t2) ∷ []) ++ Number len
    ∷ [] = rw (is1, is2, is3) refl in eq) in
    let whole_is : start + count + length t2 ≡ whole =
    omega (arith, size, token_size, ap length split1, length-append f1 t1, ap length split2, length-append token t2) in
    let end_is : start + count + length f3 ≡ end =
    omega (arith, whole_is, ends, ap length split3, length-append f3 t3, ap length same) in
    initial_shape version dst src count (length t2) len start values_are whole_is
    (rw (are, all1, all2, all3, none, is1, is3, token_size, end_is) refl)

behind_shape : (options : DecodeOptions) (whole end first version : ℕ) (dst src left rest : List ℕ)
    (values : List HeaderValue) (behind others : List Span)
    → whole ≡ ids_end dst src + length left → end + length rest ≡ whole
    → others ≡ behind_first version dst src behind
    → (zero : Bool) → nat_eq version 0 ≡ zero
    → AreFieldsAt true options 4 (ids_end dst src)
    (cond zero [] (Supported version ∷ typed_row (long_type version first))) (id_values version dst src) behind values left rest
    → Shape whole end values others
behind_shape options whole end first version dst src left rest values behind others size ends are true is
    (none, after, same) =
    let none_version : version ≡ 0 = grind (arith, nat_tests, is) in
    negotiation_shape dst src (after ∙ ap (λ (n : ℕ). id_values n dst src) none_version)
    (rw (are, none, none_version) refl)
behind_shape options whole end first version dst src left rest values behind others size ends are false is
    (v, front, back, o, split, (no_values, no_bytes, known), all, typed) =
    let some : version ≢ 0 = (λ e. (let zero : nat_eq version 0 ≡ true = grind (arith, nat_tests, e) in cc)) in
    let width : length front ≡ 0 = ap length no_bytes in
    let at : ids_end dst src + length front ≡ ids_end dst src = omega (arith, width) in
    let size_left : whole ≡ ids_end dst src + length back = omega (arith, size, ap length split, length-append front back, width) in
    let here = subst (λ (n : ℕ). AreFieldsAt true options 5 n (typed_row (long_type version first))
    (id_values version dst src ++ v) o values back rest) at typed in
    typed_row_shape options whole end version dst src back rest values o others some size_left ends
    (rw (are, all, no_values, at) refl) (long_type version first)
    (subst (λ (xs : List HeaderValue). AreFieldsAt true options 5 (ids_end dst src) (typed_row (long_type version first))
    (id_values version dst src ++ xs) o values back rest) no_values here)

row_shape : (id_len : ℕ) (versions : List ℕ) (whole end first : ℕ) (text rest : List ℕ) (values : List HeaderValue)
    (others : List Span) → whole ≡ 1 + length text → end + length rest ≡ whole
    → (long : Bool)
    → AreFieldsAt true (any_fixed id_len versions) 1 1
    (cond long (long_row (cond (nat_eq (num (take 4 text)) 0) []
    (Supported (num (take 4 text)) ∷ typed_row (long_type (num (take 4 text)) first)))) (ShortId ∷ []))
    [] others values text rest
    → Shape whole end values others
row_shape id_len versions whole end first text rest values others size ends false fields =
    short_row id_len versions whole end text rest values others size ends fields
row_shape id_len versions whole end first text rest values others size ends true fields =
    let options = any_fixed id_len versions in
    let number = num (take 4 text) in
    let x = ids_at options (cond (nat_eq number 0) [] (Supported number ∷ typed_row (long_type number first))) others values
    text rest fields in
    let same : number ≡ x.version = version_is text x.version x.dst x.src x.left x.ids in
    let size_left : whole ≡ ids_end x.dst x.src + length x.left =
    size ∙ ids_size text x.version x.dst x.src x.left x.ids in
    behind_shape options whole end first x.version x.dst x.src x.left rest values x.behind others size_left ends x.spans_are
    (nat_eq x.version 0) refl
    (subst (λ (n : ℕ). AreFieldsAt true options 4 (ids_end x.dst x.src)
    (cond (nat_eq n 0) [] (Supported n ∷ typed_row (long_type n first))) (id_values x.version x.dst x.src) x.behind values
    x.left rest) same x.others)

-- ---- the header of a shape

shape_is : (whole end first : ℕ) (values : List HeaderValue) (others : List Span) (h : ProtectedHeader)
    → Shape whole end values others → IsHeader whole first values h
    → spans_in first end h ≡ first_span first ∷ others
shape_is whole end first values others (protected.Short spin dst) (short_shape id is are) (short, spin_is, h) =
    let same : id ≡ dst = (let e : Bytes id ∷ [] ≡ Bytes dst ∷ [] = sym is ∙ h in cc) in
    rw (are, same) refl
shape_is whole end first values others (protected.Short spin dst) (negotiation_shape d s is are) (short, spin_is, h) =
    absurd (let e : id_values 0 d s ≡ Bytes dst ∷ [] = sym is ∙ h in cc)
shape_is whole end first values others (protected.Short spin dst) (retry_shape v d s some is are) (short, spin_is, h) =
    absurd (let e : id_values v d s ≡ Bytes dst ∷ [] = sym is ∙ h in cc)
shape_is whole end first values others (protected.Short spin dst) (standard_shape v d s len is are) (short, spin_is, h) =
    absurd (let e : Number v ∷ Bytes d ∷ Bytes s ∷ Number len ∷ [] ≡ Bytes dst ∷ [] = sym is ∙ h in cc)
shape_is whole end first values others (protected.Short spin dst) (initial_shape v d s count left len start is sum are)
    (short, spin_is, h) =
    absurd (let e : Number v ∷ Bytes d ∷ Bytes s ∷ Number count ∷ Number left ∷ Number len ∷ [] ≡ Bytes dst ∷ [] = sym is ∙ h in cc)
shape_is whole end first values others (protected.VersionNegotiate random dst src) (short_shape id is are) (bits, h) =
    absurd (let e : Bytes id ∷ [] ≡ id_values 0 dst src = sym is ∙ h in cc)
shape_is whole end first values others (protected.VersionNegotiate random dst src) (negotiation_shape d s is are) (bits, h) =
    let e : id_values 0 d s ≡ id_values 0 dst src = sym is ∙ h in
    let same_dst : d ≡ dst = cc in
    let same_src : s ≡ src = cc in
    rw (are, same_dst, same_src) refl
shape_is whole end first values others (protected.VersionNegotiate random dst src) (retry_shape v d s some is are) (bits, h) =
    absurd (some (let e : id_values v d s ≡ id_values 0 dst src = sym is ∙ h in cc))
shape_is whole end first values others (protected.VersionNegotiate random dst src) (standard_shape v d s len is are) (bits, h) =
    absurd (let e : Number v ∷ Bytes d ∷ Bytes s ∷ Number len ∷ [] ≡ id_values 0 dst src = sym is ∙ h in cc)
shape_is whole end first values others (protected.VersionNegotiate random dst src)
    (initial_shape v d s count left len start is sum are) (bits, h) =
    absurd (let e : Number v ∷ Bytes d ∷ Bytes s ∷ Number count ∷ Number left ∷ Number len ∷ [] ≡ id_values 0 dst src = sym is ∙ h in cc)
shape_is whole end first values others (protected.Retry dst src version) (short_shape id is are) (some, ty, h) =
    absurd (let e : Bytes id ∷ [] ≡ id_values version dst src = sym is ∙ h in cc)
shape_is whole end first values others (protected.Retry dst src version) (negotiation_shape d s is are) (some, ty, h) =
    absurd (some (let e : id_values 0 d s ≡ id_values version dst src = sym is ∙ h in cc))
shape_is whole end first values others (protected.Retry dst src version) (retry_shape v d s other is are) (some, ty, h) =
    let e : id_values v d s ≡ id_values version dst src = sym is ∙ h in
    let same_version : v ≡ version = cc in
    let same_dst : d ≡ dst = cc in
    let same_src : s ≡ src = cc in
    rw (are, same_version, same_dst, same_src) refl
shape_is whole end first values others (protected.Retry dst src version) (standard_shape v d s len is are) (some, ty, h) =
    absurd (let e : Number v ∷ Bytes d ∷ Bytes s ∷ Number len ∷ [] ≡ id_values version dst src = sym is ∙ h in cc)
shape_is whole end first values others (protected.Retry dst src version) (initial_shape v d s count left len start is sum are)
    (some, ty, h) =
    absurd (let e : Number v ∷ Bytes d ∷ Bytes s ∷ Number count ∷ Number left ∷ Number len ∷ [] ≡ id_values version dst src = sym is ∙ h in cc)
shape_is whole end first values others (protected.Long ty dst src n version) (short_shape id is are) (k, h) =
    absurd (let e : Bytes id ∷ [] ≡ Number version ∷ Bytes dst ∷ Bytes src ∷ Number n ∷ [] = sym is ∙ h in cc)
shape_is whole end first values others (protected.Long ty dst src n version) (negotiation_shape d s is are) (k, h) =
    absurd (let e : id_values 0 d s ≡ Number version ∷ Bytes dst ∷ Bytes src ∷ Number n ∷ [] = sym is ∙ h in cc)
shape_is whole end first values others (protected.Long ty dst src n version) (retry_shape v d s other is are) (k, h) =
    absurd (let e : id_values v d s ≡ Number version ∷ Bytes dst ∷ Bytes src ∷ Number n ∷ [] = sym is ∙ h in cc)
shape_is whole end first values others (protected.Long ty dst src n version) (standard_shape v d s len is are) (k, h) =
    let e : Number v ∷ Bytes d ∷ Bytes s ∷ Number len ∷ [] ≡ Number version ∷ Bytes dst ∷ Bytes src ∷ Number n ∷ [] = sym is ∙ h in
    let same_version : v ≡ version = cc in
    let same_dst : d ≡ dst = cc in
    let same_src : s ≡ src = cc in
    let same_len : len ≡ n = cc in
    rw (are, same_version, same_dst, same_src, same_len) refl
shape_is whole end first values others (protected.Long ty dst src n version)
    (initial_shape v d s count left len start is sum are) (k, h) =
    absurd (let e : Number v ∷ Bytes d ∷ Bytes s ∷ Number count ∷ Number left ∷ Number len ∷ []
    ≡ Number version ∷ Bytes dst ∷ Bytes src ∷ Number n ∷ [] = sym is ∙ h in cc)
shape_is whole end first values others (protected.Initial i) (short_shape id is are) (count, left, begins, stops, h) =
    absurd (let e : Bytes id ∷ [] ≡ Number i.version ∷ Bytes i.dst_cid ∷ Bytes i.src_cid ∷ Number count ∷ Number left
    ∷ Number i.len ∷ [] = sym is ∙ h in cc)
shape_is whole end first values others (protected.Initial i) (negotiation_shape d s is are) (count, left, begins, stops, h) =
    absurd (let e : id_values 0 d s ≡ Number i.version ∷ Bytes i.dst_cid ∷ Bytes i.src_cid ∷ Number count ∷ Number left
    ∷ Number i.len ∷ [] = sym is ∙ h in cc)
shape_is whole end first values others (protected.Initial i) (retry_shape v d s other is are) (count, left, begins, stops, h) =
    absurd (let e : id_values v d s ≡ Number i.version ∷ Bytes i.dst_cid ∷ Bytes i.src_cid ∷ Number count ∷ Number left
    ∷ Number i.len ∷ [] = sym is ∙ h in cc)
shape_is whole end first values others (protected.Initial i) (standard_shape v d s len is are) (count, left, begins, stops, h) =
    absurd (let e : Number v ∷ Bytes d ∷ Bytes s ∷ Number len ∷ [] ≡ Number i.version ∷ Bytes i.dst_cid ∷ Bytes i.src_cid
    ∷ Number count ∷ Number left ∷ Number i.len ∷ [] = sym is ∙ h in cc)
shape_is whole end first values others (protected.Initial i) (initial_shape v d s n m len start is sum are)
    (count, left, begins, stops, h) =
    let e : Number v ∷ Bytes d ∷ Bytes s ∷ Number n ∷ Number m ∷ Number len ∷ []
    ≡ Number i.version ∷ Bytes i.dst_cid ∷ Bytes i.src_cid ∷ Number count ∷ Number left ∷ Number i.len ∷ [] = sym is ∙ h in
    let same_version : v ≡ i.version = cc in
    let same_dst : d ≡ i.dst_cid = cc in
    let same_src : s ≡ i.src_cid = cc in
    let same_count : n ≡ count = cc in
    let same_left : m ≡ left = cc in
    let same_len : len ≡ i.len = cc in
    let start_is : start ≡ i.token_pos.start = omega (arith, sum, same_count, same_left, begins, stops) in
    let stop_is : start + n ≡ i.token_pos.end = omega (arith, start_is, same_count, begins) in
    let count_is : n ≡ i.token_pos.end - i.token_pos.start = omega (arith, same_count, begins) in
    rw (are, stop_is, count_is, start_is, same_version, same_dst, same_src, same_len) refl

pub each_kind : (id_len : ℕ) (versions bytes : List ℕ) (h : ProtectedHeader) (rest : List ℕ)
    → HeaderAt (any_fixed id_len versions) (length bytes) bytes h rest
    → IsHeaderAt (any_fixed id_len versions) (length bytes) bytes h
    (spans_in (slice_index bytes 0) (length bytes - length rest) h) rest
each_kind id_len versions bytes h rest at =
    let options = any_fixed id_len versions in
    let s = header_with_spans options (length bytes) bytes h rest at in
    let first = s.1.0 in
    let text = s.1.1 in
    let size : length bytes ≡ 1 + length text = omega (arith, ap length s.1.4) in
    let room = header_in_row options (length bytes) bytes h s.0 rest s.1 in
    let ends : length bytes - length rest + length rest ≡ length bytes =
    omega (arith, ap length room.1, length-append room.0 rest) in
    let shape = row_shape id_len versions (length bytes) (length bytes - length rest) first text rest s.1.2 s.1.3 size ends
    (is_long first) s.1.6 in
    let are = shape_is (length bytes) (length bytes - length rest) first s.1.2 s.1.3 h shape s.1.7 in
    let same : slice_index bytes 0 ≡ first = ap (λ (xs : List ℕ). slice_index xs 0) s.1.4 in
    subst (λ (spans : List Span). IsHeaderAt options (length bytes) bytes h spans rest)
    (s.1.5 ∙ sym are ∙ ap (λ (n : ℕ). spans_in n (length bytes - length rest) h) (sym same)) s.1

-- ---- versions that aren't known

unknown_stops : (options : DecodeOptions) (fields : List HeaderField) (version : ℕ) (number dst src rest : List ℕ)
    → IsNumber 4 version number → (Contains options.versions version → ⊥)
    → StopsWithinAt false options 1 1 (long_row (Supported version ∷ fields)) [] (behind_first version dst src [])
    (number ++ (long_id dst ++ (long_id src ++ rest))) 4 (Unsupported src dst version)
unknown_stops options fields version number dst src rest is none =
    let e1 : 1 + length number ≡ 5 = omega (arith, is.width) in
    let e2 : 5 + length (long_id dst) ≡ 6 + length dst = omega arith in
    let e3 : 6 + length dst + length (long_id src) ≡ ids_end dst src = omega arith in
    let third : List Span = span 3 (1 + length number + length (long_id dst)) SourceId (Bytes src ∷ []) (length (long_id src)) ∷ [] in
    let second : List Span = span 2 (1 + length number) DestinationId (Bytes dst ∷ []) (length (long_id dst)) ∷ third in
    let all : List Span = span 1 1 Version (Number version ∷ []) (length number) ∷ second in
    let are : all ≡ behind_first version dst src [] = rw (e1, e2, e3) refl in
    let stops : StopsWithinAt false options 1 1 (long_row (Supported version ∷ fields)) [] all
    (number ++ (long_id dst ++ (long_id src ++ rest))) 4 (Unsupported src dst version) =
    inr (
      Number version ∷ [],
      number,
      long_id dst ++ (long_id src ++ rest),
      second,
      refl,
      (version, refl, is),
      refl,
      inr (
        Bytes dst ∷ [],
        long_id dst,
        long_id src ++ rest,
        third,
        refl,
        (dst, refl, refl),
        refl,
        inr (
          Bytes src ∷ [],
          long_id src,
          rest,
          [],
          refl,
          (src, refl, refl),
          refl,
          inl (
            refl,
            refl,
            record { none = λ values front back split found. none found.2; why = refl },
          ),
        ),
      ),
    ) in
    subst (λ (spans : List Span). StopsWithinAt false options 1 1 (long_row (Supported version ∷ fields)) [] spans
    (number ++ (long_id dst ++ (long_id src ++ rest))) 4 (Unsupported src dst version)) are stops

pub unknown_version : (id_len : ℕ) (versions bytes : List ℕ) (version : ℕ) (dst src : List ℕ)
    → IsUnknownVersion (any_fixed id_len versions) bytes version dst src
    → IsNoHeaderAt (any_fixed id_len versions) bytes (long_spans (slice_index bytes 0) version dst src []) 4
    (Unsupported src dst version)
unknown_version id_len versions bytes version dst src (rest, (first, number, split, long, is), some, none) =
    let options = any_fixed id_len versions in
    let text : List ℕ = number ++ (long_id dst ++ (long_id src ++ rest)) in
    let tests = not_unknown id_len versions first text version dst src (rest, (first, number, refl, long, is), some, none) in
    let same : num (take 4 text) ≡ version =
    ap num (take_front number (long_id dst ++ (long_id src ++ rest)) 4 is.width) ∙ is.value in
    let zero : nat_eq version 0 ≡ false = grind (arith, nat_tests, some) in
    let row : header_row_of first (num (take 4 text)) ≡ long_row (Supported version ∷ typed_row (long_type version first)) =
    rw (same, long, zero) refl in
    let stops = unknown_stops options (typed_row (long_type version first)) version number dst src rest is none in
    let here : IsNoHeaderAt options (first ∷ text) (long_spans first version dst src []) 4 (Unsupported src dst version) = (
      behind_first version dst src [],
      refl,
      subst (λ (known : Bool). StopsWithinAt known options 1 1 (header_row_of first (num (take 4 text))) []
          (behind_first version dst src []) text 4 (Unsupported src dst version)) (sym tests.1)
          (subst (λ (fields : List HeaderField). StopsWithinAt false options 1 1 fields []
          (behind_first version dst src []) text 4 (Unsupported src dst version)) (sym row) stops),
    ) in
    subst (λ (xs : List ℕ). IsNoHeaderAt options xs (long_spans (slice_index xs 0) version dst src []) 4
    (Unsupported src dst version)) (sym split) here
