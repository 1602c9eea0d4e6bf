-- Headers of parts that are put together.
use Rattle.std.specs.Prelude.{◌≡◌, ◌≢◌, ℕ, ◌+◌, ◌/◌, ◌%◌, ◌<◌, ◌≤◌, ◌^◌, Bool, true, false, List, [], ◌∷◌, ◌++◌, length, take, Ok, nat_eq}
use Rattle.std.proofs.Common.{sym, ap, ◌∙◌, arith, refl, cond, subst, append_assoc}
use Rattle.std.proofs.lemmas.Bool.Decides.{nat_tests}
use Rattle.quic_base.specs.Number.{has_bit, bytes_of, num}
use Rattle.quic_base.specs.Varint.{Encodes}
use Rattle.quic_base.specs.ConnectionId.{long_id}
use Rattle.quic_base.proofs.PublicLaws as law
use Rattle.quic_header_decode.specs.declared.protected.ProtectedHeader.{ProtectedHeader}
use Rattle.quic_header_decode.specs.declared.protected.ProtectedHeader.TheVariants as protected
use Rattle.quic_header_decode.specs.declared.protected.ProtectedInitialHeader.{ProtectedInitialHeader}
use Rattle.quic_header_encode.specs.declared.long_type.LongHeaderType.{LongHeaderType}
use Rattle.quic_header_encode.specs.declared.long_type.LongHeaderType.TheVariants as kind
use Rattle.quic_header_encode.specs.declared.long_type.LongType.{LongType}
use Rattle.quic_header_encode.specs.Kinds.{long_front}
use Rattle.quic_header_encode.specs.Types.{long_type}
use Rattle.quic_header_decode.specs.Grammar.{is_long, is_fixed, HeaderField, Supported, ShortId, HeaderValue, Number, Bytes, typed_row, header_row_of, AreHeaderFields, IsHeader, HeaderAt, IsKnownVersion}
use Rattle.quic_header_decode.specs.Reading.{DecodeOptions}
use Rattle.quic_header_decode.proofs.Rows.{row_behind_ids}
use Rattle.quic_header_decode.proofs.Rows.{or_right}
use Rattle.quic_header_decode.proofs.Headers.{Ids, id_values, long_row, of_ids, version_is}

-- the bytes are a long header's first byte, version and ids, and rest
pub record LongStart (options : DecodeOptions) (bytes : List ℕ) (first version : ℕ) (dst src rest : List ℕ) : Type 0 where
  pub long : 128 ≤ first
  pub fixed : is_fixed options first ≡ true
  pub range : version < 2 ^ 32
  pub dst_len : length dst ≤ 20
  pub src_len : length src ≤ 20
  pub text : bytes ≡ long_front first version dst src ++ rest

pub fixed_set : (options : DecodeOptions) (first : ℕ) → first / 64 % 2 ≡ 1 → is_fixed options first ≡ true
fixed_set options first is = or_right options.grease (has_bit 0x40 first) (grind (arith, nat_tests))

-- what is after the first byte
abbrev after_first : ℕ → List ℕ → List ℕ → List ℕ → List ℕ
after_first version dst src rest = bytes_of 4 version ++ (long_id dst ++ (long_id src ++ rest))

-- a front and what follows it, part by part
joined : (first version : ℕ) (dst src rest : List ℕ)
    → long_front first version dst src ++ rest ≡ first ∷ after_first version dst src rest
joined first version dst src rest =
    append_assoc (first ∷ bytes_of 4 version) (long_id dst ++ long_id src) rest
    ∙ ap (λ (xs : List ℕ). (first ∷ bytes_of 4 version) ++ xs) (append_assoc (long_id dst) (long_id src) rest)

made : (options : DecodeOptions) (whole : ℕ) (bytes : List ℕ) (first version : ℕ) (dst src left rest : List ℕ)
    (values : List HeaderValue) (h : ProtectedHeader)
    → LongStart options bytes first version dst src left
    → AreHeaderFields options (row_behind_ids first version) (id_values version dst src) values left rest
    → IsHeader whole first values h → HeaderAt options whole bytes h rest
made options whole bytes first version dst src left rest values h start others is =
    let text : List ℕ = after_first version dst src left in
    let ids : Ids text version dst src left =
    record {
      word = bytes_of 4 version;
      is_word = law.is_number_4 version start.range;
      dst_len = start.dst_len;
      src_len = start.src_len;
      text_is = refl;
    } in
    let above : 128 ≤ first = start.long in
    let test : is_long first ≡ true = grind (arith, nat_tests) in
    let row : header_row_of first (num (take 4 text)) ≡ long_row (row_behind_ids first version) =
    ap (λ (n : ℕ). header_row_of first n) (version_is text version dst src left ids)
    ∙ ap (λ (b : Bool). cond b (long_row (row_behind_ids first version)) (ShortId ∷ [])) test in (
      first,
      text,
      values,
      start.text ∙ joined first version dst src left,
      start.fixed,
      subst (λ (fields : List HeaderField). AreHeaderFields options fields [] values text rest) (sym row)
          (of_ids options (row_behind_ids first version) values text rest version dst src left ids others),
      is,
    )

-- the row of a type, after a version that is known
typed : (options : DecodeOptions) (first version : ℕ) (ty : LongHeaderType) → IsKnownVersion options version
    → long_type version first ≡ ty → row_behind_ids first version ≡ Supported version ∷ typed_row ty
typed options first version ty known is =
    let other : version ≢ 0 = known.0 in
    let test : nat_eq version 0 ≡ false = grind (arith, nat_tests) in
    ap (λ (b : Bool). cond b [] (Supported version ∷ typed_row (long_type version first))) test
    ∙ ap (λ (k : LongHeaderType). Supported version ∷ typed_row k) is

typed_made : (options : DecodeOptions) (whole : ℕ) (bytes : List ℕ) (first version : ℕ) (dst src left rest : List ℕ)
    (values : List HeaderValue) (h : ProtectedHeader) (ty : LongHeaderType)
    → LongStart options bytes first version dst src left → IsKnownVersion options version → long_type version first ≡ ty
    → AreHeaderFields options (typed_row ty) (id_values version dst src) values left rest
    → IsHeader whole first values h → HeaderAt options whole bytes h rest
typed_made options whole bytes first version dst src left rest values h ty start known type others is =
    made options whole bytes first version dst src left rest values h start
    (subst (λ (fields : List HeaderField). AreHeaderFields options fields (id_values version dst src) values left rest)
    (sym (typed options first version ty known type))
    ([], left, ([], refl, (refl, refl, known.1)), others))
    is

-- ---- each header

pub long_header : (options : DecodeOptions) (whole : ℕ) (bytes : List ℕ) (first version : ℕ)
    (dst src text rest : List ℕ) (ty : LongType) (len : ℕ)
    → LongStart options bytes first version dst src (text ++ rest) → IsKnownVersion options version
    → long_type version first ≡ kind.Standard ty → Encodes len text
    → HeaderAt options whole bytes (protected.Long ty dst src len version) rest
long_header options whole bytes first version dst src text rest ty len start known type encoded =
    typed_made options whole bytes first version dst src (text ++ rest) rest
    (Number version ∷ Bytes dst ∷ Bytes src ∷ Number len ∷ []) (protected.Long ty dst src len version)
    (kind.Standard ty) start known type
    (Number len ∷ [], rest, (text, refl, (len, refl, encoded)), (refl, refl)) (type, refl)

pub initial_header : (options : DecodeOptions) (whole : ℕ) (bytes : List ℕ) (first : ℕ) (count token text rest : List ℕ)
    (h : ProtectedInitialHeader)
    → LongStart options bytes first h.version h.dst_cid h.src_cid (count ++ (token ++ (text ++ rest)))
    → IsKnownVersion options h.version → long_type h.version first ≡ kind.Initial
    → Encodes (length token) count → Encodes h.len text → h.token_pos.end + length (text ++ rest) ≡ whole
    → h.token_pos.start + length token ≡ h.token_pos.end
    → HeaderAt options whole bytes (protected.Initial h) rest
initial_header options whole bytes first count token text rest h start known type counted encoded stop from =
    let left : ℕ = length (text ++ rest) in
    typed_made options whole bytes first h.version h.dst_cid h.src_cid (count ++ (token ++ (text ++ rest))) rest
    (Number h.version ∷ Bytes h.dst_cid ∷ Bytes h.src_cid ∷ Number (length token) ∷ Number left ∷ Number h.len ∷ [])
    (protected.Initial h) kind.Initial start known type (
      Number (length token) ∷ [],
      token ++ (text ++ rest),
      (count, refl, (length token, refl, counted)),
      (
        Number left ∷ [],
        text ++ rest,
        (token, refl, (refl, refl)),
        (Number h.len ∷ [], rest, (text, refl, (h.len, refl, encoded)), (refl, refl)),
      ),
    ) (length token, left, from, stop, refl)

pub retry_header : (options : DecodeOptions) (whole : ℕ) (bytes : List ℕ) (first version : ℕ) (dst src rest : List ℕ)
    → LongStart options bytes first version dst src rest → IsKnownVersion options version
    → long_type version first ≡ kind.Retry → HeaderAt options whole bytes (protected.Retry dst src version) rest
retry_header options whole bytes first version dst src rest start known type =
    typed_made options whole bytes first version dst src rest rest (id_values version dst src)
    (protected.Retry dst src version) kind.Retry start known type (refl, refl) (known.0, type, refl)

pub negotiation_header : (options : DecodeOptions) (whole : ℕ) (bytes : List ℕ) (random : ℕ) (dst src rest : List ℕ)
    → LongStart options bytes (128 + random) 0 dst src rest
    → HeaderAt options whole bytes (protected.VersionNegotiate random dst src) rest
negotiation_header options whole bytes random dst src rest start =
    made options whole bytes (128 + random) 0 dst src rest rest (id_values 0 dst src)
    (protected.VersionNegotiate random dst src) start (refl, refl) (refl, refl)

pub short_header : (options : DecodeOptions) (whole : ℕ) (bytes : List ℕ) (first : ℕ) (spin : Bool) (dst text rest : List ℕ)
    → first < 128 → is_fixed options first ≡ true
    → bytes ≡ first ∷ (text ++ rest) → options.parsed (text ++ rest) ≡ Ok (dst, length text)
    → spin ≡ nat_eq (first / 32 % 2) 1 → HeaderAt options whole bytes (protected.Short spin dst) rest
short_header options whole bytes first spin dst text rest short fixed split parsed is =
    let test : is_long first ≡ false = grind (arith, nat_tests) in
    let row : header_row_of first (num (take 4 (text ++ rest))) ≡ ShortId ∷ [] =
    ap (λ (b : Bool). cond b (long_row (row_behind_ids first (num (take 4 (text ++ rest))))) (ShortId ∷ [])) test in (
      first,
      text ++ rest,
      Bytes dst ∷ [],
      split,
      fixed,
      subst (λ (fields : List HeaderField). AreHeaderFields options fields [] (Bytes dst ∷ []) (text ++ rest) rest)
          (sym row) (Bytes dst ∷ [], rest, (text, refl, (dst, refl, parsed)), (refl, refl)),
      (test, is, refl),
    )
