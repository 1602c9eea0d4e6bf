-- What follows a packet does not change it.
use Rattle.std.specs.Prelude.{◌≡◌, ◌≢◌, ℕ, ◌+◌, ◌⊎◌, Bool, true, false, List, [], ◌∷◌, ◌++◌, length, take, drop, Option, Some, None, MatchOption, codes, slice_index, ◌≤◌, ◌<◌, nat_eq}
use Rattle.std.proofs.Common.{sym, ap, ◌∙◌, arith, refl, cond, subst, inl, inr, length-append, append_assoc}
use Rattle.std.proofs.lemmas.List.{length-take}
use Rattle.std.proofs.Math.Seq.{take-add}
use Rattle.std.proofs.lemmas.Bool.Decides.{nat_tests}
use Rattle.quic_base.specs.Number.{num}
use Rattle.quic_base.specs.ConnectionId.{long_id}
use Rattle.quic_header_decode.specs.declared.protected.ProtectedHeader.{ProtectedHeader}
use Rattle.quic_header_decode.specs.declared.protected.ProtectedHeader.TheVariants as protected
use Rattle.quic_header_encode.specs.declared.long_type.LongHeaderType.{LongHeaderType}
use Rattle.quic_header_encode.specs.declared.long_type.LongHeaderType.TheVariants as kind
use Rattle.quic_header_encode.specs.Types.{long_type}
use Rattle.quic_header_decode.specs.Refusal.{Refusal, Invalid, Unsupported, NoMemory}
use Rattle.quic_header_decode.specs.Grammar.{is_long, HeaderField, Supported, ShortId, HeaderValue, Number, Bytes, typed_row, header_row_of, StopsAtField, AreHeaderFields, StopsWithinRow, IsHeader, Refused, Cut}
use Rattle.quic_header_decode.specs.Reading.{DecodeOptions, len_in, at_end, bad_id}
use Rattle.quic_header_decode.proofs.Rows.{row_behind_ids}
use Rattle.quic_header_decode.proofs.Steps.{take_front, drop_front}
use Rattle.quic_header_decode.proofs.Headers.{Ids, id_values, long_row, ids_of, of_ids, stops_behind_ids, version_is}

-- bytes are replaced after a front and that many others
replaced : (front rest other bytes : List ℕ) (q len : ℕ) → bytes ≡ front ++ rest → q ≡ length front + len
    → take q bytes ++ other ≡ front ++ (take len rest ++ other)
replaced front rest other bytes q len split at =
    let kept : take (length front + len) (front ++ rest) ≡ front ++ take len rest =
    take-add (length front) len (front ++ rest)
    ∙ ap (λ (xs : List ℕ). xs ++ take len (drop (length front) (front ++ rest))) (take_front front rest (length front) refl)
    ∙ ap (λ (xs : List ℕ). front ++ take len xs) (drop_front front rest (length front) refl) in
    ap (λ (n : ℕ). take n bytes ++ other) at ∙ ap (λ (xs : List ℕ). take (length front + len) xs ++ other) split
    ∙ ap (λ (xs : List ℕ). xs ++ other) kept ∙ append_assoc front (take len rest) other

-- ---- headers that say their length

-- values of other headers
no_id : (whole first len : ℕ) (values : List HeaderValue) (id : List ℕ) (h : ProtectedHeader)
    → IsHeader whole first values h → len_in h ≡ Some len → values ≡ Bytes id ∷ [] → ⊥
no_id whole first len values id (protected.Short spin dst) is has values_are = cc
no_id whole first len values id (protected.VersionNegotiate random dst src) is has values_are = cc
no_id whole first len values id (protected.Retry dst src version) is has values_are = cc
no_id whole first len values id (protected.Long ty dst src n version) (type, is) has values_are =
    (let e : Bytes id ∷ [] ≡ Number version ∷ Bytes dst ∷ Bytes src ∷ Number n ∷ [] = sym values_are ∙ is in cc)
no_id whole first len values id (protected.Initial h) (count, left, start, stop, is) has values_are =
    (let e : Bytes id ∷ [] ≡ Number h.version ∷ Bytes h.dst_cid ∷ Bytes h.src_cid ∷ Number count ∷ Number left
    ∷ Number h.len ∷ [] = sym values_are ∙ is in cc)

no_ids : (whole first len version : ℕ) (dst src : List ℕ) (values : List HeaderValue) (h : ProtectedHeader)
    → IsHeader whole first values h → len_in h ≡ Some len → values ≡ id_values version dst src → ⊥
no_ids whole first len v d s values (protected.Short spin dst) is has values_are = cc
no_ids whole first len v d s values (protected.VersionNegotiate random dst src) is has values_are = cc
no_ids whole first len v d s values (protected.Retry dst src version) is has values_are = cc
no_ids whole first len v d s values (protected.Long ty dst src n version) (type, is) has values_are =
    (let e : id_values v d s ≡ Number version ∷ Bytes dst ∷ Bytes src ∷ Number n ∷ [] = sym values_are ∙ is in cc)
no_ids whole first len v d s values (protected.Initial h) (count, left, start, stop, is) has values_are =
    (let e : id_values v d s ≡ Number h.version ∷ Bytes h.dst_cid ∷ Bytes h.src_cid ∷ Number count ∷ Number left
    ∷ Number h.len ∷ [] = sym values_are ∙ is in cc)

-- a header without a token has no range for it
kept : (whole whole' first v n len : ℕ) (d s : List ℕ) (values : List HeaderValue) (h : ProtectedHeader)
    → IsHeader whole first values h → len_in h ≡ Some len
    → values ≡ Number v ∷ Bytes d ∷ Bytes s ∷ Number n ∷ [] → IsHeader whole' first values h
kept whole whole' first v n len d s values (protected.Short spin dst) is has values_are = absurd cc
kept whole whole' first v n len d s values (protected.VersionNegotiate random dst src) is has values_are = absurd cc
kept whole whole' first v n len d s values (protected.Retry dst src version) is has values_are = absurd cc
kept whole whole' first v n len d s values (protected.Long ty dst src m version) is has values_are = is
kept whole whole' first v n len d s values (protected.Initial h) (count, left, start, stop, is) has values_are =
    absurd (let e : Number v ∷ Bytes d ∷ Bytes s ∷ Number n ∷ [] ≡ Number h.version ∷ Bytes h.dst_cid ∷ Bytes h.src_cid
    ∷ Number count ∷ Number left ∷ Number h.len ∷ [] = sym values_are ∙ is in cc)

-- the values of a header with a token
abbrev six : ℕ → List ℕ → List ℕ → ℕ → ℕ → ℕ → List HeaderValue
six v d s count left n = Number v ∷ Bytes d ∷ Bytes s ∷ Number count ∷ Number left ∷ Number n ∷ []

-- and if it has a token, the token's offsets depend on what follows
shifted : (whole whole' first v count left left' n len : ℕ) (d s : List ℕ) (values : List HeaderValue) (h : ProtectedHeader)
    → IsHeader whole first values h → len_in h ≡ Some len
    → values ≡ six v d s count left n → whole' + left ≡ whole + left'
    → IsHeader whole' first (six v d s count left' n) h
shifted whole whole' first v count left left' n len d s values (protected.Short spin dst) is has values_are moved =
    absurd cc
shifted whole whole' first v count left left' n len d s values (protected.VersionNegotiate random dst src) is has values_are moved =
    absurd cc
shifted whole whole' first v count left left' n len d s values (protected.Retry dst src version) is has values_are moved =
    absurd cc
shifted whole whole' first v count left left' n len d s values (protected.Long ty dst src m version) (type, is) has values_are moved =
    absurd (let e : six v d s count left n ≡ Number version ∷ Bytes dst ∷ Bytes src ∷ Number m ∷ [] = sym values_are ∙ is in cc)
shifted whole whole' first v count left left' n len d s values (protected.Initial h) (count0, left0, start, stop, is) has values_are moved =
    let e : six v d s count left n ≡ six h.version h.dst_cid h.src_cid count0 left0 h.len = sym values_are ∙ is in
    let same : left ≡ left0 = cc in (
      count0,
      left',
      start,
      omega (arith, stop, moved, same),
      (let all : six v d s count left' n ≡ six h.version h.dst_cid h.src_cid count0 left' h.len = cc in all),
    )

-- The bytes are a front and then rest, and other bytes after that front leave the header as it is.
record Moves (options : DecodeOptions) (fields : List HeaderField) (before : List HeaderValue) (whole first : ℕ)
    (bytes rest : List ℕ) (h : ProtectedHeader) : Type 0 where
  front : List ℕ
  split : bytes ≡ front ++ rest
  moved : (other : List ℕ) (whole' : ℕ) → whole' + length rest ≡ whole + length other
      → (values : List HeaderValue) × AreHeaderFields options fields before values (front ++ other) other × IsHeader whole' first values h

typed_moves : (options : DecodeOptions) (whole first len version : ℕ) (dst src left rest : List ℕ)
    (values : List HeaderValue) (h : ProtectedHeader)
    → IsHeader whole first values h → len_in h ≡ Some len
    → (ty : LongHeaderType) → AreHeaderFields options (typed_row ty) (id_values version dst src) values left rest
    → Moves options (typed_row ty) (id_values version dst src) whole first left rest h
typed_moves options whole first len version dst src left rest values h is has kind.Retry (values_are, same) =
    absurd (no_ids whole first len version dst src values h is has values_are)
typed_moves options whole first len version dst src left rest values h is has (kind.Standard ty)
    (v, back, (f, split, (n, is1, encoded)), (values_are, same)) =
    let all : values ≡ Number version ∷ Bytes dst ∷ Bytes src ∷ Number n ∷ [] =
    values_are ∙ ap (λ (xs : List HeaderValue). id_values version dst src ++ xs) is1 in
    record {
      front = f;
      split = split ∙ ap (λ (xs : List ℕ). f ++ xs) same;
      moved = λ other whole' sum. (
        values,
        (v, other, (f, refl, (n, is1, encoded)), (values_are, refl)),
        kept whole whole' first version n len dst src values h is has all,
      );
    }
typed_moves options whole first len version dst src left rest values h is has kind.Initial (
  v1,
  t1,
  (f1, split1, (count, is1, encoded1)),
  (
    v2,
    t2,
    (token, split2, (is2, width)),
    (v3, t3, (f3, split3, (n, is3, encoded3)), (values_are, same)),
  ),
) =
    let base : List HeaderValue = id_values version dst src in
    let all : values ≡ six version dst src count (length t2) n =
    values_are
    ∙ (let eq : ((base ++ v1) ++ v2) ++ v3 ≡ ((base ++ Number count ∷ []) ++ Number (length t2) ∷ []) ++ Number n
    ∷ [] = rw (is1, is2, is3) in eq) in
    let inner : t2 ≡ f3 ++ rest = split3 ∙ ap (λ (xs : List ℕ). f3 ++ xs) same in
    let tail : (xs : List ℕ) → (f1 ++ (token ++ f3)) ++ xs ≡ f1 ++ (token ++ (f3 ++ xs)) =
    λ xs. append_assoc f1 (token ++ f3) xs ∙ ap (λ (ys : List ℕ). f1 ++ ys) (append_assoc token f3 xs) in
    record {
      front = f1 ++ (token ++ f3);
      split = split1 ∙ ap (λ (xs : List ℕ). f1 ++ xs) (split2 ∙ ap (λ (xs : List ℕ). token ++ xs) inner) ∙ sym (tail rest);
      moved = λ other whole' sum. (
        six version dst src count (length (f3 ++ other)) n,
        (
          v1,
          token ++ (f3 ++ other),
          (f1, tail other, (count, is1, encoded1)),
          (
            Number (length (f3 ++ other)) ∷ [],
            f3 ++ other,
            (token, refl, (refl, width)),
            (
              v3,
              other,
              (f3, refl, (n, is3, encoded3)),
              (
                ap (λ (xs : List HeaderValue).
                    ((base ++ xs) ++ Number (length (f3 ++ other)) ∷ []) ++ Number n ∷ []) (sym is1)
                    ∙ ap (λ (xs : List HeaderValue). ((base ++ v1) ++ Number (length (f3 ++ other)) ∷ []) ++ xs) (sym is3),
                refl,
              ),
            ),
          ),
        ),
        shifted whole whole' first version count (length t2) (length (f3 ++ other)) n len dst src values h is has all
            (omega (arith, sum, ap length inner, length-append f3 rest, length-append f3 other)),
      );
    }

behind_moves : (options : DecodeOptions) (whole first len version : ℕ) (dst src left rest : List ℕ)
    (values : List HeaderValue) (h : ProtectedHeader)
    → IsHeader whole first values h → len_in h ≡ Some len
    → (none : Bool) (ty : LongHeaderType)
    → AreHeaderFields options (cond none [] (Supported version ∷ typed_row ty)) (id_values version dst src) values left rest
    → Moves options (cond none [] (Supported version ∷ typed_row ty)) (id_values version dst src) whole first left rest h
behind_moves options whole first len version dst src left rest values h is has true ty (values_are, same) =
    absurd (no_ids whole first len version dst src values h is has values_are)
behind_moves options whole first len version dst src left rest values h is has false ty
    (v, back, (f, split, (values_are, none, known)), others) =
    let kept_left : left ≡ back = split ∙ ap (λ (xs : List ℕ). xs ++ back) none in
    let m = typed_moves options whole first len version dst src back rest values h is has ty
    (subst (λ (xs : List HeaderValue). AreHeaderFields options (typed_row ty) (id_values version dst src ++ xs) values
    back rest) values_are others) in
    record {
      front = m.front;
      split = kept_left ∙ m.split;
      moved = λ other whole' sum. (let x = m.moved other whole' sum in
          (x.0, ([], m.front ++ other, ([], refl, (refl, refl, known)), x.1), x.2));
    }

row_moves : (options : DecodeOptions) (whole first len : ℕ) (text rest : List ℕ) (values : List HeaderValue) (h : ProtectedHeader)
    → IsHeader whole first values h → len_in h ≡ Some len
    → (long : Bool) → is_long first ≡ long
    → AreHeaderFields options (cond long (long_row (row_behind_ids first (num (take 4 text)))) (ShortId ∷ [])) [] values text rest
    → (front : List ℕ) × (text ≡ front ++ rest) × ((other : List ℕ) (whole' : ℕ) → whole' + length rest ≡ whole + length other
    → (values : List HeaderValue) × AreHeaderFields options (header_row_of first (num (take 4 (front ++ other)))) []
    values (front ++ other) other × IsHeader whole' first values h)
row_moves options whole first len text rest values h is has false short (v, back, (f, split, (id, is1, parsed)), (values_are, same)) =
    absurd (no_id whole first len values id h is has (values_are ∙ is1))
row_moves options whole first len text rest values h is has true long d =
    let x = ids_of options (row_behind_ids first (num (take 4 text))) values text rest d in
    let version : ℕ = x.0 in
    let dst : List ℕ = x.1 in
    let src : List ℕ = x.2 in
    let left : List ℕ = x.3 in
    let ids : Ids text version dst src left = x.4 in
    let m = behind_moves options whole first len version dst src left rest values h is has (nat_eq version 0) (long_type version first)
    (subst (λ (n : ℕ). AreHeaderFields options (row_behind_ids first n) (id_values version dst src) values left rest)
    (version_is text version dst src left ids) x.5) in
    let front : List ℕ = ids.word ++ (long_id dst ++ (long_id src ++ m.front)) in
    let tail : (xs : List ℕ) → front ++ xs ≡ ids.word ++ (long_id dst ++ (long_id src ++ (m.front ++ xs))) =
    λ xs. append_assoc ids.word (long_id dst ++ (long_id src ++ m.front)) xs
    ∙ ap (λ (ys : List ℕ). ids.word ++ ys) (append_assoc (long_id dst) (long_id src ++ m.front) xs
    ∙ ap (λ (ys : List ℕ). long_id dst ++ ys) (append_assoc (long_id src) m.front xs)) in (
      front,
      ids.text_is ∙ ap (λ (ys : List ℕ). ids.word ++ (long_id dst ++ (long_id src ++ ys))) m.split ∙ sym (tail rest),
      λ other whole' sum.
          let y = m.moved other whole' sum in
          let ids' : Ids (front ++ other) version dst src (m.front ++ other) =
          record { word = ids.word; is_word = ids.is_word; dst_len = ids.dst_len; src_len = ids.src_len; text_is = tail other } in
          let row : header_row_of first (num (take 4 (front ++ other))) ≡ long_row (row_behind_ids first version) =
          ap (λ (n : ℕ). header_row_of first n) (version_is (front ++ other) version dst src (m.front ++ other) ids')
          ∙ ap (λ (b : Bool). cond b (long_row (row_behind_ids first version)) (ShortId ∷ [])) long in (
            y.0,
            subst (λ (fields : List HeaderField). AreHeaderFields options fields [] y.0 (front ++ other) other) (sym row)
                (of_ids options (row_behind_ids first version) y.0 (front ++ other) other version dst src (m.front ++ other) ids' y.1),
            y.2,
          ),
    )

stop_of : (o : Option ℕ) (len p q whole : ℕ) → o ≡ Some len → MatchOption o (q ≡ whole) (λ len. q ≡ p + len)
    → q ≡ p + len
stop_of None len p q whole is ends = absurd cc
stop_of (Some n) len p q whole is ends = (let same : n ≡ len = cc in ends ∙ ap (λ (k : ℕ). p + k) same)

ends_of : (o : Option ℕ) (len p q whole : ℕ) → o ≡ Some len → q ≡ p + len
    → MatchOption o (q ≡ whole) (λ len. q ≡ p + len)
ends_of None len p q whole is stop = absurd cc
ends_of (Some n) len p q whole is stop = (let same : n ≡ len = cc in stop ∙ ap (λ (k : ℕ). p + k) (sym same))

pub cut_alone : (options : DecodeOptions) (bytes other : List ℕ) (h : ProtectedHeader) (p q len : ℕ)
    → Cut options bytes h p q → len_in h ≡ Some len → Cut options (take q bytes ++ other) h p q
cut_alone options bytes other h p q len (rest, (first, text, values, split, fixed, fields, is), sum, ends, within) has =
    let m = row_moves options (length bytes) first len text rest values h is has (is_long first) refl fields in
    let front : List ℕ = first ∷ m.0 in
    let whole : bytes ≡ front ++ rest = split ∙ ap (λ (xs : List ℕ). first ∷ xs) m.1 in
    let stop : q ≡ p + len = stop_of (len_in h) len p q (length bytes) has ends in
    let new : List ℕ = take q bytes ++ other in
    let behind : List ℕ = take len rest ++ other in
    let size : length bytes ≡ length front + length rest = ap length whole ∙ length-append front rest in
    let made : new ≡ front ++ behind = replaced front rest other bytes q len whole (omega (arith, stop, sum, size)) in
    let total : length new ≡ q + length other =
    omega (arith, length-append (take q bytes) other, length-take q bytes, within) in
    let inner : length behind ≡ len + length other =
    omega (arith, length-append (take len rest) other, length-take len rest, sum, within, stop) in
    let y = m.2 behind (length new) (omega (arith, total, inner, stop, sum)) in (
      behind,
      (first, m.0 ++ behind, y.0, made, fixed, y.1, y.2),
      omega (arith, total, inner, stop),
      ends_of (len_in h) len p q (length new) has stop,
      omega (arith, total),
    )

-- ---- errors that stay, whatever follows

-- how long its text is
abbrev text_size : Refusal → ℕ
text_size (Unsupported src dst version) = 0
text_size (Invalid text) = length text
text_size NoMemory = 1

abbrev past_token : Refusal
past_token = Invalid (codes "token out of bounds")

-- an error that later bytes may change
abbrev IsPlain : Refusal → Type 0
IsPlain e = (e ≡ at_end) ⊎ (e ≡ bad_id) ⊎ (e ≡ past_token)

typed_reported : (options : DecodeOptions) (before : List HeaderValue) (bytes : List ℕ) (e : Refusal) (ty : LongHeaderType)
    → StopsWithinRow options (typed_row ty) before bytes e → IsPlain e
typed_reported options before bytes e kind.Retry stops = absurd stops
typed_reported options before bytes e (kind.Standard ty) (inl stops) = inl stops.why
typed_reported options before bytes e (kind.Standard ty) (inr d) = absurd d.3
typed_reported options before bytes e kind.Initial (inl stops) = inl stops.why
typed_reported options before bytes e kind.Initial (inr (v1, t1, b1, inl stops)) = inr (inr stops.why)
typed_reported options before bytes e kind.Initial (inr (v1, t1, b1, inr (v2, t2, b2, inl stops))) = inl stops.why
typed_reported options before bytes e kind.Initial (inr (v1, t1, b1, inr (v2, t2, b2, inr d))) = absurd d.3

-- the ids are there, and the version is unknown
abbrev IsUnknown : DecodeOptions → List ℕ → Refusal → Type 0
IsUnknown options text e =
    (version : ℕ) × (dst src left : List ℕ) × Ids text version dst src left × (version ≢ 0)
    × StopsAtField options (Supported version) (id_values version dst src) left e

behind_reported : (options : DecodeOptions) (first version : ℕ) (text dst src left : List ℕ) (e : Refusal)
    → Ids text version dst src left
    → (none : Bool) → nat_eq version 0 ≡ none → (ty : LongHeaderType)
    → StopsWithinRow options (cond none [] (Supported version ∷ typed_row ty)) (id_values version dst src) left e
    → IsPlain e ⊎ IsUnknown options text e
behind_reported options first version text dst src left e ids true zero ty stops = absurd stops
behind_reported options first version text dst src left e ids false some ty (inl stops) =
    inr (version, dst, src, left, ids, (let other : version ≢ 0 = grind (arith, nat_tests) in other), stops)
behind_reported options first version text dst src left e ids false some ty (inr d) =
    inl (typed_reported options (id_values version dst src ++ d.0) d.1 e ty d.3)

long_reported : (options : DecodeOptions) (first : ℕ) (text : List ℕ) (e : Refusal)
    → StopsWithinRow options (long_row (row_behind_ids first (num (take 4 text)))) [] text e
    → IsPlain e ⊎ IsUnknown options text e
long_reported options first text e (inl stops) = inl (inl stops.why)
long_reported options first text e (inr (v1, t1, b1, inl stops)) = inl (inr (inl stops.why))
long_reported options first text e (inr (v1, t1, b1, inr (v2, t2, b2, inl stops))) = inl (inr (inl stops.why))
long_reported options first text e
    (inr (
      v,
      t1,
      (word, split1, (version, is1, number)),
      inr
          (d, t2, (f2, split2, (dst, is2, len2, text2)), inr (s, left, (f3, split3, (src, is3, len3, text3)), stops)),
    )) =
    let ids : Ids text version dst src left = record {
      word = word;
      is_word = number;
      dst_len = len2;
      src_len = len3;
      text_is = split1 ∙ ap (λ (xs : List ℕ). word ++ xs) (split2 ∙ ap (λ (xs : List ℕ). xs ++ t2) text2
          ∙ ap (λ (xs : List ℕ). long_id dst ++ xs) (split3 ∙ ap (λ (xs : List ℕ). xs ++ left) text3));
    } in
    let values_are : (v ++ d) ++ s ≡ id_values version dst src = rw (is1, is2, is3) in
    behind_reported options first version text dst src left e ids (nat_eq version 0) refl (long_type version first)
    (subst (λ (n : ℕ). StopsWithinRow options (row_behind_ids first n) (id_values version dst src) left e)
    (version_is text version dst src left ids)
    (subst (λ (xs : List HeaderValue). StopsWithinRow options (row_behind_ids first (num (take 4 text))) xs left e) values_are stops))

row_reported : (options : DecodeOptions) (first : ℕ) (text : List ℕ) (e : Refusal) → 128 ≤ first
    → StopsWithinRow options (header_row_of first (num (take 4 text))) [] text e → IsPlain e ⊎ IsUnknown options text e
row_reported options first text e long stops =
    let test : is_long first ≡ true = grind (arith, nat_tests) in
    long_reported options first text e (subst (λ (b : Bool). StopsWithinRow options
    (cond b (long_row (row_behind_ids first (num (take 4 text)))) (ShortId ∷ [])) [] text e) test stops)

other_size : (e : Refusal) (n : ℕ) → IsPlain e → text_size e ≡ n → n < 13 ⊎ (n ≡ 15) → ⊥
other_size e n (inl is) size small = elim small [
  | inl lt ↦ omega (arith, lt, size, ap text_size is)
  | inr eq ↦ omega (arith, eq, size, ap text_size is)
]
other_size e n (inr (inl is)) size small = elim small [
  | inl lt ↦ omega (arith, lt, size, ap text_size is)
  | inr eq ↦ omega (arith, eq, size, ap text_size is)
]
other_size e n (inr (inr is)) size small = elim small [
  | inl lt ↦ omega (arith, lt, size, ap text_size is)
  | inr eq ↦ omega (arith, eq, size, ap text_size is)
]

pub fixed_alone : (options : DecodeOptions) (bytes other : List ℕ) → 128 ≤ slice_index bytes 0 → Refused options bytes (Invalid (codes "fixed bit unset")) → Refused options (bytes ++ other) (Invalid (codes "fixed bit unset"))
fixed_alone options [] other long is = absurd (omega (arith, long))
fixed_alone options (first ∷ text) other long (inl unset) = inl unset
fixed_alone options (first ∷ text) other long (inr (set, stops)) = elim (row_reported options first text (Invalid (codes "fixed bit unset")) long stops) [
  | inl plain ↦ absurd (other_size (Invalid (codes "fixed bit unset")) 15 plain refl (inr refl))
  | inr unknown ↦ absurd (let n : 15 ≡ 0 = ap text_size unknown.6.why in omega (arith, n))
]

pub version_alone : (options : DecodeOptions) (bytes other src dst : List ℕ) (version : ℕ) → 128 ≤ slice_index bytes 0
    → Refused options bytes (Unsupported src dst version)
    → Refused options (bytes ++ other) (Unsupported src dst version)
version_alone options [] other src dst version long is = absurd (omega (arith, long))
version_alone options (first ∷ text) other src dst version long (inl unset) =
    absurd (let n : 0 ≡ 15 = ap text_size unset.1 in omega (arith, n))
version_alone options (first ∷ text) other src dst version long (inr (set, stops)) =
    elim (row_reported options first text (Unsupported src dst version) long stops) [
      | inl plain ↦ absurd (other_size (Unsupported src dst version) 0 plain refl (inl (omega arith)))
      | inr (v, d, s, left, ids, some, unknown) ↦
          let e : Refusal = Unsupported src dst version in
          let tail : text ++ other ≡ ids.word ++ (long_id d ++ (long_id s ++ (left ++ other))) =
          ap (λ (xs : List ℕ). xs ++ other) ids.text_is ∙ append_assoc ids.word (long_id d ++ (long_id s ++ left)) other
          ∙ ap (λ (ys : List ℕ). ids.word ++ ys) (append_assoc (long_id d) (long_id s ++ left) other
          ∙ ap (λ (ys : List ℕ). long_id d ++ ys) (append_assoc (long_id s) left other)) in
          let ids' : Ids (text ++ other) v d s (left ++ other) =
          record { word = ids.word; is_word = ids.is_word; dst_len = ids.dst_len; src_len = ids.src_len; text_is = tail } in
          let stays : StopsAtField options (Supported v) (id_values v d s) (left ++ other) e = record {
            none = λ values rest (front, split, is). unknown.none [] left ([], refl, (refl, refl, is.2));
            why = unknown.why;
          } in
          let test : is_long first ≡ true = grind (arith, nat_tests) in
          let nonzero : nat_eq v 0 ≡ false = grind (arith, nat_tests) in
          let row : header_row_of first (num (take 4 (text ++ other))) ≡ long_row (Supported v ∷ typed_row (long_type v first)) =
          ap (λ (n : ℕ). header_row_of first n) (version_is (text ++ other) v d s (left ++ other) ids')
          ∙ ap (λ (b : Bool). cond b (long_row (row_behind_ids first v)) (ShortId ∷ [])) test
          ∙ ap (λ (b : Bool). long_row (cond b [] (Supported v ∷ typed_row (long_type v first)))) nonzero in
          inr (
            set,
            subst (λ (fields : List HeaderField). StopsWithinRow options fields [] (text ++ other) e) (sym row)
                (stops_behind_ids options (Supported v ∷ typed_row (long_type v first)) (text ++ other) e v d s
                (left ++ other) ids' (inl stays)),
          )
    ]
