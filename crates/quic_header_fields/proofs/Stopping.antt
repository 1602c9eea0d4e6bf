-- Where reading stops inside a field.
use Rattle.std.specs.Prelude.{nat_lt, ◌<◌, ◌≤◌}
use Rattle.std.proofs.Common.{◌≡◌, ℕ, Bool, true, false, List, [], ◌∷◌, ◌++◌, length, take, drop, refl, sym, ap, ◌+◌, ◌∙◌, inl, inr, length-take, arith}
use Rattle.std.proofs.lemmas.Bool.Decides.{nat_tests}
use Rattle.std.proofs.lemmas.List.{take-append-drop}
use Rattle.quic_base.specs.ConnectionId.{long_id}
use Rattle.quic_header_decode.specs.Grammar.{HeaderField, HeaderValue, Bytes, Version, DestinationId, SourceId, Supported, TokenLength, Token, Length, ShortId, header_row_of}
use Rattle.quic_header_decode.specs.Reading.{DecodeOptions}
use Rattle.quic_header_decode.specs.Refusal.{Refusal}
use Rattle.quic_header_decode.proofs.Steps.{bool_cases}
use Rattle.quic_base.specs.Number.{num}
use Rattle.quic_fields.specs.declared.field.Span.{Span}
use Rattle.quic_header_decode.specs.declared.protected.ProtectedHeader.{ProtectedHeader}
use Rattle.quic_header_fields.specs.Inside.{StopsInId, StopsInside, inside, inside_id, stop_at, stop_in_header}
use Rattle.quic_header_fields.specs.Spans.{is_known, AreFieldsAt, IsHeaderAt, StopsAt}
use Rattle.quic_header_fields.proofs.FieldsIn.{in_again}
use Rattle.quic_header_fields.proofs.Walks.{fields_any}

-- no front of the bytes is an id of at most that many bytes, if it is limited
abbrev NoId : Bool → List ℕ → Type 0
NoId known bytes =
    (id rest : List ℕ) → bytes ≡ long_id id ++ rest → (known ≡ true → length id ≤ 20) → ⊥

-- If n bytes are there, the id is.
fewer : (known : Bool) (n : ℕ) (bytes : List ℕ) → NoId known (n ∷ bytes) → (known ≡ true → n ≤ 20) → length bytes < n
fewer known n bytes none few = elim (bool_cases (nat_lt (length bytes) n)) [
  | inl short ↦ (let less : length bytes < n = grind (arith, nat_tests, short) in less)
  | inr enough ↦
      let room : n ≤ length bytes = grind (arith, nat_tests, enough) in
      let id : List ℕ = take n bytes in
      let width : length id ≡ n = omega (arith, length-take n bytes, room) in
      let split : n ∷ bytes ≡ long_id id ++ drop n bytes =
      ap (λ (xs : List ℕ). n ∷ xs) (sym (take-append-drop n bytes))
      ∙ ap (λ (m : ℕ). m ∷ (id ++ drop n bytes)) (sym width) in
      absurd (none id (drop n bytes) split (λ e. omega (arith, width, few e)))
]

id_stops : (known : Bool) (bytes : List ℕ) → NoId known bytes → StopsInId known bytes (inside_id known bytes)
id_stops known [] none = refl
id_stops false (n ∷ bytes) none =
    let any : false ≡ true → n ≤ 20 = λ e. cc in
    inr (any, fewer false n bytes none any, refl)
id_stops true (n ∷ bytes) none = elim (bool_cases (nat_lt 20 n)) [
  | inl long ↦ rw (long) (inl (refl, (let more : 20 < n = grind (arith, nat_tests, long) in more), refl))
  | inr short ↦
      let few : n ≤ 20 = grind (arith, nat_tests, short) in
      rw (short) (inr ((λ e. few), fewer true n bytes none (λ e. few), refl))
]

pub stops_inside : (known : Bool) (options : DecodeOptions) (field : HeaderField) (before : List HeaderValue)
    (bytes : List ℕ) (e : Refusal) → StopsAt known options field before bytes e
    → StopsInside known field bytes (inside known field bytes)
stops_inside true options DestinationId before bytes e s =
    id_stops true bytes (λ id rest split few. s.none (Bytes id ∷ []) (long_id id) rest split (id, refl, few refl, refl))
stops_inside false options DestinationId before bytes e s =
    id_stops false bytes (λ id rest split few. s.none (Bytes id ∷ []) (long_id id) rest split (id, refl, refl))
stops_inside true options SourceId before bytes e s =
    id_stops true bytes (λ id rest split few. s.none (Bytes id ∷ []) (long_id id) rest split (id, refl, few refl, refl))
stops_inside false options SourceId before bytes e s =
    id_stops false bytes (λ id rest split few. s.none (Bytes id ∷ []) (long_id id) rest split (id, refl, refl))
stops_inside known options Version before bytes e s = refl
stops_inside known options (Supported version) before bytes e s = refl
stops_inside known options TokenLength before bytes e s = refl
stops_inside known options Token before bytes e s = refl
stops_inside known options Length before bytes e s = refl
stops_inside known options ShortId before bytes e s = refl

-- ---- if all fields are there, it doesn't stop

never_stops : (known : Bool) (options : DecodeOptions) (index start : ℕ) (fields : List HeaderField)
    (before : List HeaderValue) (spans : List Span) (after : List HeaderValue) (bytes rest : List ℕ)
    → AreFieldsAt known options index start fields before spans after bytes rest
    → stop_at known options fields before bytes ≡ (0, 0)
never_stops known options index start [] before spans after bytes rest s = refl
never_stops known options index start (field ∷ fields) before spans after bytes rest s =
    let one = in_again known options field before s.0 s.1 s.2 s.5 in
    let two =
    never_stops known options (index + 1) (start + length s.1) fields (before ++ s.0) s.3 after s.2 rest s.7 in
    rw (s.4, one) two

pub whole_header : (options : DecodeOptions) (whole : ℕ) (bytes : List ℕ) (h : ProtectedHeader) (spans : List Span)
    (rest : List ℕ) → IsHeaderAt options whole bytes h spans rest → stop_in_header options bytes ≡ (0, 0)
whole_header options whole bytes h spans rest (first, text, values, others, split, all, fields, is) =
    let known = is_known options (num (take 4 text)) in
    let row = header_row_of first (num (take 4 text)) in
    rw (split) (never_stops known options 1 1 row [] others values text rest
    (fields_any known options 1 1 row [] others values text rest fields))
