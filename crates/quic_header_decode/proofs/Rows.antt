-- Rows of fields as they are read, one field after another.
use Rattle.std.specs.Prelude.{◌≡◌, ℕ, ◌+◌, ◌<◌, ◌≤◌, ◌⊎◌, Bool, true, false, List, [], ◌∷◌, ◌++◌, length, take, drop, Result, Ok, Err, Contains, nat_eq, nat_lt, not, codes, slice_index_or, ◌||◌}
use Rattle.std.proofs.Common.{sym, ap, ◌∙◌, arith, refl, cond, zero, suc, inl, inr, length-append}
use Rattle.std.specs.List.{list_any}
use Rattle.std.specs.Option.{ok_or}
use Rattle.std.proofs.lemmas.List.{take-append-drop, length-take}
use Rattle.std.proofs.lemmas.Bool.Decides.{nat_tests}
use Rattle.quic_base.specs.Number.{AreBytes, bytes_of}
use Rattle.quic_base.specs.Reading.{◌>>=◌, number_at}
use Rattle.quic_base.specs.ConnectionId.{long_id}
use Rattle.quic_base.proofs.PublicLaws as law
use Rattle.quic_header_decode.specs.Refusal.{Refusal, Invalid}
use Rattle.quic_header_decode.specs.Reading.{word_at, long_id_at}
use Rattle.quic_header_encode.specs.Types.{long_type}
use Rattle.quic_header_decode.specs.Fields.{Taken, number_next, id_next, field_at}
use Rattle.quic_header_decode.specs.Grammar.{typed_row, HeaderField, Version, DestinationId, SourceId, Supported, TokenLength, Token, Length, ShortId, HeaderValue, Number, Bytes, token_length_of, IsHeaderField, refusal_at, IsRefusal, BeginsWithField, StopsAtField, AreHeaderFields, StopsWithinRow}
use Rattle.quic_header_decode.specs.Reading.{DecodeOptions, TakesWithin, at_end, bad_id}
use Rattle.quic_header_decode.proofs.Steps.{bind_ok, bind_err, option_ok, chosen, then_ok, then_err, otherwise, some_of, drop_front, step, err_same, ok_err, err_ok, ok_pair}
use Rattle.quic_header_decode.proofs.FieldLaws.{back_fits, word_of, word_found, id_again, id_found, var_again, var_found}

-- ---- versions that are known

pub or_right : (a b : Bool) → b ≡ true → (a || b) ≡ true
or_right true b e = refl
or_right false b e = e

or_left : (a b : Bool) → a ≡ true → (a || b) ≡ true
or_left true b e = refl
or_left false b e = absurd cc

or_true : (a b : Bool) → (a || b) ≡ true → (a ≡ true) ⊎ (b ≡ true)
or_true true b e = inl refl
or_true false b e = inr e

not_false : (b : Bool) → not b ≡ false → b ≡ true
not_false true e = refl
not_false false e = sym e

any_again : (versions : List ℕ) (version k : ℕ) → k < length versions → slice_index_or versions k version ≡ version
    → list_any (λ known. nat_eq known version) versions ≡ true
any_again [] version k lt e = absurd (omega arith)
any_again (v ∷ versions) version zero lt e =
    or_left (nat_eq v version) (list_any (λ known. nat_eq known version) versions) (grind (arith, nat_tests))
any_again (v ∷ versions) version (suc k) lt e =
    or_right (nat_eq v version) (list_any (λ known. nat_eq known version) versions) (any_again versions version k (omega arith) e)

pub known_again : (versions : List ℕ) (version : ℕ) → Contains versions version
    → not (list_any (λ known. nat_eq known version) versions) ≡ false
known_again versions version h = ap not (any_again versions version h.0 h.1 h.2)

pub known_at : (versions : List ℕ) (version : ℕ) → list_any (λ known. nat_eq known version) versions ≡ true
    → Contains versions version
known_at [] version e = absurd cc
known_at (v ∷ versions) version e =
    elim (or_true (nat_eq v version) (list_any (λ known. nat_eq known version) versions) e) [
      | inl here ↦ (0, omega arith, (let same : v ≡ version = grind (arith, nat_tests) in same))
      | inr later ↦ (let found = known_at versions version later in (suc found.0, omega (arith, found.1), found.2))
    ]

known_found : (versions : List ℕ) (version : ℕ) → not (list_any (λ known. nat_eq known version) versions) ≡ false
    → Contains versions version
known_found versions version e =
    known_at versions version (not_false (list_any (λ known. nat_eq known version) versions) e)

-- ---- a field

same_ok : (a c : List HeaderValue) (b d : List ℕ) → a ≡ c → b ≡ d
    → (let r : Result Taken Refusal = Ok (a, b) in r) ≡ Ok (c, d)
same_ok a c b d e f =
    ap (λ (x : List HeaderValue). let r : Result Taken Refusal = Ok (x, b) in r) e
    ∙ ap (λ (y : List ℕ). let r : Result Taken Refusal = Ok (c, y) in r) f

-- a field that comes first is read

id_next_again : (values : List HeaderValue) (front rest id : List ℕ) → values ≡ Bytes id ∷ [] → length id ≤ 20
    → front ≡ length id ∷ id → id_next (front ++ rest) ≡ Ok (values, rest)
id_next_again values front rest id is short text =
    then_ok _ _ (id, rest) _ (some_of _ bad_id _ (ap (λ (xs : List ℕ). long_id_at (xs ++ rest)) text
    ∙ id_again id rest short)) (same_ok _ values rest rest (sym is) refl)

pub field_again : (options : DecodeOptions) (field : HeaderField) (before values : List HeaderValue) (front rest : List ℕ)
    → IsHeaderField options field before values front rest
    → field_at options field before (front ++ rest) ≡ Ok (values, rest)
field_again options Version before values front rest d =
    then_ok _ _ (d.0, rest) _ (some_of _ at_end _ (word_of front rest d.0 d.2.width d.2.value)) (same_ok _ values rest rest (sym d.1) refl)
field_again options DestinationId before values front rest d = id_next_again values front rest d.0 d.1 d.2 d.3
field_again options SourceId before values front rest d = id_next_again values front rest d.0 d.1 d.2 d.3
field_again options (Supported version) before values front rest d =
    otherwise _ _ _ _ (known_again options.versions version d.2)
    (same_ok [] values (front ++ rest) rest (sym d.0) (ap (λ (xs : List ℕ). xs ++ rest) d.1))
field_again options TokenLength before values front rest d =
    then_ok _ _ (d.0, rest) _ (some_of _ at_end _ (var_again d.0 front rest d.2)) (same_ok _ values rest rest (sym d.1) refl)
field_again options Token before values front rest d =
    let count : ℕ = token_length_of before in
    let long : length (front ++ rest) ≡ length front + length rest = length-append front rest in
    let width : length front ≡ count = d.1 in
    let test : nat_lt (length (front ++ rest)) count ≡ false = grind (arith, nat_tests) in
    let left : drop count (front ++ rest) ≡ rest = drop_front front rest count width in
    otherwise _ _ _ _ test (same_ok _ values _ rest (ap (λ (xs : List ℕ). Number (length xs) ∷ []) left ∙ sym d.0) left)
field_again options Length before values front rest d =
    then_ok _ _ (d.0, rest) _ (some_of _ at_end _ (var_again d.0 front rest d.2)) (same_ok _ values rest rest (sym d.1) refl)
field_again options ShortId before values front rest d =
    then_ok _ _ (d.0, length front) _ d.2 (same_ok _ values _ rest (sym d.1) (drop_front front rest (length front) refl))

-- and a field that is read comes first

pub field_found : (options : DecodeOptions) (field : HeaderField) (before values : List HeaderValue) (bytes rest : List ℕ)
    → AreBytes bytes → (field ≡ ShortId → TakesWithin options)
    → field_at options field before bytes ≡ Ok (values, rest) → BeginsWithField options field before values bytes rest
field_found options Version before values bytes rest fits takes e =
    let s = bind_ok (ok_or (word_at bytes) at_end) _ (values, rest) e in
    let parts = ok_pair s.2 in
    let w = word_found bytes s.0.0 s.0.1 fits (option_ok (word_at bytes) at_end s.0 s.1) in
    (bytes_of 4 s.0.0, w.0 ∙ ap (λ (xs : List ℕ). bytes_of 4 s.0.0 ++ xs) parts.1, (s.0.0, sym parts.0, law.is_number_4 s.0.0 w.1))
field_found options DestinationId before values bytes rest fits takes e =
    let s = bind_ok (ok_or (long_id_at bytes) bad_id) _ (values, rest) e in
    let parts = ok_pair s.2 in
    let d = id_found bytes s.0.0 s.0.1 (option_ok (long_id_at bytes) bad_id s.0 s.1) in
    (long_id s.0.0, d.1 ∙ ap (λ (xs : List ℕ). long_id s.0.0 ++ xs) parts.1, (s.0.0, sym parts.0, d.0, refl))
field_found options SourceId before values bytes rest fits takes e =
    let s = bind_ok (ok_or (long_id_at bytes) bad_id) _ (values, rest) e in
    let parts = ok_pair s.2 in
    let d = id_found bytes s.0.0 s.0.1 (option_ok (long_id_at bytes) bad_id s.0 s.1) in
    (long_id s.0.0, d.1 ∙ ap (λ (xs : List ℕ). long_id s.0.0 ++ xs) parts.1, (s.0.0, sym parts.0, d.0, refl))
field_found options (Supported version) before values bytes rest fits takes e =
    elim (chosen (not (list_any (λ known. nat_eq known version) options.versions)) _ _ (Ok (values, rest)) e) [
      | inl bad ↦ absurd (err_ok (refusal_at (Supported version) before) (values, rest) bad.1)
      | inr good ↦ (let parts = ok_pair good.1 in ([], parts.1, (sym parts.0, refl, known_found options.versions version good.0)))
    ]
field_found options TokenLength before values bytes rest fits takes e =
    let s = bind_ok (ok_or (number_at bytes) at_end) _ (values, rest) e in
    let parts = ok_pair s.2 in
    let v = var_found bytes s.0.0 s.0.1 fits (option_ok (number_at bytes) at_end s.0 s.1) in
    (v.0, v.2 ∙ ap (λ (xs : List ℕ). v.0 ++ xs) parts.1, (s.0.0, sym parts.0, v.1))
field_found options Token before values bytes rest fits takes e =
    let count : ℕ = token_length_of before in
    elim (chosen (nat_lt (length bytes) count) _ _ (Ok (values, rest)) e) [
      | inl bad ↦ absurd (err_ok (Invalid (codes "token out of bounds")) (values, rest) bad.1)
      | inr good ↦
          let enough : count ≤ length bytes = grind (arith, nat_tests) in
          let parts = ok_pair good.1 in (
            take count bytes,
            sym (take-append-drop count bytes) ∙ ap (λ (xs : List ℕ). take count bytes ++ xs) parts.1,
            (sym parts.0 ∙ ap (λ (xs : List ℕ). Number (length xs) ∷ []) parts.1, omega (arith, length-take count bytes)),
          )
    ]
field_found options Length before values bytes rest fits takes e =
    let s = bind_ok (ok_or (number_at bytes) at_end) _ (values, rest) e in
    let parts = ok_pair s.2 in
    let v = var_found bytes s.0.0 s.0.1 fits (option_ok (number_at bytes) at_end s.0 s.1) in
    (v.0, v.2 ∙ ap (λ (xs : List ℕ). v.0 ++ xs) parts.1, (s.0.0, sym parts.0, v.1))
field_found options ShortId before values bytes rest fits takes e =
    let s = bind_ok (options.parsed bytes) _ (values, rest) e in
    let parts = ok_pair s.2 in
    let n : ℕ = s.0.1 in
    let front : List ℕ = take n bytes in
    let split : bytes ≡ front ++ rest = sym (take-append-drop n bytes) ∙ ap (λ (xs : List ℕ). front ++ xs) parts.1 in
    let width : n ≡ length front = omega (arith, length-take n bytes, takes refl bytes s.0.0 n s.1) in (
      front,
      split,
      (
        s.0.0,
        sym parts.0,
        ap options.parsed (sym split) ∙ s.1
            ∙ ap (λ (k : ℕ). let r : Result (List ℕ × ℕ) Refusal = Ok (s.0.0, k) in r) width,
      ),
    )

-- a field that can't be read has this error
pub field_reported : (options : DecodeOptions) (field : HeaderField) (before : List HeaderValue) (bytes : List ℕ) (e : Refusal)
    → field_at options field before bytes ≡ Err e → IsRefusal options field before bytes e
field_reported options Version before bytes e h = elim (step (word_at bytes) at_end _ e h) [
  | inl bad ↦ sym bad.1
  | inr good ↦ absurd (ok_err _ e good.2)
]
field_reported options DestinationId before bytes e h = elim (step (long_id_at bytes) bad_id _ e h) [
  | inl bad ↦ sym bad.1
  | inr good ↦ absurd (ok_err _ e good.2)
]
field_reported options SourceId before bytes e h = elim (step (long_id_at bytes) bad_id _ e h) [
  | inl bad ↦ sym bad.1
  | inr good ↦ absurd (ok_err _ e good.2)
]
field_reported options (Supported version) before bytes e h =
    elim (chosen (not (list_any (λ known. nat_eq known version) options.versions)) _ _ (Err e) h) [
      | inl bad ↦ sym (err_same _ e bad.1)
      | inr good ↦ absurd (ok_err _ e good.1)
    ]
field_reported options TokenLength before bytes e h = elim (step (number_at bytes) at_end _ e h) [
  | inl bad ↦ sym bad.1
  | inr good ↦ absurd (ok_err _ e good.2)
]
field_reported options Token before bytes e h =
    elim (chosen (nat_lt (length bytes) (token_length_of before)) _ _ (Err e) h) [
      | inl bad ↦ sym (err_same _ e bad.1)
      | inr good ↦ absurd (ok_err _ e good.1)
    ]
field_reported options Length before bytes e h = elim (step (number_at bytes) at_end _ e h) [
  | inl bad ↦ sym bad.1
  | inr good ↦ absurd (ok_err _ e good.2)
]
field_reported options ShortId before bytes e h = elim (bind_err (options.parsed bytes) _ e h) [
  | inl bad ↦ bad
  | inr good ↦ absurd (ok_err _ e good.2)
]

pub field_stops : (options : DecodeOptions) (field : HeaderField) (before : List HeaderValue) (bytes : List ℕ) (e : Refusal)
    → field_at options field before bytes ≡ Err e → StopsAtField options field before bytes e
field_stops options field before bytes e h = record {
  none = λ values rest (front, split, is). err_ok e (values, rest)
      (sym h ∙ ap (field_at options field before) split ∙ field_again options field before values front rest is);
  why = field_reported options field before bytes e h;
}

-- what follows the ids
abbrev pub row_behind_ids : ℕ → ℕ → List HeaderField
row_behind_ids first version = cond (nat_eq version 0) [] (Supported version ∷ typed_row (long_type version first))

-- if there is no such field, none is read
none_of_other : (options : DecodeOptions) (field : HeaderField) (before : List HeaderValue) (bytes : List ℕ) (e : Refusal)
    → AreBytes bytes → (field ≡ ShortId → TakesWithin options)
    → StopsAtField options field before bytes e → ((d : Refusal) → IsRefusal options field before bytes d → d ≡ e)
    → (read : Result Taken Refusal) → field_at options field before bytes ≡ read → read ≡ Err e
none_of_other options field before bytes e fits takes stops same (Ok x) h =
    absurd (stops.none x.0 x.1 (field_found options field before x.0 bytes x.1 fits takes h))
none_of_other options field before bytes e fits takes stops same (Err d) h =
    ap (λ (r : Refusal). let q : Result Taken Refusal = Err r in q) (same d (field_reported options field before bytes d h))

pub field_refused : (options : DecodeOptions) (field : HeaderField) (before : List HeaderValue) (bytes : List ℕ) (e : Refusal)
    → AreBytes bytes
    → StopsAtField options field before bytes e → field_at options field before bytes ≡ Err e
field_refused options Version before bytes e fits stops =
    none_of_other options Version before bytes e fits (λ s. absurd cc) stops (λ d w. w ∙ sym stops.why) _ refl
field_refused options DestinationId before bytes e fits stops =
    none_of_other options DestinationId before bytes e fits (λ s. absurd cc) stops (λ d w. w ∙ sym stops.why) _ refl
field_refused options SourceId before bytes e fits stops =
    none_of_other options SourceId before bytes e fits (λ s. absurd cc) stops (λ d w. w ∙ sym stops.why) _ refl
field_refused options (Supported version) before bytes e fits stops =
    none_of_other options (Supported version) before bytes e fits (λ s. absurd cc) stops (λ d w. w ∙ sym stops.why) _ refl
field_refused options TokenLength before bytes e fits stops =
    none_of_other options TokenLength before bytes e fits (λ s. absurd cc) stops (λ d w. w ∙ sym stops.why) _ refl
field_refused options Token before bytes e fits stops =
    none_of_other options Token before bytes e fits (λ s. absurd cc) stops (λ d w. w ∙ sym stops.why) _ refl
field_refused options Length before bytes e fits stops =
    none_of_other options Length before bytes e fits (λ s. absurd cc) stops (λ d w. w ∙ sym stops.why) _ refl
field_refused options ShortId before bytes e fits stops = then_err _ _ e stops.why

-- ---- a row

-- its values and what is left go to finish
abbrev pub row_at : {B : Type 0} → DecodeOptions → List HeaderField → List HeaderValue → List ℕ
    → (List HeaderValue → List ℕ → Result B Refusal) → Result B Refusal
row_at options [] before bytes finish = finish before bytes
row_at options (field ∷ fields) before bytes finish =
    field_at options field before bytes >>= λ x. row_at options fields (before ++ x.0) x.1 finish

pub row_again : {B : Type 0} (options : DecodeOptions) (fields : List HeaderField) (before after : List HeaderValue)
    (bytes rest : List ℕ) (finish : List HeaderValue → List ℕ → Result B Refusal)
    → AreHeaderFields options fields before after bytes rest
    → row_at options fields before bytes finish ≡ finish after rest
row_again options [] before after bytes rest finish d =
    ap (finish before) d.1 ∙ ap (λ (xs : List HeaderValue). finish xs rest) (sym d.0)
row_again options (field ∷ fields) before after bytes rest finish (values, left, (front, split, is), others) =
    ap (λ (xs : List ℕ). row_at options (field ∷ fields) before xs finish) split
    ∙ then_ok _ _ (values, left) _ (field_again options field before values front left is)
    (row_again options fields (before ++ values) after left rest finish others)

pub row_found : {B : Type 0} (options : DecodeOptions) (fields : List HeaderField) (before : List HeaderValue)
    (bytes : List ℕ) (finish : List HeaderValue → List ℕ → Result B Refusal) (y : B)
    → AreBytes bytes → TakesWithin options → row_at options fields before bytes finish ≡ Ok y
    → (after : List HeaderValue) × (rest : List ℕ) × AreHeaderFields options fields before after bytes rest × (finish after rest ≡ Ok y)
row_found options [] before bytes finish y fits takes e = (before, bytes, (refl, refl), e)
row_found options (field ∷ fields) before bytes finish y fits takes e =
    let s = bind_ok (field_at options field before bytes) _ y e in
    let here = field_found options field before s.0.0 bytes s.0.1 fits (λ f. takes) s.1 in
    let later =
    row_found options fields (before ++ s.0.0) s.0.1 finish y (back_fits bytes here.0 s.0.1 fits here.1) takes s.2 in
    (later.0, later.1, (s.0.0, s.0.1, here, later.2), later.3)

pub row_refused : {B : Type 0} (options : DecodeOptions) (fields : List HeaderField) (before : List HeaderValue)
    (bytes : List ℕ) (finish : List HeaderValue → List ℕ → Result B Refusal) (e : Refusal)
    → AreBytes bytes → TakesWithin options
    → ((after : List HeaderValue) (rest : List ℕ) → finish after rest ≡ Err e → ⊥)
    → row_at options fields before bytes finish ≡ Err e → StopsWithinRow options fields before bytes e
row_refused options [] before bytes finish e fits takes ends h = ends before bytes h
row_refused options (field ∷ fields) before bytes finish e fits takes ends h =
    elim (bind_err (field_at options field before bytes) _ e h) [
      | inl bad ↦ inl (field_stops options field before bytes e bad)
      | inr good ↦
          let here = field_found options field before good.0.0 bytes good.0.1 fits (λ f. takes) good.1 in
          inr (
            good.0.0,
            good.0.1,
            here,
            row_refused options fields (before ++ good.0.0) good.0.1 finish e
                (back_fits bytes here.0 good.0.1 fits here.1) takes ends good.2,
          )
    ]

pub row_stops : {B : Type 0} (options : DecodeOptions) (fields : List HeaderField) (before : List HeaderValue)
    (bytes : List ℕ) (finish : List HeaderValue → List ℕ → Result B Refusal) (e : Refusal)
    → AreBytes bytes → StopsWithinRow options fields before bytes e → row_at options fields before bytes finish ≡ Err e
row_stops options [] before bytes finish e fits stops = absurd stops
row_stops options (field ∷ fields) before bytes finish e fits (inl stops) =
    then_err _ _ e (field_refused options field before bytes e fits stops)
row_stops options (field ∷ fields) before bytes finish e fits (inr (values, left, (front, split, is), others)) =
    ap (λ (xs : List ℕ). row_at options (field ∷ fields) before xs finish) split
    ∙ then_ok _ _ (values, left) _ (field_again options field before values front left is)
    (row_stops options fields (before ++ values) left finish e (back_fits bytes front left fits split) others)

-- a row consumes a front
pub row_room : (options : DecodeOptions) (fields : List HeaderField) (before after : List HeaderValue) (bytes rest : List ℕ)
    → AreHeaderFields options fields before after bytes rest → length rest ≤ length bytes
row_room options [] before after bytes rest d = omega (arith, ap length d.1)
row_room options (field ∷ fields) before after bytes rest (values, left, (front, split, is), others) =
    omega (arith, ap length split, length-append front left, row_room options fields (before ++ values) after left rest others)
