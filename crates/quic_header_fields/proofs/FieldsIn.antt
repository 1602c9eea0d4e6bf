-- A field of a known version, or of another one: it is read exactly when it is there.
use Rattle.std.proofs.Common.{◌≡◌, ℕ, Bool, true, false, List, [], ◌∷◌, ◌++◌, Ok, Err, Result, refl, sym, ap, ◌∙◌, inl, inr}
use Rattle.std.specs.Option.{ok_or}
use Rattle.quic_base.specs.ConnectionId.{long_id}
use Rattle.quic_base.specs.Number.{AreBytes}
use Rattle.quic_header_decode.specs.Grammar.{HeaderField, HeaderValue, Bytes, Version, DestinationId, SourceId, Supported, TokenLength, Token, Length, ShortId, IsHeaderField, IsRefusal}
use Rattle.quic_header_decode.specs.Reading.{DecodeOptions, TakesWithin, bad_id, wide_id_at}
use Rattle.quic_header_decode.specs.Refusal.{Refusal}
use Rattle.quic_header_decode.specs.Fields.{Taken}
use Rattle.quic_header_decode.proofs.Rows.{field_again, field_found, field_reported}
use Rattle.quic_header_decode.proofs.Steps.{bind_ok, option_ok, then_ok, some_of, err_ok, ok_err, ok_pair, step}
use Rattle.quic_header_decode.proofs.Wide.{wide_found, wide_again}
use Rattle.quic_header_fields.specs.Spans.{IsFieldIn, StopsAt}
use Rattle.quic_header_fields.specs.Walk.{field_in, any_id_next}

-- ---- a field that comes first is read

same_ok : (a c : List HeaderValue) (b : List ℕ) → a ≡ c → (let r : Result Taken Refusal = Ok (a, b) in r) ≡ Ok (c, b)
same_ok a c b e = ap (λ (x : List HeaderValue). let r : Result Taken Refusal = Ok (x, b) in r) e

any_id_again : (values : List HeaderValue) (front rest id : List ℕ) → values ≡ Bytes id ∷ [] → front ≡ long_id id
    → any_id_next (front ++ rest) ≡ Ok (values, rest)
any_id_again values front rest id is text =
    then_ok _ _ (id, rest) _ (some_of _ bad_id _ (ap (λ (xs : List ℕ). wide_id_at (xs ++ rest)) text ∙ wide_again id rest))
    (same_ok (Bytes id ∷ []) values rest (sym is))

pub in_again : (known : Bool) (options : DecodeOptions) (field : HeaderField) (before values : List HeaderValue)
    (front rest : List ℕ) → IsFieldIn known options field before values front rest
    → field_in known options field before (front ++ rest) ≡ Ok (values, rest)
in_again true options field before values front rest d = field_again options field before values front rest d
in_again false options Version before values front rest d = field_again options Version before values front rest d
in_again false options DestinationId before values front rest d = any_id_again values front rest d.0 d.1 d.2
in_again false options SourceId before values front rest d = any_id_again values front rest d.0 d.1 d.2
in_again false options (Supported version) before values front rest d =
    field_again options (Supported version) before values front rest d
in_again false options TokenLength before values front rest d =
    field_again options TokenLength before values front rest d
in_again false options Token before values front rest d = field_again options Token before values front rest d
in_again false options Length before values front rest d = field_again options Length before values front rest d
in_again false options ShortId before values front rest d = field_again options ShortId before values front rest d

-- a field of a known version is one of any version
pub in_any : (known : Bool) (options : DecodeOptions) (field : HeaderField) (before values : List HeaderValue)
    (front rest : List ℕ) → IsHeaderField options field before values front rest
    → IsFieldIn known options field before values front rest
in_any true options field before values front rest d = d
in_any false options Version before values front rest d = d
in_any false options DestinationId before values front rest d = (d.0, d.1, d.3)
in_any false options SourceId before values front rest d = (d.0, d.1, d.3)
in_any false options (Supported version) before values front rest d = d
in_any false options TokenLength before values front rest d = d
in_any false options Token before values front rest d = d
in_any false options Length before values front rest d = d
in_any false options ShortId before values front rest d = d

-- ---- a field that is read comes first

-- the bytes are such a field, and then rest
pub record Begins (known : Bool) (options : DecodeOptions) (field : HeaderField) (before values : List HeaderValue)
    (bytes rest : List ℕ) : Type 0 where
  pub front : List ℕ
  pub split : bytes ≡ front ++ rest
  pub is : IsFieldIn known options field before values front rest

any_id_found : (values : List HeaderValue) (bytes rest : List ℕ) → any_id_next bytes ≡ Ok (values, rest)
    → (id : List ℕ) × (values ≡ Bytes id ∷ []) × (bytes ≡ long_id id ++ rest)
any_id_found values bytes rest e =
    let s = bind_ok (ok_or (wide_id_at bytes) bad_id) _ (values, rest) e in
    let parts = ok_pair s.2 in
    let d = wide_found bytes s.0.0 s.0.1 (option_ok (wide_id_at bytes) bad_id s.0 s.1) in
    (s.0.0, sym parts.0, d ∙ ap (λ (xs : List ℕ). long_id s.0.0 ++ xs) parts.1)

pub in_found : (known : Bool) (options : DecodeOptions) (field : HeaderField) (before values : List HeaderValue)
    (bytes rest : List ℕ) → AreBytes bytes → TakesWithin options
    → field_in known options field before bytes ≡ Ok (values, rest)
    → Begins known options field before values bytes rest
in_found true options field before values bytes rest fits takes e =
    let d = field_found options field before values bytes rest fits (λ s. takes) e in
    record { front = d.0; split = d.1; is = d.2 }
in_found false options Version before values bytes rest fits takes e =
    let d = field_found options Version before values bytes rest fits (λ s. takes) e in
    record { front = d.0; split = d.1; is = d.2 }
in_found false options DestinationId before values bytes rest fits takes e =
    let d = any_id_found values bytes rest e in
    record { front = long_id d.0; split = d.2; is = (d.0, d.1, refl) }
in_found false options SourceId before values bytes rest fits takes e =
    let d = any_id_found values bytes rest e in
    record { front = long_id d.0; split = d.2; is = (d.0, d.1, refl) }
in_found false options (Supported version) before values bytes rest fits takes e =
    let d = field_found options (Supported version) before values bytes rest fits (λ s. takes) e in
    record { front = d.0; split = d.1; is = d.2 }
in_found false options TokenLength before values bytes rest fits takes e =
    let d = field_found options TokenLength before values bytes rest fits (λ s. takes) e in
    record { front = d.0; split = d.1; is = d.2 }
in_found false options Token before values bytes rest fits takes e =
    let d = field_found options Token before values bytes rest fits (λ s. takes) e in
    record { front = d.0; split = d.1; is = d.2 }
in_found false options Length before values bytes rest fits takes e =
    let d = field_found options Length before values bytes rest fits (λ s. takes) e in
    record { front = d.0; split = d.1; is = d.2 }
in_found false options ShortId before values bytes rest fits takes e =
    let d = field_found options ShortId before values bytes rest fits (λ s. takes) e in
    record { front = d.0; split = d.1; is = d.2 }

-- ---- a field that can't be read

any_id_reported : (bytes : List ℕ) (e : Refusal) → any_id_next bytes ≡ Err e → e ≡ bad_id
any_id_reported bytes e h = elim (step (wide_id_at bytes) bad_id _ e h) [
  | inl bad ↦ sym bad.1
  | inr good ↦ absurd (ok_err _ e good.2)
]

in_reported : (known : Bool) (options : DecodeOptions) (field : HeaderField) (before : List HeaderValue) (bytes : List ℕ)
    (e : Refusal) → field_in known options field before bytes ≡ Err e → IsRefusal options field before bytes e
in_reported true options field before bytes e h = field_reported options field before bytes e h
in_reported false options Version before bytes e h = field_reported options Version before bytes e h
in_reported false options DestinationId before bytes e h = any_id_reported bytes e h
in_reported false options SourceId before bytes e h = any_id_reported bytes e h
in_reported false options (Supported version) before bytes e h =
    field_reported options (Supported version) before bytes e h
in_reported false options TokenLength before bytes e h = field_reported options TokenLength before bytes e h
in_reported false options Token before bytes e h = field_reported options Token before bytes e h
in_reported false options Length before bytes e h = field_reported options Length before bytes e h
in_reported false options ShortId before bytes e h = field_reported options ShortId before bytes e h

pub in_stops : (known : Bool) (options : DecodeOptions) (field : HeaderField) (before : List HeaderValue) (bytes : List ℕ)
    (e : Refusal) → field_in known options field before bytes ≡ Err e → StopsAt known options field before bytes e
in_stops known options field before bytes e h = record {
  none = λ values front rest split is. err_ok e (values, rest)
      (sym h ∙ ap (field_in known options field before) split ∙ in_again known options field before values front rest is);
  why = in_reported known options field before bytes e h;
}

one_refusal : (options : DecodeOptions) (field : HeaderField) (before : List HeaderValue) (bytes : List ℕ) (d e : Refusal)
    → IsRefusal options field before bytes d → IsRefusal options field before bytes e → d ≡ e
one_refusal options Version before bytes d e a b = a ∙ sym b
one_refusal options DestinationId before bytes d e a b = a ∙ sym b
one_refusal options SourceId before bytes d e a b = a ∙ sym b
one_refusal options (Supported version) before bytes d e a b = a ∙ sym b
one_refusal options TokenLength before bytes d e a b = a ∙ sym b
one_refusal options Token before bytes d e a b = a ∙ sym b
one_refusal options Length before bytes d e a b = a ∙ sym b
one_refusal options ShortId before bytes d e a b =
    let same : (let r : Result (List ℕ × ℕ) Refusal = Err d in r) ≡ Err e = sym a ∙ b in cc

refused_with : (known : Bool) (options : DecodeOptions) (field : HeaderField) (before : List HeaderValue) (bytes : List ℕ)
    (e : Refusal) (r : Result Taken Refusal) → AreBytes bytes → TakesWithin options
    → StopsAt known options field before bytes e → field_in known options field before bytes ≡ r → r ≡ Err e
refused_with known options field before bytes e (Ok x) fits takes stops h =
    let d = in_found known options field before x.0 bytes x.1 fits takes h in
    absurd (stops.none x.0 d.front x.1 d.split d.is)
refused_with known options field before bytes e (Err d) fits takes stops h =
    ap (λ (r : Refusal). let q : Result Taken Refusal = Err r in q)
    (one_refusal options field before bytes d e (in_reported known options field before bytes d h) stops.why)

pub in_refused : (known : Bool) (options : DecodeOptions) (field : HeaderField) (before : List HeaderValue) (bytes : List ℕ)
    (e : Refusal) → AreBytes bytes → TakesWithin options → StopsAt known options field before bytes e
    → field_in known options field before bytes ≡ Err e
in_refused known options field before bytes e fits takes stops =
    refused_with known options field before bytes e (field_in known options field before bytes) fits takes stops refl
