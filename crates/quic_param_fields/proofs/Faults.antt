-- Values of the parameter's definition have spans, and faults are its errors.
use Rattle.std.specs.Prelude.{◌⊎◌}
use Rattle.std.proofs.Common.{◌≡◌, ◌≢◌, ℕ, ◌+◌, ◌≤◌, ◌<◌, ◌^◌, Bool, true, false, List, [], ◌∷◌, ◌++◌, length, Some, None, refl, sym, ap, subst, ◌∙◌, append-nil, length-append, arith, inl, inr}
use Rattle.quic_base.specs.Varint.{Encodes, shortest_varint}
use Rattle.quic_base.proofs.PublicLaws.{encodes_unique, shortest_encodes}
use Rattle.quic_fields.specs.declared.field.Span.{Span}
use Rattle.quic_params.specs.declared.error.Error.TheVariants.{IllegalValue, Malformed}
use Rattle.quic_params.specs.declared.parameter.TransportParameterId.{TransportParameterId}
use Rattle.quic_params.specs.declared.parameter.TransportParameterId.TheVariants as Id
use Rattle.quic_params.specs.declared.value.Value.{Value}
use Rattle.quic_params.specs.declared.value.Value.TheVariants as V
use Rattle.quic_params.specs.Options.{kind_in}
use Rattle.quic_params.specs.Table.{row_of}
use Rattle.quic_params.specs.Value.{IsEncoded, IsNoValue}
use Rattle.quic_params.proofs.Addresses.{fields_once, not_nowhere, address_whole, address_nowhere, no_address, long_address}
use Rattle.quic_params.proofs.Values.{part_number, no_integer, no_varint, no_flag, no_token, no_id}
use Rattle.quic_param_fields.specs.declared.row.Kind.{Kind}
use Rattle.quic_param_fields.specs.declared.row.Kind.TheVariants as K
use Rattle.quic_param_fields.specs.declared.row.Sort.{Sort}
use Rattle.quic_param_fields.specs.declared.row.Sort.TheVariants as S
use Rattle.quic_param_fields.specs.declared.field.Reason.{Reason}
use Rattle.quic_param_fields.specs.declared.field.Reason.TheVariants as R
use Rattle.quic_param_fields.specs.declared.field.Stop.{Stop}
use Rattle.quic_param_fields.specs.declared.field.Walked.{Walked}
use Rattle.quic_param_fields.specs.Rows.{sort_of, fields_of}
use Rattle.quic_param_fields.specs.Fields.{error_of, Stops, AreFieldsAt, StopsWithinAt, span, fault_at, stop, whole}
use Rattle.quic_param_fields.specs.Values.{IsAccepted, IsNowhere, WholeRule, IsValueAt, IsNoValueAt}
use Rattle.quic_param_fields.proofs.Accepted.{bounded}
use Rattle.quic_param_fields.proofs.Addresses.{address_of, fields_of_address}
use Rattle.quic_param_fields.proofs.Once.{fields_or_stop}
use Rattle.quic_param_fields.proofs.Values.{fixed, same_reason}

-- ---- numbers

-- what the definition of a number says: when bytes are none, and that only numbers are encoded
abbrev NumberFacts : Bool → TransportParameterId → Type 0
NumberFacts any_width id =
    ((b : List ℕ) → ((n : ℕ) → ¬ (Encodes n b)) → IsNoValue (kind_in any_width (row_of id).kind) b Malformed)
    × ((n : ℕ) (b : List ℕ) → Encodes n b → ¬ (IsEncoded (kind_in any_width (row_of id).kind) (V.Number n) b)
    → IsNoValue (kind_in any_width (row_of id).kind) b Malformed)
    × ((n : ℕ) (b : List ℕ) → IsEncoded (kind_in any_width (row_of id).kind) (V.Number n) b → Encodes n b)
    × ((value : Value) (b : List ℕ) → IsEncoded (kind_in any_width (row_of id).kind) value b
    → (n : ℕ) × (value ≡ V.Number n))

any_number : (value : Value) (b : List ℕ) → IsEncoded (row_of Id.MaxDatagramFrameSize).kind value b
    → (n : ℕ) × (value ≡ V.Number n)
any_number (V.Number n) b h = (n, refl)
any_number _ b h = absurd h

short_number : (value : Value) (b : List ℕ) → IsEncoded (row_of Id.MaxIdleTimeout).kind value b
    → (n : ℕ) × (value ≡ V.Number n)
short_number (V.Number n) b h = (n, refl)
short_number _ b h = absurd h

varint_facts : NumberFacts false Id.MaxDatagramFrameSize
varint_facts = (no_varint, (λ n b h no_value. absurd (no_value h)), (λ n b h. h), any_number)

integer_facts : NumberFacts false Id.MaxIdleTimeout
integer_facts = (
  λ b none. no_integer 0 b (λ n lt s. none n (subst (Encodes n) (sym s) (shortest_encodes n lt))),
  λ n b h long. no_integer 0 b (λ m lt s.
      let same = (encodes_unique m n b b [] [] refl (subst (Encodes m) (sym s) (shortest_encodes m lt)) h).0 in
      long (subst (λ (k : ℕ). k < 2 ^ 62) same lt, s ∙ ap shortest_varint same)),
  λ n b h. subst (Encodes n) (sym h.1) (shortest_encodes n h.0),
  short_number,
)

facts : (any_width : Bool) (id : TransportParameterId) → sort_of id ≡ S.Number → NumberFacts any_width id
facts any_width Id.ReservedTransportParameter e = absurd cc
facts any_width Id.StatelessResetToken e = absurd cc
facts any_width Id.DisableActiveMigration e = absurd cc
facts any_width Id.PreferredAddress e = absurd cc
facts any_width Id.OriginalDestinationConnectionId e = absurd cc
facts any_width Id.InitialSourceConnectionId e = absurd cc
facts any_width Id.RetrySourceConnectionId e = absurd cc
facts any_width Id.GreaseQuicBit e = absurd cc
facts false Id.MaxDatagramFrameSize e = varint_facts
facts false Id.MinAckDelayDraft07 e = varint_facts
facts true _ e = varint_facts
facts false _ e = integer_facts

-- ---- a value has spans

spans_of : (any_width : Bool) (id : TransportParameterId) (spans : List Span) (b : List ℕ)
    → AreFieldsAt 0 0 (fields_of (sort_of id)) spans b []
    → ¬ ((sort_of id ≡ S.Address) × IsNowhere b)
    → WholeRule any_width id (sort_of id) b (whole (length spans) (length b)) (whole (length spans) (length b))
    → (all : List Span) × IsValueAt any_width (Some id) all b
spans_of any_width id spans b fields somewhere rule =
    (spans, inr ([], length b, fields, omega arith, inr (somewhere, inr (refl, rule))))

-- one field of all bytes
one_field : (id : TransportParameterId) (sort : Sort) → sort_of id ≡ sort → (spans : List Span) (b : List ℕ)
    → AreFieldsAt 0 0 (fields_of sort) spans b [] → AreFieldsAt 0 0 (fields_of (sort_of id)) spans b []
one_field id sort e spans b h = subst (λ (s : Sort). AreFieldsAt 0 0 (fields_of s) spans b []) (sym e) h

number_spans : (any_width : Bool) (id : TransportParameterId) (value : Value) (b : List ℕ) → sort_of id ≡ S.Number
    → IsEncoded (kind_in any_width (row_of id).kind) value b → IsAccepted id value
    → (spans : List Span) × IsValueAt any_width (Some id) spans b
number_spans any_width id value b e h a =
    let f = facts any_width id e in
    let is = f.3 value b h in
    let encoded : IsEncoded (kind_in any_width (row_of id).kind) (V.Number is.0) b =
    subst (λ (v : Value). IsEncoded (kind_in any_width (row_of id).kind) v b) is.1 h in
    let encodes = f.2 is.0 b encoded in
    let spans : List Span = span 0 0 is.0 (length b) ∷ [] in
    spans_of any_width id spans b
    (one_field id S.Number e spans b (is.0, b, [], [], sym (append-nil b), encodes, refl, (refl, refl)))
    (λ h. let clash : S.Number ≡ S.Address = sym e ∙ h.0 in absurd cc)
    (subst (λ (s : Sort). WholeRule any_width id s b (whole 1 (length b)) (whole 1 (length b))) (sym e)
    (is.0, encodes, inr (encoded, inr (subst (IsAccepted id) is.1 a, refl))))

-- of a flag, a token or an id
plain_spans : (any_width : Bool) (id : TransportParameterId) (sort : Sort) (spans : List Span) (b : List ℕ)
    → sort_of id ≡ sort → AreFieldsAt 0 0 (fields_of sort) spans b [] → sort ≢ S.Address
    → WholeRule any_width id sort b (whole (length spans) (length b)) (whole (length spans) (length b))
    → (all : List Span) × IsValueAt any_width (Some id) all b
plain_spans any_width id sort spans b e fields other rule =
    spans_of any_width id spans b (one_field id sort e spans b fields) (λ h. other (sym e ∙ h.0))
    (subst (λ (s : Sort). WholeRule any_width id s b (whole (length spans) (length b)) (whole (length spans) (length b)))
    (sym e) rule)

flag_bytes : (id : TransportParameterId) (value : Value) (b : List ℕ) → sort_of id ≡ S.Flag
    → IsEncoded (row_of id).kind value b → b ≡ []
flag_bytes Id.DisableActiveMigration V.Flag b e h = h
flag_bytes Id.DisableActiveMigration _ b e h = absurd h
flag_bytes Id.GreaseQuicBit V.Flag b e h = h
flag_bytes Id.GreaseQuicBit _ b e h = absurd h
flag_bytes _ value b e h = absurd cc

token_bytes : (id : TransportParameterId) (value : Value) (b : List ℕ) → sort_of id ≡ S.Token
    → IsEncoded (row_of id).kind value b → length b ≡ 16
token_bytes Id.StatelessResetToken (V.Token t) b e h = ap length h.0 ∙ h.1
token_bytes Id.StatelessResetToken _ b e h = absurd h
token_bytes _ value b e h = absurd cc

id_bytes : (id : TransportParameterId) (value : Value) (b : List ℕ) → sort_of id ≡ S.Id
    → IsEncoded (row_of id).kind value b → length b ≤ 20
id_bytes Id.OriginalDestinationConnectionId (V.Id i) b e h = omega (arith, ap length h.0, h.1)
id_bytes Id.OriginalDestinationConnectionId _ b e h = absurd h
id_bytes Id.InitialSourceConnectionId (V.Id i) b e h = omega (arith, ap length h.0, h.1)
id_bytes Id.InitialSourceConnectionId _ b e h = absurd h
id_bytes Id.RetrySourceConnectionId (V.Id i) b e h = omega (arith, ap length h.0, h.1)
id_bytes Id.RetrySourceConnectionId _ b e h = absurd h
id_bytes _ value b e h = absurd cc

address_spans : (any_width : Bool) (id : TransportParameterId) (value : Value) (b : List ℕ) → sort_of id ≡ S.Address
    → IsEncoded (row_of id).kind value b → IsAccepted id value
    → (spans : List Span) × IsValueAt any_width (Some id) spans b
address_spans any_width Id.PreferredAddress (V.Address a) b e h accepted =
    let row = fields_of_address a b b [] (sym (append-nil b)) h.0 in
    let p = address_of row.0 b [] row.1 in
    let same = (fields_once a p.address b p.front [] [] (append-nil b ∙ p.parts) h.0 p.fields).2 in
    spans_of any_width Id.PreferredAddress row.0 b row.1
    (λ nowhere. not_nowhere a b h (p.address, p.front, [], p.parts, p.fields, p.is_nowhere nowhere.1))
    (inr ((λ empty. bounded Id.PreferredAddress (V.Address a) accepted (same ∙ p.is_empty empty)), refl))
address_spans any_width Id.PreferredAddress _ b e h accepted = absurd h
address_spans any_width _ value b e h accepted = absurd cc

no_value : (id : TransportParameterId) (value : Value) (b : List ℕ) → sort_of id ≡ S.Any
    → IsEncoded (row_of id).kind value b → ⊥
no_value Id.ReservedTransportParameter _ b e h = h
no_value _ value b e h = absurd cc

spans_in : (any_width : Bool) (id : TransportParameterId) (sort : Sort) (value : Value) (b : List ℕ) → sort_of id ≡ sort
    → sort ≢ S.Number → IsEncoded (row_of id).kind value b → IsAccepted id value
    → (spans : List Span) × IsValueAt any_width (Some id) spans b
spans_in any_width id S.Number value b e other h a = absurd (other refl)
spans_in any_width id S.Flag value b e other h a =
    plain_spans any_width id S.Flag [] b e (refl, flag_bytes id value b e h) (λ f. absurd cc)
    (ap (whole 0) (ap length (flag_bytes id value b e h)) ∙ ap (whole 0) (sym (ap length (flag_bytes id value b e h))))
spans_in any_width id S.Token value b e other h a =
    plain_spans any_width id S.Token (span 0 0 16 (length b) ∷ []) b e
    (16, b, [], [], sym (append-nil b), (token_bytes id value b e h, refl), refl, (refl, refl)) (λ f. absurd cc) refl
spans_in any_width id S.Id value b e other h a =
    plain_spans any_width id S.Id (span 0 0 (length b) (length b) ∷ []) b e
    (length b, b, [], [], sym (append-nil b), (id_bytes id value b e h, refl, refl), refl, (refl, refl)) (λ f. absurd cc) refl
spans_in any_width id S.Address value b e other h a = address_spans any_width id value b e h a
spans_in any_width id S.Any value b e other h a = absurd (no_value id value b e h)

spans_or : (any_width : Bool) (id : TransportParameterId) (sort : Sort) (value : Value) (b : List ℕ) → sort_of id ≡ sort
    → IsEncoded (kind_in any_width (row_of id).kind) value b → IsAccepted id value
    → (spans : List Span) × IsValueAt any_width (Some id) spans b
spans_or any_width id S.Number value b e h a = number_spans any_width id value b e h a
spans_or any_width id sort value b e h a =
    let other : sort ≢ S.Number = λ f. absurd cc in
    spans_in any_width id sort value b e other
    (subst (λ k. IsEncoded k value b) (sym (fixed any_width id (λ f. other (sym e ∙ f)))) h) a

pub spans_of_value : (any_width : Bool) (id : TransportParameterId) (value : Value) (bytes : List ℕ)
    → IsEncoded (kind_in any_width (row_of id).kind) value bytes → IsAccepted id value
    → (spans : List Span) × IsValueAt any_width (Some id) spans bytes
spans_of_value any_width id value bytes h a = spans_or any_width id (sort_of id) value bytes refl h a

-- ---- a fault is an error of the definition

-- what is reported of bytes that are no value
abbrev Reports : Bool → TransportParameterId → List ℕ → Reason → Type 0
Reports any_width id b reason = IsNoValue (kind_in any_width (row_of id).kind) b (error_of reason)
    ⊎ ((value : Value) × IsEncoded (kind_in any_width (row_of id).kind) value b × ¬ (IsAccepted id value)
    × (error_of reason ≡ IllegalValue))

-- the reason of a fault that is written in two ways
reason_of : (w : Walked) (i j k l : ℕ) (r t : Reason) → w ≡ fault_at i j (stop k l r) → w.fault ≡ Some t → r ≡ t
reason_of w i j k l r t e f = same_reason r t (ap (λ (v : Walked). v.fault) (sym e) ∙ f)

as_error : (any_width : Bool) (id : TransportParameterId) (b : List ℕ) (r t : Reason) → r ≡ t
    → IsNoValue (kind_in any_width (row_of id).kind) b (error_of r) → Reports any_width id b t
as_error any_width id b r t e h =
    inl (subst (λ (s : Reason). IsNoValue (kind_in any_width (row_of id).kind) b (error_of s)) e h)

-- the same of a kind that doesn't depend on how the list is read
as_fixed : (any_width : Bool) (id : TransportParameterId) (b : List ℕ) (r t : Reason) → sort_of id ≢ S.Number → r ≡ t
    → IsNoValue (row_of id).kind b (error_of r) → Reports any_width id b t
as_fixed any_width id b r t other e h =
    as_error any_width id b r t e (subst (λ k. IsNoValue k b (error_of r)) (fixed any_width id other) h)

no_flag_of : (id : TransportParameterId) (b : List ℕ) → sort_of id ≡ S.Flag → length b ≢ 0
    → IsNoValue (row_of id).kind b Malformed
no_flag_of Id.DisableActiveMigration b e h = no_flag b h
no_flag_of Id.GreaseQuicBit b e h = no_flag b h
no_flag_of _ b e h = absurd cc

no_token_of : (id : TransportParameterId) (b : List ℕ) → sort_of id ≡ S.Token → length b ≢ 16
    → IsNoValue (row_of id).kind b Malformed
no_token_of Id.StatelessResetToken b e h = no_token b h
no_token_of _ b e h = absurd cc

no_id_of : (id : TransportParameterId) (b : List ℕ) → sort_of id ≡ S.Id → 20 < length b
    → IsNoValue (row_of id).kind b Malformed
no_id_of Id.OriginalDestinationConnectionId b e h = no_id b h
no_id_of Id.InitialSourceConnectionId b e h = no_id b h
no_id_of Id.RetrySourceConnectionId b e h = no_id b h
no_id_of _ b e h = absurd cc

-- a field of a value with one field can't be read
stopped : (any_width : Bool) (id : TransportParameterId) (sort : Sort) (spans : List Span) (b : List ℕ) (w : Walked)
    (t : Reason) → sort_of id ≡ sort → StopsWithinAt 0 0 (fields_of sort) spans b w → w.fault ≡ Some t
    → Reports any_width id b t
stopped any_width id S.Number spans b w t e s f =
    elim s [
      | inl (nil, at, (none, why), is) ↦
          as_error any_width id b R.UnexpectedEnd t
          (reason_of w 0 0 0 0 R.UnexpectedEnd t (is ∙ ap (fault_at 0 0) why) f)
          ((facts any_width id e).0 b (λ n h. none n b [] (sym (append-nil b)) h))
      | inr (n, front, left, others, split, field, all, next) ↦ absurd next
    ]
stopped any_width id S.Flag spans b w t e s f = absurd s
stopped any_width id S.Token spans b w t e s f =
    elim s [
      | inl (nil, at, (short, why), is) ↦
          as_fixed any_width id b R.UnexpectedEnd t (λ h. let clash : S.Token ≡ S.Number = sym e ∙ h in absurd cc)
          (reason_of w 0 0 0 0 R.UnexpectedEnd t (is ∙ ap (fault_at 0 0) why) f)
          (no_token_of id b e (λ l. omega (arith, l, short)))
      | inr (n, front, left, others, split, field, all, next) ↦ absurd next
    ]
stopped any_width id S.Id spans b w t e s f =
    elim s [
      | inl (nil, at, (long, why), is) ↦
          as_fixed any_width id b R.LongId t (λ h. let clash : S.Id ≡ S.Number = sym e ∙ h in absurd cc)
          (reason_of w 0 0 0 0 R.LongId t (is ∙ ap (fault_at 0 0) why) f) (no_id_of id b e long)
      | inr (n, front, left, others, split, field, all, next) ↦ absurd next
    ]
stopped any_width Id.PreferredAddress S.Address spans b w t e s f =
    let r = malformed 0 0 (fields_of S.Address) spans b w t s f in
    inl (subst (λ d. IsNoValue (kind_in any_width (row_of Id.PreferredAddress).kind) b d) (sym r)
    (subst (λ k. IsNoValue k b Malformed) (fixed any_width Id.PreferredAddress (λ h. absurd cc))
    (no_address b (λ a front rest split h. let row = fields_of_address a b front rest split h in
    fields_or_stop 0 0 (fields_of S.Address) row.0 spans b rest w row.1 s))))
  where
    stop_malformed : (kind : Kind) (b : List ℕ) (s : Stop) → Stops kind b s → error_of s.reason ≡ Malformed
    stop_malformed K.Varint b s h = rw (h.1) refl
    stop_malformed K.Port b s h = rw (h.1) refl
    stop_malformed K.Ip4 b s h = rw (h.1) refl
    stop_malformed K.Ip6 b s h = rw (h.1) refl
    stop_malformed K.Bytes16 b s h = rw (h.1) refl
    stop_malformed K.LongId [] s h = rw (h) refl
    stop_malformed K.LongId (n ∷ b) s h = elim h [ inl long ↦ rw (long.1) refl | inr cut ↦ rw (cut.2) refl ]
    stop_malformed K.Id b s h = rw (h.1) refl
    stop_malformed K.Rest b s h = absurd h

    malformed : (index start : ℕ) (kinds : List Kind) (spans : List Span) (b : List ℕ) (w : Walked) (t : Reason)
        → StopsWithinAt index start kinds spans b w → w.fault ≡ Some t → error_of t ≡ Malformed
    malformed index start [] spans b w t s f = absurd s
    malformed index start (kind ∷ kinds) spans b w t s f =
        elim s [
          | inl here ↦
              let same : here.1.reason ≡ t = same_reason here.1.reason t (ap (λ (v : Walked). v.fault) (sym here.3) ∙ f) in
              ap error_of (sym same) ∙ stop_malformed kind b here.1 here.2
          | inr (n, front, left, others, split, field, all, next) ↦
              malformed (index + 1) (start + length front) kinds others left w t next f
        ]
stopped any_width _ S.Address spans b w t e s f = absurd cc
stopped any_width id S.Any spans b w t e s f =
    elim s [
      | inl here ↦ absurd here.2
      | inr (n, front, left, others, split, field, all, next) ↦ absurd next
    ]

some_length : (b : List ℕ) → b ≢ [] → length b ≢ 0
some_length [] some l = some refl
some_length (x ∷ b) some l = omega (arith, l)

-- bytes follow the fields
left_over : (any_width : Bool) (id : TransportParameterId) (sort : Sort) (spans : List Span) (b rest : List ℕ) (t : Reason)
    → sort_of id ≡ sort → AreFieldsAt 0 0 (fields_of sort) spans b rest → rest ≢ [] → ¬ ((sort ≡ S.Address) × IsNowhere b)
    → R.BytesLeft ≡ t → Reports any_width id b t
left_over any_width id S.Number spans b rest t e fields some somewhere why =
    let front : List ℕ = fields.1 in
    let split : b ≡ front ++ rest = fields.4 ∙ ap (λ (l : List ℕ). front ++ l) fields.7.1 in
    as_error any_width id b R.BytesLeft t why ((facts any_width id e).0 b
    (λ n h. part_number fields.0 n b rest (record { front = front; split = split; is = fields.5 })
    (let l = some_length rest some in omega (arith, l)) h))
left_over any_width id S.Flag spans b rest t e fields some somewhere why =
    as_fixed any_width id b R.BytesLeft t (λ h. let clash : S.Flag ≡ S.Number = sym e ∙ h in absurd cc) why
    (no_flag_of id b e (λ l. some_length rest some (sym (ap length fields.1) ∙ l)))
left_over any_width id S.Token spans b rest t e fields some somewhere why =
    let l = some_length rest some in
    as_fixed any_width id b R.BytesLeft t (λ h. let clash : S.Token ≡ S.Number = sym e ∙ h in absurd cc) why
    (no_token_of id b e (λ whole. l (omega (arith, whole, ap length fields.4, length-append fields.1 fields.2, fields.5.0, ap length fields.7.1))))
left_over any_width id S.Id spans b rest t e fields some somewhere why =
    absurd (some (sym fields.7.1 ∙ fields.5.2))
left_over any_width Id.PreferredAddress S.Address spans b rest t e fields some somewhere why =
    let p = address_of spans b rest fields in
    as_fixed any_width Id.PreferredAddress b R.BytesLeft t (λ h. absurd cc) why
    (long_address p.address b p.front rest p.parts p.fields (some_length rest some) (λ h. somewhere (refl, p.nowhere h)))
left_over any_width _ S.Address spans b rest t e fields some somewhere why = absurd cc
left_over any_width id S.Any spans b rest t e fields some somewhere why =
    absurd (some (sym fields.7.1 ∙ fields.5.1))

-- a rule of the whole value is broken
broken : (any_width : Bool) (id : TransportParameterId) (sort : Sort) (spans : List Span) (b : List ℕ) (read w : Walked)
    (t : Reason) → sort_of id ≡ sort → AreFieldsAt 0 0 (fields_of sort) spans b [] → ¬ ((sort ≡ S.Address) × IsNowhere b)
    → WholeRule any_width id sort b read w → read.fault ≡ None → w.fault ≡ Some t → Reports any_width id b t
broken any_width id S.Number spans b read w t e fields somewhere (n, encodes, rule) none f =
    elim rule [
      | inl long ↦
          as_error any_width id b R.LongNumber t (reason_of w 0 0 0 0 R.LongNumber t long.1 f)
          ((facts any_width id e).1 n b encodes long.0)
      | inr short ↦ elim short.1 [
        | inl out ↦
            inr (V.Number n, short.0, out.0, ap error_of (sym (reason_of w 0 0 0 0 R.OutOfRange t out.1 f)))
        | inr within ↦
            let clash : None ≡ Some t = sym none ∙ ap (λ (v : Walked). v.fault) (sym within.1) ∙ f in absurd cc
      ]
    ]
broken any_width Id.PreferredAddress S.Address spans b read w t e fields somewhere rule none f =
    elim rule [
      | inl empty ↦
          let p = address_of spans b [] fields in
          let is = address_whole p.address b p.front [] p.parts p.fields refl (λ h. somewhere (refl, p.nowhere h)) in
          inr (
            V.Address p.address,
            subst (λ k. IsEncoded k (V.Address p.address) b) (fixed any_width Id.PreferredAddress (λ h. absurd cc)) is,
            (λ a. bounded Id.PreferredAddress (V.Address p.address) a (p.is_empty empty.0)),
            ap error_of (sym (reason_of w 4 24 0 0 R.EmptyId t empty.1 f)),
          )
      | inr some ↦ let clash : None ≡ Some t = sym none ∙ ap (λ (v : Walked). v.fault) (sym some.1) ∙ f in absurd cc
    ]
broken any_width _ S.Address spans b read w t e fields somewhere rule none f = absurd cc
broken any_width id S.Flag spans b read w t e fields somewhere rule none f =
    let clash : None ≡ Some t = sym none ∙ ap (λ (v : Walked). v.fault) (sym rule) ∙ f in absurd cc
broken any_width id S.Token spans b read w t e fields somewhere rule none f =
    let clash : None ≡ Some t = sym none ∙ ap (λ (v : Walked). v.fault) (sym rule) ∙ f in absurd cc
broken any_width id S.Id spans b read w t e fields somewhere rule none f =
    let clash : None ≡ Some t = sym none ∙ ap (λ (v : Walked). v.fault) (sym rule) ∙ f in absurd cc
broken any_width id S.Any spans b read w t e fields somewhere rule none f =
    let clash : None ≡ Some t = sym none ∙ ap (λ (v : Walked). v.fault) (sym rule) ∙ f in absurd cc

nowhere_of : (any_width : Bool) (id : TransportParameterId) (spans : List Span) (b rest : List ℕ) (t : Reason)
    → sort_of id ≡ S.Address → AreFieldsAt 0 0 (fields_of S.Address) spans b rest → IsNowhere b → R.NoAddress ≡ t
    → Reports any_width id b t
nowhere_of any_width Id.PreferredAddress spans b rest t e fields nowhere why =
    let p = address_of spans b rest fields in
    as_fixed any_width Id.PreferredAddress b R.NoAddress t (λ h. absurd cc) why
    (address_nowhere p.address b p.front rest p.parts p.fields (p.is_nowhere nowhere))
nowhere_of any_width _ spans b rest t e fields nowhere why = absurd cc

pub reported : (any_width : Bool) (id : TransportParameterId) (spans : List Span) (bytes : List ℕ) (at start : ℕ)
    (s : Stop) → IsNoValueAt any_width (Some id) spans bytes at start s → Reports any_width id bytes s.reason
reported any_width id spans bytes at start s h =
    let w : Walked = fault_at at start s in
    elim h [
      | inl stops ↦ stopped any_width id (sort_of id) spans bytes w s.reason refl stops refl
      | inr (rest, end, fields, width, rule) ↦ elim rule [
        | inl (address, nowhere, is) ↦
            nowhere_of any_width id spans bytes rest s.reason address
            (subst (λ (k : Sort). AreFieldsAt 0 0 (fields_of k) spans bytes rest) address fields) nowhere
            (reason_of w 2 6 0 0 R.NoAddress s.reason is refl)
        | inr (somewhere, more) ↦ elim more [
          | inl (some, is) ↦
              left_over any_width id (sort_of id) spans bytes rest s.reason refl fields some somewhere
              (reason_of w (length spans) end 0 0 R.BytesLeft s.reason is refl)
          | inr (none, rule) ↦
              broken any_width id (sort_of id) spans bytes (whole (length spans) end) w s.reason refl
              (subst (AreFieldsAt 0 0 (fields_of (sort_of id)) spans bytes) none fields) somewhere rule refl refl
        ]
      ]
    ]
