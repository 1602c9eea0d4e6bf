-- The definitions of values by their spans, and by the parameter's definition.
use Rattle.std.proofs.Common.{◌≡◌, ◌≢◌, ℕ, ◌+◌, ◌≤◌, Bool, true, false, List, [], ◌∷◌, ◌++◌, length, Option, Some, None, refl, sym, ap, subst, ◌∙◌, append-nil, arith, inl, inr}
use Rattle.quic_fields.specs.declared.field.Span.{Span}
use Rattle.quic_fields.specs.Spans.{AreInRow, AreNumbered}
use Rattle.quic_params.specs.declared.parameter.TransportParameterId.{TransportParameterId}
use Rattle.quic_params.specs.declared.parameter.TransportParameterId.TheVariants as Id
use Rattle.quic_params.specs.declared.value.Value.{Value}
use Rattle.quic_params.specs.declared.value.Value.TheVariants as V
use Rattle.quic_params.specs.Options.{kind_in}
use Rattle.quic_params.specs.Table.{row_of}
use Rattle.quic_params.specs.Value.{IsEncoded}
use Rattle.quic_params.proofs.Addresses.{address_whole}
use Rattle.quic_param_fields.specs.declared.row.Kind.{Kind}
use Rattle.quic_param_fields.specs.declared.row.Sort.{Sort}
use Rattle.quic_param_fields.specs.declared.row.Sort.TheVariants as S
use Rattle.quic_param_fields.specs.declared.field.Reason.{Reason}
use Rattle.quic_param_fields.specs.declared.field.Reason.TheVariants as R
use Rattle.quic_param_fields.specs.declared.field.Stop.{Stop}
use Rattle.quic_param_fields.specs.declared.field.Walked.{Walked}
use Rattle.quic_param_fields.specs.Rows.{sort_of, fields_of}
use Rattle.quic_param_fields.specs.Fields.{AreFieldsAt, StopsWithinAt, stop, whole}
use Rattle.quic_param_fields.specs.Values.{IsAccepted, NumberRule, WholeRule, Rule, IsValueAt, IsNoValueAt}
use Rattle.quic_param_fields.proofs.Accepted.{accepts}
use Rattle.quic_param_fields.proofs.Addresses.{address_of}
use Rattle.quic_param_fields.proofs.Once.{read_once, fields_in_row}
use Rattle.quic_param_fields.proofs.Reading.{rule_kept}

-- ---- one of each

pub one_list : (any_width : Bool) (found : Option TransportParameterId) (spans others : List Span) (bytes : List ℕ)
    → IsValueAt any_width found spans bytes → IsValueAt any_width found others bytes → spans ≡ others
one_list any_width found spans others bytes s t = (read_once any_width found bytes spans others _ _ s t).0

pub never_both : (any_width : Bool) (found : Option TransportParameterId) (spans others : List Span) (bytes : List ℕ)
    (at start : ℕ) (s : Stop) → IsValueAt any_width found spans bytes → IsNoValueAt any_width found others bytes at start s
    → ⊥
never_both any_width found spans others bytes at start s v n =
    let same = (read_once any_width found bytes spans others _ _ v n).1 in
    let clash : None ≡ Some s.reason = ap (λ (w : Walked). w.fault) same in absurd cc

pub same_reason : (r s : Reason) → Some r ≡ Some s → r ≡ s
same_reason r s e = cc

pub one_fault : (any_width : Bool) (found : Option TransportParameterId) (spans others : List Span) (bytes : List ℕ)
    (at other start begin : ℕ) (s t : Stop) → IsNoValueAt any_width found spans bytes at start s
    → IsNoValueAt any_width found others bytes other begin t
    → (spans ≡ others) × (at ≡ other) × (start ≡ begin) × (s ≡ t)
one_fault any_width found spans others bytes at other start begin s t v n =
    let same = read_once any_width found bytes spans others _ _ v n in
    let reason : s.reason ≡ t.reason = same_reason s.reason t.reason (ap (λ (w : Walked). w.fault) same.1) in (
      same.0,
      ap (λ (w : Walked). w.count) same.1,
      ap (λ (w : Walked). w.end) same.1,
      ap (λ (k : ℕ). stop k s.numbers s.reason) (ap (λ (w : Walked). w.inside) same.1)
          ∙ ap (λ (k : ℕ). stop t.inside k s.reason) (ap (λ (w : Walked). w.numbers) same.1)
          ∙ ap (stop t.inside t.numbers) reason,
    )

stops_fault : (index start : ℕ) (kinds : List Kind) (spans : List Span) (bytes : List ℕ) (w : Walked)
    → StopsWithinAt index start kinds spans bytes w → w.fault ≡ None → ⊥
stops_fault index start [] spans bytes w s none = s
stops_fault index start (kind ∷ kinds) spans bytes w s none =
    elim s [
      | inl here ↦
          let clash : Some here.1.reason ≡ None = ap (λ (v : Walked). v.fault) (sym here.3) ∙ none in absurd cc
      | inr (n, front, left, others, split, field, all, next) ↦
          stops_fault (index + 1) (start + length front) kinds others left w next none
    ]

-- the fields of a value, after which nothing follows
record IsWhole (any_width : Bool) (id : TransportParameterId) (spans : List Span) (bytes : List ℕ) : Type 0 where
  fields : AreFieldsAt 0 0 (fields_of (sort_of id)) spans bytes []
  rule : Rule any_width id (sort_of id) bytes [] (whole (length spans) (length bytes)) (whole (length spans) (length bytes))

whole_of : (any_width : Bool) (id : TransportParameterId) (spans : List Span) (bytes : List ℕ)
    → IsValueAt any_width (Some id) spans bytes → IsWhole any_width id spans bytes
whole_of any_width id spans bytes v =
    elim v [
      | inl stops ↦ absurd (stops_fault 0 0 (fields_of (sort_of id)) spans bytes _ stops refl)
      | inr (rest, end, fields, width, rule) ↦
          let kept = rule_kept any_width id (sort_of id) bytes rest (whole (length spans) end) _ rule refl in
          let ends : end ≡ length bytes = omega (arith, width, ap length kept.0) in
          record {
            fields = subst (AreFieldsAt 0 0 (fields_of (sort_of id)) spans bytes) kept.0 fields;
            rule = subst (λ (k : ℕ). Rule any_width id (sort_of id) bytes [] (whole (length spans) k) (whole (length spans) (length bytes))) ends
                (subst (λ (l : List ℕ). Rule any_width id (sort_of id) bytes l (whole (length spans) end) (whole (length spans) (length bytes)))
                kept.0 rule);
          }
    ]

in_row_of : (kinds : List Kind) (spans : List Span) (bytes rest : List ℕ) → AreFieldsAt 0 0 kinds spans bytes rest → rest ≡ []
    → AreInRow 0 spans (length bytes) × AreNumbered 0 spans
in_row_of kinds spans bytes rest fields none =
    let row = fields_in_row 0 0 kinds spans bytes rest fields in
    let end : row.0 ≡ length bytes = omega (arith, row.1, ap length none) in
    (subst (AreInRow 0 spans) end row.2, row.3)

pub in_row : (any_width : Bool) (found : Option TransportParameterId) (spans : List Span) (bytes : List ℕ)
    → IsValueAt any_width found spans bytes → AreInRow 0 spans (length bytes) × AreNumbered 0 spans
in_row any_width None spans bytes v =
    elim v [
      | inl stops ↦ absurd (stops_fault 0 0 (fields_of S.Any) spans bytes _ stops refl)
      | inr (rest, end, fields, width, rule) ↦ in_row_of (fields_of S.Any) spans bytes rest fields (sym fields.7.1 ∙ fields.5.1)
    ]
in_row any_width (Some id) spans bytes v =
    let w = whole_of any_width id spans bytes v in in_row_of (fields_of (sort_of id)) spans bytes [] w.fields refl

-- ---- values that have spans are values

-- only a number's kind depends on how the list is read
pub fixed : (any_width : Bool) (id : TransportParameterId) → sort_of id ≢ S.Number
    → (row_of id).kind ≡ kind_in any_width (row_of id).kind
fixed false id other = refl
fixed true Id.ReservedTransportParameter other = refl
fixed true Id.StatelessResetToken other = refl
fixed true Id.DisableActiveMigration other = refl
fixed true Id.PreferredAddress other = refl
fixed true Id.OriginalDestinationConnectionId other = refl
fixed true Id.InitialSourceConnectionId other = refl
fixed true Id.RetrySourceConnectionId other = refl
fixed true Id.GreaseQuicBit other = refl
fixed true _ other = absurd (other refl)

-- a value of the parameter, however the list is read
abbrev HasValueOf : TransportParameterId → List ℕ → Type 0
HasValueOf id bytes = (value : Value) × IsEncoded (row_of id).kind value bytes × IsAccepted id value

flag_value : (id : TransportParameterId) (b : List ℕ) → sort_of id ≡ S.Flag → b ≡ [] → HasValueOf id b
flag_value Id.DisableActiveMigration b e h = (V.Flag, h, accepts Id.DisableActiveMigration V.Flag tt tt)
flag_value Id.GreaseQuicBit b e h = (V.Flag, h, accepts Id.GreaseQuicBit V.Flag tt tt)
flag_value _ b e h = absurd cc

token_value : (id : TransportParameterId) (b : List ℕ) → sort_of id ≡ S.Token → length b ≡ 16 → HasValueOf id b
token_value Id.StatelessResetToken b e h = (V.Token b, (refl, h), accepts Id.StatelessResetToken (V.Token b) tt tt)
token_value _ b e h = absurd cc

id_value : (id : TransportParameterId) (b : List ℕ) → sort_of id ≡ S.Id → length b ≤ 20 → HasValueOf id b
id_value Id.OriginalDestinationConnectionId b e h =
    (V.Id b, (refl, h), accepts Id.OriginalDestinationConnectionId (V.Id b) tt tt)
id_value Id.InitialSourceConnectionId b e h = (V.Id b, (refl, h), accepts Id.InitialSourceConnectionId (V.Id b) tt tt)
id_value Id.RetrySourceConnectionId b e h = (V.Id b, (refl, h), accepts Id.RetrySourceConnectionId (V.Id b) tt tt)
id_value _ b e h = absurd cc

-- what an address's rules leave
address_value : (id : TransportParameterId) (spans : List Span) (b : List ℕ) (read : Walked) → sort_of id ≡ S.Address
    → AreFieldsAt 0 0 (fields_of S.Address) spans b [] → (any_width : Bool) (w : Walked)
    → Rule any_width id S.Address b [] read w → w.fault ≡ None → read.fault ≡ None → HasValueOf id b
address_value Id.PreferredAddress spans b read e fields any_width w rule none whole =
    let p = address_of spans b [] fields in
    elim rule [
      | inl nowhere ↦
          let clash : Some R.NoAddress ≡ None = ap (λ (v : Walked). v.fault) (sym nowhere.2) ∙ none in absurd cc
      | inr somewhere ↦
          let is = address_whole p.address b p.front [] p.parts p.fields refl (λ h. somewhere.0 (refl, p.nowhere h)) in
          elim somewhere.1 [
            | inl left ↦ absurd (left.0 refl)
            | inr all ↦ elim all.1 [
              | inl empty ↦
                  let clash : Some R.EmptyId ≡ None = ap (λ (v : Walked). v.fault) (sym empty.1) ∙ none in absurd cc
              | inr some ↦
                  (V.Address p.address, is, accepts Id.PreferredAddress (V.Address p.address) tt (λ h. some.0 (p.empty h)))
            ]
          ]
    ]
address_value _ spans b read e fields any_width w rule none whole = absurd cc

number_value : (any_width : Bool) (id : TransportParameterId) (n : ℕ) (b : List ℕ) (read w : Walked)
    → NumberRule any_width id n b read w → w.fault ≡ None
    → (value : Value) × IsEncoded (kind_in any_width (row_of id).kind) value b × IsAccepted id value
number_value any_width id n b read w rule none =
    elim rule [
      | inl long ↦ let clash : Some R.LongNumber ≡ None = ap (λ (v : Walked). v.fault) (sym long.1) ∙ none in absurd cc
      | inr short ↦ elim short.1 [
        | inl out ↦ let clash : Some R.OutOfRange ≡ None = ap (λ (v : Walked). v.fault) (sym out.1) ∙ none in absurd cc
        | inr within ↦ (V.Number n, short.0, within.0)
      ]
    ]

-- the rule for a value that nothing follows
whole_rule : (any_width : Bool) (id : TransportParameterId) (sort : Sort) (b : List ℕ) (read w : Walked)
    → Rule any_width id sort b [] read w → sort ≢ S.Address → WholeRule any_width id sort b read w
whole_rule any_width id sort b read w rule other =
    elim rule [
      | inl nowhere ↦ absurd (other nowhere.0)
      | inr somewhere ↦ elim somewhere.1 [
        | inl left ↦ absurd (left.0 refl)
        | inr all ↦ all.1
      ]
    ]

in_kind : (any_width : Bool) (id : TransportParameterId) (b : List ℕ) → sort_of id ≢ S.Number → HasValueOf id b
    → (value : Value) × IsEncoded (kind_in any_width (row_of id).kind) value b × IsAccepted id value
in_kind any_width id b other (value, encoded, accepted) =
    (value, subst (λ k. IsEncoded k value b) (fixed any_width id other) encoded, accepted)

pub alone : (front left b : List ℕ) → b ≡ front ++ left → left ≡ [] → b ≡ front
alone front left b e none = e ∙ ap (λ (l : List ℕ). front ++ l) none ∙ append-nil front

value_in : (any_width : Bool) (id : TransportParameterId) (sort : Sort) (spans : List Span) (b : List ℕ) (read w : Walked)
    → sort_of id ≡ sort → sort ≢ S.Any → AreFieldsAt 0 0 (fields_of sort) spans b []
    → Rule any_width id sort b [] read w → w.fault ≡ None → read.fault ≡ None
    → (value : Value) × IsEncoded (kind_in any_width (row_of id).kind) value b × IsAccepted id value
value_in any_width id S.Number spans b read w e some fields rule none whole =
    let r = whole_rule any_width id S.Number b read w rule (λ h. absurd cc) in
    number_value any_width id r.0 b read w r.2 none
value_in any_width id S.Flag spans b read w e some fields rule none whole =
    in_kind any_width id b (λ h. let clash : S.Flag ≡ S.Number = sym e ∙ h in absurd cc) (flag_value id b e fields.1)
value_in any_width id S.Token spans b read w e some fields rule none whole =
    let same : b ≡ fields.1 = alone fields.1 fields.2 b fields.4 fields.7.1 in
    in_kind any_width id b (λ h. let clash : S.Token ≡ S.Number = sym e ∙ h in absurd cc)
    (token_value id b e (ap length same ∙ fields.5.0))
value_in any_width id S.Id spans b read w e some fields rule none whole =
    let same : b ≡ fields.1 = alone fields.1 fields.2 b fields.4 fields.7.1 in
    in_kind any_width id b (λ h. let clash : S.Id ≡ S.Number = sym e ∙ h in absurd cc)
    (id_value id b e (omega (arith, ap length same, fields.5.0)))
value_in any_width id S.Address spans b read w e some fields rule none whole =
    in_kind any_width id b (λ h. let clash : S.Address ≡ S.Number = sym e ∙ h in absurd cc)
    (address_value id spans b read e fields any_width w rule none whole)
value_in any_width id S.Any spans b read w e some fields rule none whole = absurd (some refl)

pub value_of_spans : (any_width : Bool) (id : TransportParameterId) (spans : List Span) (bytes : List ℕ)
    → sort_of id ≢ S.Any → IsValueAt any_width (Some id) spans bytes
    → (value : Value) × IsEncoded (kind_in any_width (row_of id).kind) value bytes × IsAccepted id value
value_of_spans any_width id spans bytes some v =
    let w = whole_of any_width id spans bytes v in
    value_in any_width id (sort_of id) spans bytes (whole (length spans) (length bytes)) (whole (length spans) (length bytes))
    refl some w.fields w.rule refl refl
