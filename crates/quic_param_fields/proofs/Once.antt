-- Bytes are a value of a parameter in one way, or no value in one way.
use Rattle.std.proofs.Common.{◌≡◌, ℕ, ◌+◌, ◌≤◌, Bool, List, [], ◌∷◌, ◌++◌, length, Option, Some, None, refl, sym, ap, subst, ◌∙◌, append-nil, length-append, arith, inl, inr}
use Rattle.quic_base.proofs.PublicLaws.{same_front, same_back, encodes_unique, number_unique, long_id_unique}
use Rattle.quic_fields.specs.declared.field.Span.{Span}
use Rattle.quic_fields.specs.Spans.{AreInRow, AreNumbered}
use Rattle.quic_params.specs.declared.parameter.TransportParameterId.{TransportParameterId}
use Rattle.quic_param_fields.specs.declared.row.Kind.{Kind}
use Rattle.quic_param_fields.specs.declared.row.Kind.TheVariants.{Varint, Port, Ip4, Ip6, Bytes16, LongId, Id, Rest}
use Rattle.quic_param_fields.specs.declared.row.Sort.{Sort}
use Rattle.quic_param_fields.specs.declared.row.Sort.TheVariants as S
use Rattle.quic_param_fields.specs.declared.field.Stop.{Stop}
use Rattle.quic_param_fields.specs.declared.field.Walked.{Walked}
use Rattle.quic_param_fields.specs.Rows.{sort_of, sort_in, fields_of}
use Rattle.quic_param_fields.specs.Fields.{IsField, Stops, AreFieldsAt, StopsWithinAt, fault_at, whole}
use Rattle.quic_param_fields.specs.Values.{NumberRule, WholeRule, Rule, RuleIn, IsRead}

-- ---- a field

all_of : (b c r s : List ℕ) → b ++ r ≡ c ++ s → r ≡ [] → s ≡ [] → b ≡ c
all_of b c r s e f g =
    sym (append-nil b) ∙ ap (λ (l : List ℕ). b ++ l) (sym f) ∙ e ∙ ap (λ (l : List ℕ). c ++ l) g ∙ append-nil c

field_once : (kind : Kind) (n m : ℕ) (b c r s : List ℕ) → b ++ r ≡ c ++ s → IsField kind n b r → IsField kind m c s
    → (n ≡ m) × (b ≡ c) × (r ≡ s)
field_once Varint n m b c r s e f g = encodes_unique n m b c r s e f g
field_once Port n m b c r s e f g = number_unique 2 n m b c r s e f g
field_once Ip4 n m b c r s e f g =
    let l : length b ≡ length c = f.1.width ∙ sym g.1.width in
    (f.2 ∙ sym g.2, same_front b c r s l e, same_back b c r s l e)
field_once Ip6 n m b c r s e f g =
    let l : length b ≡ length c = f.1.width ∙ sym g.1.width in
    (f.2 ∙ sym g.2, same_front b c r s l e, same_back b c r s l e)
field_once Bytes16 n m b c r s e f g =
    let l : length b ≡ length c = f.0 ∙ sym g.0 in
    (f.1 ∙ sym g.1, same_front b c r s l e, same_back b c r s l e)
field_once LongId n m b c r s e f g =
    let u = long_id_unique f.0 g.0 b c r s e f.1 g.1 in
    (f.2 ∙ ap length u.0 ∙ sym g.2, u.1, u.2)
field_once Id n m b c r s e f g =
    let same = all_of b c r s e f.2 g.2 in
    (f.1 ∙ ap length same ∙ sym g.1, same, f.2 ∙ sym g.2)
field_once Rest n m b c r s e f g =
    let same = all_of b c r s e f.1 g.1 in
    (f.0 ∙ ap length same ∙ sym g.0, same, f.1 ∙ sym g.1)

no_long_id : (id r bytes : List ℕ) (s : Stop) → length id ≤ 20 → bytes ≡ length id ∷ (id ++ r) → Stops LongId bytes s → ⊥
no_long_id id r [] s short e h = absurd cc
no_long_id id r (n ∷ bytes) s short e h =
    let n_is : n ≡ length id = cc in
    let left : bytes ≡ id ++ r = cc in
    elim h [
      | inl long ↦ omega (arith, short, n_is, long.0)
      | inr cut ↦ omega (arith, n_is, ap length left, length-append id r, cut.1)
    ]

field_or_stop : (kind : Kind) (n : ℕ) (b r : List ℕ) (s : Stop) → IsField kind n b r → Stops kind (b ++ r) s → ⊥
field_or_stop Varint n b r s f h = h.0 n b r refl f
field_or_stop Port n b r s f h = h.0 n b r refl f
field_or_stop Ip4 n b r s f h = h.0 f.0 b r refl f.1
field_or_stop Ip6 n b r s f h = h.0 f.0 b r refl f.1
field_or_stop Bytes16 n b r s f h = omega (arith, f.0, h.0, length-append b r)
field_or_stop LongId n b r s f h = no_long_id f.0 r (b ++ r) s f.1.short (ap (λ (l : List ℕ). l ++ r) f.1.value) h
field_or_stop Id n b r s f h = omega (arith, f.0, h.0, length-append b r, ap length f.2)
field_or_stop Rest n b r s f h = h

stop_once : (kind : Kind) (bytes : List ℕ) (s t : Stop) → Stops kind bytes s → Stops kind bytes t → s ≡ t
stop_once Varint bytes s t f g = f.1 ∙ sym g.1
stop_once Port bytes s t f g = f.1 ∙ sym g.1
stop_once Ip4 bytes s t f g = f.1 ∙ sym g.1
stop_once Ip6 bytes s t f g = f.1 ∙ sym g.1
stop_once Bytes16 bytes s t f g = f.1 ∙ sym g.1
stop_once LongId [] s t f g = f ∙ sym g
stop_once LongId (n ∷ bytes) s t f g =
    elim f [
      | inl long ↦ elim g [
        | inl other ↦ long.1 ∙ sym other.1
        | inr cut ↦ absurd (omega (arith, long.0, cut.0))
      ]
      | inr cut ↦ elim g [
        | inl long ↦ absurd (omega (arith, long.0, cut.0))
        | inr other ↦ cut.2 ∙ sym other.2
      ]
    ]
stop_once Id bytes s t f g = f.1 ∙ sym g.1
stop_once Rest bytes s t f g = absurd f

-- ---- a row

pub fields_once : (index start : ℕ) (kinds : List Kind) (spans others : List Span) (bytes rest left : List ℕ)
    → AreFieldsAt index start kinds spans bytes rest → AreFieldsAt index start kinds others bytes left
    → (spans ≡ others) × (rest ≡ left)
fields_once index start [] spans others bytes rest left s t = (s.0 ∙ sym t.0, sym s.1 ∙ t.1)
fields_once index start (kind ∷ kinds) spans others bytes rest left (n, front, after, more, split, field, all, next) (m, begin, behind, further, parts, other, every, last) =
    let same = field_once kind n m front begin after behind (sym split ∙ parts) field other in
    let step : AreFieldsAt (index + 1) (start + length front) kinds further after left =
    subst (λ (l : List ℕ). AreFieldsAt (index + 1) (start + length l) kinds further after left) (sym same.1)
    (subst (λ (l : List ℕ). AreFieldsAt (index + 1) (start + length begin) kinds further l left) (sym same.2) last) in
    let again = fields_once (index + 1) (start + length front) kinds more further after rest left next step in
    (all ∙ rw (same.0, same.1, again.0) (sym every), again.1)

pub fields_or_stop : (index start : ℕ) (kinds : List Kind) (spans others : List Span) (bytes rest : List ℕ) (w : Walked)
    → AreFieldsAt index start kinds spans bytes rest → StopsWithinAt index start kinds others bytes w → ⊥
fields_or_stop index start [] spans others bytes rest w s t = t
fields_or_stop index start (kind ∷ kinds) spans others bytes rest w (n, front, after, more, split, field, all, next) t =
    elim t [
      | inl here ↦ field_or_stop kind n front after here.1 field
          (subst (λ (l : List ℕ). Stops kind l here.1) split here.2)
      | inr (m, begin, behind, further, parts, other, every, last) ↦
          let same = field_once kind n m front begin after behind (sym split ∙ parts) field other in
          fields_or_stop (index + 1) (start + length begin) kinds more further behind rest w
          (subst (λ (l : List ℕ). AreFieldsAt (index + 1) (start + length l) kinds more behind rest) same.1
          (subst (λ (l : List ℕ). AreFieldsAt (index + 1) (start + length front) kinds more l rest) same.2 next)) last
    ]

stops_once : (index start : ℕ) (kinds : List Kind) (spans others : List Span) (bytes : List ℕ) (w x : Walked)
    → StopsWithinAt index start kinds spans bytes w → StopsWithinAt index start kinds others bytes x
    → (spans ≡ others) × (w ≡ x)
stops_once index start [] spans others bytes w x s t = absurd s
stops_once index start (kind ∷ kinds) spans others bytes w x s t =
    elim s [
      | inl here ↦ elim t [
        | inl there ↦
            let same : here.1 ≡ there.1 = stop_once kind bytes here.1 there.1 here.2 there.2 in
            (here.0 ∙ sym there.0, here.3 ∙ ap (fault_at index start) same ∙ sym there.3)
        | inr (m, begin, behind, further, parts, other, every, last) ↦
            absurd (field_or_stop kind m begin behind here.1 other (subst (λ (l : List ℕ). Stops kind l here.1) parts here.2))
      ]
      | inr (n, front, after, more, split, field, all, next) ↦ elim t [
        | inl there ↦
            absurd (field_or_stop kind n front after there.1 field (subst (λ (l : List ℕ). Stops kind l there.1) split there.2))
        | inr (m, begin, behind, further, parts, other, every, last) ↦
            let same = field_once kind n m front begin after behind (sym split ∙ parts) field other in
            let step : StopsWithinAt (index + 1) (start + length front) kinds further after x =
            subst (λ (l : List ℕ). StopsWithinAt (index + 1) (start + length l) kinds further after x) (sym same.1)
            (subst (λ (l : List ℕ). StopsWithinAt (index + 1) (start + length begin) kinds further l x) (sym same.2) last) in
            let again = stops_once (index + 1) (start + length front) kinds more further after w x next step in
            (all ∙ rw (same.0, same.1, again.0) (sym every), again.1)
      ]
    ]

-- The spans are in a row.
pub fields_in_row : (index start : ℕ) (kinds : List Kind) (spans : List Span) (bytes rest : List ℕ)
    → AreFieldsAt index start kinds spans bytes rest
    → (end : ℕ) × (end + length rest ≡ start + length bytes) × AreInRow start spans end × AreNumbered index spans
fields_in_row index start [] spans bytes rest s = (start, ap (λ (l : List ℕ). start + length l) (sym s.1), rw (s.0) refl, rw (s.0) tt)
fields_in_row index start (kind ∷ kinds) spans bytes rest (n, front, after, more, split, field, all, next) =
    let row = fields_in_row (index + 1) (start + length front) kinds more after rest next in
    (row.0, omega (arith, row.1, ap length split, length-append front after), rw (all) (refl, omega arith, row.2), rw (all) (refl, row.3))

-- ---- rules

number_rule_once : (any_width : Bool) (id : TransportParameterId) (n : ℕ) (bytes : List ℕ) (read w x : Walked)
    → NumberRule any_width id n bytes read w → NumberRule any_width id n bytes read x → w ≡ x
number_rule_once any_width id n bytes read w x s t =
    elim s [
      | inl long ↦ elim t [
        | inl other ↦ long.1 ∙ sym other.1
        | inr short ↦ absurd (long.0 short.0)
      ]
      | inr short ↦ elim t [
        | inl long ↦ absurd (long.0 short.0)
        | inr other ↦ elim short.1 [
          | inl out ↦ elim other.1 [
            | inl too ↦ out.1 ∙ sym too.1
            | inr within ↦ absurd (out.0 within.0)
          ]
          | inr within ↦ elim other.1 [
            | inl out ↦ absurd (out.0 within.0)
            | inr too ↦ within.1 ∙ sym too.1
          ]
        ]
      ]
    ]

numbers_once : (any_width : Bool) (id : TransportParameterId) (bytes : List ℕ) (read w x : Walked)
    → WholeRule any_width id S.Number bytes read w → WholeRule any_width id S.Number bytes read x → w ≡ x
numbers_once any_width id bytes read w x s t =
    let same = (encodes_unique s.0 t.0 bytes bytes [] [] refl s.1 t.1).0 in
    number_rule_once any_width id t.0 bytes read w x
    (subst (λ (n : ℕ). NumberRule any_width id n bytes read w) same s.2) t.2

whole_rule_once : (any_width : Bool) (id : TransportParameterId) (sort : Sort) (bytes : List ℕ) (read w x : Walked)
    → WholeRule any_width id sort bytes read w → WholeRule any_width id sort bytes read x → w ≡ x
whole_rule_once any_width id S.Number bytes read w x s t = numbers_once any_width id bytes read w x s t
whole_rule_once any_width id S.Address bytes read w x s t =
    elim s [
      | inl empty ↦ elim t [
        | inl other ↦ empty.1 ∙ sym other.1
        | inr some ↦ absurd (some.0 empty.0)
      ]
      | inr some ↦ elim t [
        | inl empty ↦ absurd (some.0 empty.0)
        | inr other ↦ some.1 ∙ sym other.1
      ]
    ]
whole_rule_once any_width id S.Flag bytes read w x s t = s ∙ sym t
whole_rule_once any_width id S.Token bytes read w x s t = s ∙ sym t
whole_rule_once any_width id S.Id bytes read w x s t = s ∙ sym t
whole_rule_once any_width id S.Any bytes read w x s t = s ∙ sym t

rule_once : (any_width : Bool) (id : TransportParameterId) (sort : Sort) (bytes rest : List ℕ) (read w x : Walked)
    → Rule any_width id sort bytes rest read w → Rule any_width id sort bytes rest read x → w ≡ x
rule_once any_width id sort bytes rest read w x s t =
    elim s [
      | inl nowhere ↦ elim t [
        | inl other ↦ nowhere.2 ∙ sym other.2
        | inr somewhere ↦ absurd (somewhere.0 (nowhere.0, nowhere.1))
      ]
      | inr somewhere ↦ elim t [
        | inl nowhere ↦ absurd (somewhere.0 (nowhere.0, nowhere.1))
        | inr other ↦ elim somewhere.1 [
          | inl left ↦ elim other.1 [
            | inl too ↦ left.1 ∙ sym too.1
            | inr none ↦ absurd (left.0 none.0)
          ]
          | inr none ↦ elim other.1 [
            | inl left ↦ absurd (left.0 none.0)
            | inr too ↦ whole_rule_once any_width id sort bytes read w x none.1 too.1
          ]
        ]
      ]
    ]

rule_in_once : (any_width : Bool) (found : Option TransportParameterId) (bytes rest : List ℕ) (read w x : Walked)
    → RuleIn any_width found bytes rest read w → RuleIn any_width found bytes rest read x → w ≡ x
rule_in_once any_width None bytes rest read w x s t = s ∙ sym t
rule_in_once any_width (Some id) bytes rest read w x s t =
    rule_once any_width id (sort_of id) bytes rest read w x s t

-- ---- a value

pub read_once : (any_width : Bool) (found : Option TransportParameterId) (bytes : List ℕ) (spans others : List Span)
    (w x : Walked) → IsRead any_width found bytes spans w → IsRead any_width found bytes others x
    → (spans ≡ others) × (w ≡ x)
read_once any_width found bytes spans others w x s t =
    let kinds = fields_of (sort_in found) in
    elim s [
      | inl stops ↦ elim t [
        | inl other ↦ stops_once 0 0 kinds spans others bytes w x stops other
        | inr (rest, end, fields, _, _) ↦ absurd (fields_or_stop 0 0 kinds others spans bytes rest w fields stops)
      ]
      | inr (rest, end, fields, width, rule) ↦ elim t [
        | inl stops ↦ absurd (fields_or_stop 0 0 kinds spans others bytes rest x fields stops)
        | inr (left, last, more, wide, other) ↦
            let same = fields_once 0 0 kinds spans others bytes rest left fields more in
            let ends : end ≡ last = omega (arith, width, wide, ap length same.1) in
            let again : RuleIn any_width found bytes left (whole (length others) last) w = rw (← same.0, ← same.1, ← ends) rule in
            (same.0, rule_in_once any_width found bytes left (whole (length others) last) w x again other)
      ]
    ]
