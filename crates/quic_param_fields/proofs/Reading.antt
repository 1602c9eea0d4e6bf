-- What the code reads is what the definitions say.
use Rattle.std.specs.Prelude.{nat_eq, IfSome, slice_set}
use Rattle.std.proofs.Common.{◌≡◌, ℕ, zero, suc, ◌+◌, ◌-◌, ◌≤◌, ◌<◌, Bool, true, List, [], ◌∷◌, ◌++◌, length, take, drop, get_or, Option, Some, None, refl, sym, ap, subst, ◌∙◌, length-append, length-take, take-append-drop, arith, inl, inr}
use Rattle.std.proofs.lemmas.Bool.{eqb-true}
use Rattle.std.proofs.lemmas.List.{take_rest}
use Rattle.quic_base.specs.Codec.{Takes}
use Rattle.quic_base.specs.ConnectionId.{IsLongId}
use Rattle.quic_base.specs.Number.{AreBytes}
use Rattle.quic_base.proofs.PublicLaws.{front_bytes}
use Rattle.quic_fields.specs.declared.field.Span.{Span}
use Rattle.quic_fields.specs.Walk.{stored}
use Rattle.quic_params.specs.Entry.{IsKnownParameter}
use Rattle.quic_params.specs.declared.parameter.TransportParameterId.{TransportParameterId}
use Rattle.quic_param_fields.specs.declared.row.Kind.{Kind}
use Rattle.quic_param_fields.specs.declared.row.Kind.TheVariants as K
use Rattle.quic_param_fields.specs.declared.row.Sort.{Sort}
use Rattle.quic_param_fields.specs.declared.row.Sort.TheVariants as S
use Rattle.quic_param_fields.specs.declared.field.Reason.{Reason}
use Rattle.quic_param_fields.specs.declared.field.Walked.{Walked}
use Rattle.quic_param_fields.specs.Rows.{sort_of, fields_of}
use Rattle.quic_param_fields.specs.Fields.{IsField, AreFieldsAt, StopsWithinAt, HasFields, StopsIn, fault_at, span, stop, whole}
use Rattle.quic_param_fields.specs.Values.{HasEmptyId, WholeRule, Rule, IsRead, Finds, HasValue, LacksValue}

-- ---- fields

split_at : (n : ℕ) (b : List ℕ) → b ≡ take n b ++ take (length b - n) (drop n b)
split_at n b = sym (take-append-drop n b) ∙ ap (λ (l : List ℕ). take n b ++ l) (sym (take_rest b n))

pub token_taken : (b : List ℕ) → 16 ≤ length b
    → Takes (λ (front : List ℕ). IsField K.Bytes16 16 front []) b (take (length b - 16) (drop 16 b))
token_taken b le =
    record { front = take 16 b; split = split_at 16 b; is = (omega (arith, length-take 16 b, le), refl) }

pub id_taken : (b rest : List ℕ) (n m : ℕ) → b ≡ n ∷ rest → AreBytes b → m ≡ n → m ≤ 20 → m ≤ length rest
    → Takes (λ (front : List ℕ). (id : List ℕ) × IsLongId id front × (m ≡ length id)) b
    (take (length rest - m) (drop m rest))
id_taken b rest n m e fits same short le =
    let width : length (take m rest) ≡ m = omega (arith, length-take m rest, le) in
    let all : AreBytes (n ∷ rest) = subst AreBytes e fits in
    record {
      front = m ∷ take m rest;
      split = e ∙ rw (same) (ap (λ (l : List ℕ). n ∷ l) (split_at n rest));
      is = (
        take m rest,
        record {
          bytes = front_bytes (take m rest) (drop m rest)
              (subst AreBytes (sym (take-append-drop m rest)) (λ i. all (suc i)));
          short = omega (arith, width, short);
          value = ap (λ (k : ℕ). k ∷ take m rest) (sym width);
        },
        sym width,
      );
    }

-- ---- rows

pub fields_more : (index start : ℕ) (kind : Kind) (kinds : List Kind) (n : ℕ) (bytes rest : List ℕ) (width : ℕ)
    (old mid new : List Span) (w : Walked)
    → Takes (λ (front : List ℕ). IsField kind n front rest) bytes rest → width ≡ length bytes - length rest
    → mid ≡ slice_set old index (record { field = index; start = start; end = start + width; number = n })
    → HasFields (index + 1) (start + width) kinds rest mid new w → HasFields index start (kind ∷ kinds) bytes old new w
fields_more index start kind kinds n bytes rest width old mid new w t wide put more =
    let l : length bytes ≡ length t.front + length rest = ap length t.split ∙ length-append t.front rest in
    let same : width ≡ length t.front = omega (arith, wide, l) in
    record {
      spans = span index start n (length t.front) ∷ more.spans;
      rest = more.rest;
      fields = (
        n,
        t.front,
        rest,
        more.spans,
        t.split,
        t.is,
        refl,
        subst (λ (k : ℕ). AreFieldsAt (index + 1) (start + k) kinds more.spans rest more.rest) same more.fields,
      );
      room = more.room ∙ rw (put, same) refl;
      all = more.all ∙ ap (λ (k : ℕ). whole k w.end) (omega arith);
      stop = omega (arith, more.stop, l, same);
    }

pub stops_more : (index start : ℕ) (kind : Kind) (kinds : List Kind) (n : ℕ) (bytes rest : List ℕ) (width : ℕ)
    (old mid new : List Span) (w : Walked)
    → Takes (λ (front : List ℕ). IsField kind n front rest) bytes rest → width ≡ length bytes - length rest
    → mid ≡ slice_set old index (record { field = index; start = start; end = start + width; number = n })
    → StopsIn (index + 1) (start + width) kinds rest mid new w → StopsIn index start (kind ∷ kinds) bytes old new w
stops_more index start kind kinds n bytes rest width old mid new w t wide put more =
    let l : length bytes ≡ length t.front + length rest = ap length t.split ∙ length-append t.front rest in
    let same : width ≡ length t.front = omega (arith, wide, l) in
    record {
      spans = span index start n (length t.front) ∷ more.spans;
      stops = inr (
        n,
        t.front,
        rest,
        more.spans,
        t.split,
        t.is,
        refl,
        subst (λ (k : ℕ). StopsWithinAt (index + 1) (start + k) kinds more.spans rest w) same more.stops,
      );
      room = more.room ∙ rw (put, same) refl;
    }

pub stops_if : (index start other begin : ℕ) (kind : Kind) (kinds : List Kind) (bytes rest : List ℕ) (old mid new : List Span)
    (w : Walked) (f : Option Reason)
    → (StopsIn other begin kinds rest mid new w → StopsIn index start (kind ∷ kinds) bytes old new w)
    → IfSome f (λ (reason : Reason). StopsIn other begin kinds rest mid new w)
    → IfSome f (λ (reason : Reason). StopsIn index start (kind ∷ kinds) bytes old new w)
stops_if index start other begin kind kinds bytes rest old mid new w None step h = tt
stops_if index start other begin kind kinds bytes rest old mid new w (Some reason) step h = step h

-- ---- the byte at 24

nth_split : (k : ℕ) (b : List ℕ) → k < length b
    → (front back : List ℕ) × (b ≡ front ++ (get_or b k 0 ∷ back)) × (length front ≡ k)
nth_split k [] lt = absurd (omega (arith, lt))
nth_split zero (x ∷ b) lt = ([], b, refl, refl)
nth_split (suc k) (x ∷ b) lt =
    let h = nth_split k b (omega (arith, lt)) in
    (x ∷ h.0, h.1, ap (λ (l : List ℕ). x ∷ l) h.2, ap suc h.3)

nth_of : (front back : List ℕ) (x : ℕ) → get_or (front ++ (x ∷ back)) (length front) 0 ≡ x
nth_of [] back x = refl
nth_of (y ∷ front) back x = nth_of front back x

pub empty_test : (b : List ℕ) → 24 < length b
    → (nat_eq (get_or b 24 0) 0 ≡ true → HasEmptyId b) × (HasEmptyId b → nat_eq (get_or b 24 0) 0 ≡ true)
empty_test b lt =
    let h = nth_split 24 b lt in (
      (λ t. (h.0, h.1, h.2 ∙ ap (λ (x : ℕ). h.0 ++ (x ∷ h.1)) (eqb-true (get_or b 24 0) 0 t), h.3)),
      (λ (front, back, e, l).
          let zero_there : get_or b 24 0 ≡ 0 = ap (λ (k : ℕ). get_or b k 0) (sym l)
          ∙ ap (λ (c : List ℕ). get_or c (length front) 0) e ∙ nth_of front back 0 in
          rw (zero_there) refl),
    )

-- ---- rules

-- nothing is at fault
Kept : List ℕ → Walked → Walked → Type 0
Kept rest read w = (rest ≡ []) × (w ≡ read)

not_none : (count end : ℕ) (reason : Reason) (w : Walked) → w ≡ fault_at count end (stop 0 0 reason) → w.fault ≡ None → ⊥
not_none count end reason w e none =
    let clash : Some reason ≡ None = ap (λ (v : Walked). v.fault) (sym e) ∙ none in absurd cc

whole_rule_kept : (any_width : Bool) (id : TransportParameterId) (sort : Sort) (bytes : List ℕ) (read w : Walked)
    → WholeRule any_width id sort bytes read w → w.fault ≡ None → w ≡ read
whole_rule_kept any_width id S.Number bytes read w (n, e, rule) none =
    elim rule [
      | inl long ↦ absurd (not_none 0 0 _ w long.1 none)
      | inr short ↦ elim short.1 [
        | inl out ↦ absurd (not_none 0 0 _ w out.1 none)
        | inr within ↦ within.1
      ]
    ]
whole_rule_kept any_width id S.Address bytes read w rule none =
    elim rule [
      | inl empty ↦ absurd (not_none 4 24 _ w empty.1 none)
      | inr some ↦ some.1
    ]
whole_rule_kept any_width id S.Flag bytes read w rule none = rule
whole_rule_kept any_width id S.Token bytes read w rule none = rule
whole_rule_kept any_width id S.Id bytes read w rule none = rule
whole_rule_kept any_width id S.Any bytes read w rule none = rule

pub rule_kept : (any_width : Bool) (id : TransportParameterId) (sort : Sort) (bytes rest : List ℕ) (read w : Walked)
    → Rule any_width id sort bytes rest read w → w.fault ≡ None → (rest ≡ []) × (w ≡ read)
rule_kept any_width id sort bytes rest read w rule none =
    elim rule [
      | inl nowhere ↦ absurd (not_none 2 6 _ w nowhere.2 none)
      | inr somewhere ↦ elim somewhere.1 [
        | inl left ↦ absurd (not_none read.count read.end _ w left.1 none)
        | inr all ↦ (all.0, whole_rule_kept any_width id sort bytes read w all.1 none)
      ]
    ]

-- ---- the call

-- how far they were read
here : {kinds : List Kind} {bytes : List ℕ} {old new : List Span} {read : Walked} → (h : HasFields 0 0 kinds bytes old new read)
    → read ≡ whole (length h.spans) read.end
here {kinds} {bytes} {old} {new} {read} h = h.all ∙ ap (λ (k : ℕ). whole k read.end) (omega arith)

-- the fields that were read, and the rules for them
read_of : (any_width : Bool) (id : TransportParameterId) (bytes : List ℕ) (old new : List Span) (read w : Walked)
    → (h : HasFields 0 0 (fields_of (sort_of id)) bytes old new read)
    → ((rest : List ℕ) → read.end + length rest ≡ length bytes → Rule any_width id (sort_of id) bytes rest read w)
    → IsRead any_width (Some id) bytes h.spans w
read_of any_width id bytes old new read w h rule =
    inr (
      h.rest,
      read.end,
      h.fields,
      omega (arith, h.stop),
      subst (λ (r : Walked). Rule any_width id (sort_of id) bytes h.rest r w) (here h) (rule h.rest (omega (arith, h.stop))),
    )

pub ruled_value : (any_width : Bool) (number : ℕ) (id : TransportParameterId) (kinds : List Kind) (bytes : List ℕ)
    (old new : List Span) (read w : Walked) → kinds ≡ fields_of (sort_of id) → IsKnownParameter id number
    → HasFields 0 0 kinds bytes old new read
    → ((rest : List ℕ) → read.end + length rest ≡ length bytes → Rule any_width id (sort_of id) bytes rest read w)
    → w.fault ≡ None
    → (found : Option TransportParameterId) × Finds number found × HasValue any_width found bytes old new w
ruled_value any_width number id kinds bytes old new read w row known has rule none =
    let h : HasFields 0 0 (fields_of (sort_of id)) bytes old new read =
    subst (λ (k : List Kind). HasFields 0 0 k bytes old new read) row has in
    let kept = rule_kept any_width id (sort_of id) bytes h.rest read w (rule h.rest (omega (arith, h.stop))) none in
    let end : read.end ≡ length bytes = omega (arith, h.stop, ap length kept.0) in
    let all : w ≡ whole (length h.spans) (length bytes) =
    kept.1 ∙ here h ∙ ap (λ (k : ℕ). whole (length h.spans) k) end in (
      Some id,
      known,
      record {
        spans = h.spans;
        value = subst (IsRead any_width (Some id) bytes h.spans) all (read_of any_width id bytes old new read w h rule);
        room = h.room;
        all = all;
      },
    )

refit : (w : Walked) (f : Option Reason) → w.fault ≡ f
    → w ≡ record { count = w.count; end = w.end; fault = f; inside = w.inside; numbers = w.numbers }
refit w f e = ap (λ (g : Option Reason).
    let v : Walked = record { count = w.count; end = w.end; fault = g; inside = w.inside; numbers = w.numbers } in v) e

lacking : (any_width : Bool) (found : Option TransportParameterId) (bytes : List ℕ) (old new : List Span) (w : Walked)
    (f : Option Reason) (spans : List Span) → w.fault ≡ f → IsRead any_width found bytes spans w → new ≡ stored 0 spans old
    → IfSome f (λ (reason : Reason). LacksValue any_width found bytes old new w reason)
lacking any_width found bytes old new w None spans e h room = tt
lacking any_width found bytes old new w (Some reason) spans e h room = record {
  spans = spans;
  no_value = subst (IsRead any_width found bytes spans) (refit w (Some reason) e) h;
  room = room;
}

found_if : (P : Option TransportParameterId → Reason → Type 0) (number : ℕ) (found : Option TransportParameterId)
    (f : Option Reason) → Finds number found → IfSome f (P found)
    → IfSome f (λ (reason : Reason). (it : Option TransportParameterId) × Finds number it × P it reason)
found_if P number found None known h = tt
found_if P number found (Some reason) known h = (found, known, h)

pub ruled_fault : (any_width : Bool) (number : ℕ) (id : TransportParameterId) (kinds : List Kind) (bytes : List ℕ)
    (old new : List Span) (read w : Walked) → kinds ≡ fields_of (sort_of id) → IsKnownParameter id number
    → HasFields 0 0 kinds bytes old new read
    → ((rest : List ℕ) → read.end + length rest ≡ length bytes → Rule any_width id (sort_of id) bytes rest read w)
    → IfSome w.fault (λ (reason : Reason).
    (found : Option TransportParameterId) × Finds number found × LacksValue any_width found bytes old new w reason)
ruled_fault any_width number id kinds bytes old new read w row known has rule =
    let h : HasFields 0 0 (fields_of (sort_of id)) bytes old new read =
    subst (λ (k : List Kind). HasFields 0 0 k bytes old new read) row has in
    found_if (λ found reason. LacksValue any_width found bytes old new w reason) number (Some id) w.fault known
    (lacking any_width (Some id) bytes old new w w.fault h.spans refl (read_of any_width id bytes old new read w h rule) h.room)
