-- The rules that a side's records keep, and the parameter of one that is broken.
use Rattle.std.proofs.Common.{◌≡◌, ℕ, ◌*◌, ◌^◌, Bool, true, false, List, [], ◌∷◌, Option, Some, None, refl, sym, ◌∙◌, ap, subst, inl, inr}
use Rattle.std.specs.Option.{option_map}
use Rattle.std.specs.Prelude.{⊤, nat_le, nat_lt, ◌⊎◌, MatchBool}
use Rattle.quic_base.specs.declared.ids.Side.{Side}
use Rattle.quic_base.specs.declared.ids.Side.TheVariants.{Client, Server}
use Rattle.quic_params.specs.declared.options.ReadOptions.{ReadOptions}
use Rattle.quic_params.specs.declared.parameter.TransportParameterId.{TransportParameterId}
use Rattle.quic_params.specs.declared.record.TransportParameters.{TransportParameters}
use Rattle.quic_params.specs.declared.value.PreferredAddress.{PreferredAddress}
use Rattle.quic_params.specs.declared.value.Value.{Value}
use Rattle.quic_params.specs.declared.value.Value.TheVariants as V
use Rattle.quic_params.specs.Answer.{delay_at, address_at, absent_at, all_kept, rules, valid_at}
use Rattle.quic_params.specs.Entry.{Entry, Given, IsGiven, Passed, Taken, Give}
use Rattle.quic_params.specs.Further.{HasEntryNumber}
use Rattle.quic_params.specs.Meaning.{IsValid}
use Rattle.quic_params.specs.Record.{IsRecord, value_of, value_given}
use Rattle.quic_params.specs.Refusal.{first_broken}
use Rattle.quic_params.specs.Table.{row_of}
use Rattle.quic_params.specs.Value.{default_of}
use Rattle.quic_params.proofs.AnswerAsFunction.{valid_is}
use Rattle.quic_params.proofs.Entries.{given_other, given}
use Rattle.quic_params.proofs.ReadBack.{index_cases}
use Rattle.quic_params.proofs.Rows.{index_once, number_once}

abbrev Rules : Type 0
Rules = List (TransportParameterId × Bool)

-- ---- all are kept

kept_test : (t : Bool) (id : TransportParameterId) (others : Rules) → (all_kept others ≡ true → first_broken others ≡ None)
    → all_kept ((id, t) ∷ others) ≡ true → first_broken ((id, t) ∷ others) ≡ None
kept_test true id others h e = h e
kept_test false id others h e = absurd cc

kept_none : (all : Rules) → all_kept all ≡ true → first_broken all ≡ None
kept_none [] e = refl
kept_none ((id, t) ∷ others) e = kept_test t id others (kept_none others) e

truth : (t : Bool) (A : Type 0) → MatchBool t A (¬ A) → A → t ≡ true
truth true A m a = refl
truth false A m a = absurd (m a)

pub unbroken_valid : (side : Side) (p : TransportParameters) → IsValid side p → first_broken (rules side p) ≡ None
unbroken_valid side p v = kept_none (rules side p) (truth (valid_at side p) (IsValid side p) (valid_is side p) v)

-- ---- one is broken, whose parameter hasn't its default

abbrev HasDefault : TransportParameters → TransportParameterId → Type 0
HasDefault p id = value_of p id ≡ default_of (row_of id).kind

some_id : (i j : TransportParameterId) → Some i ≡ Some j → i ≡ j
some_id i j e = cc

one_broken : (p : TransportParameters) (t : Bool) (id j : TransportParameterId) (others : Rules)
    → (HasDefault p id → t ≡ true) → (first_broken others ≡ Some j → ¬ (HasDefault p j))
    → first_broken ((id, t) ∷ others) ≡ Some j → ¬ (HasDefault p j)
one_broken p true id j others d h e = h e
one_broken p false id j others d h e = λ v.
    let t : false ≡ true = d (subst (HasDefault p) (sym (some_id id j e)) v) in absurd cc

abbrev KeptByDefault : TransportParameters → Rules → Type 0
KeptByDefault p [] = ⊤
KeptByDefault p ((id, t) ∷ others) = (HasDefault p id → t ≡ true) × KeptByDefault p others

broken_of : (p : TransportParameters) (j : TransportParameterId) (all : Rules) → KeptByDefault p all
    → first_broken all ≡ Some j → ¬ (HasDefault p j)
broken_of p j [] h e = absurd cc
broken_of p j ((id, t) ∷ others) h e = one_broken p t id j others h.0 (broken_of p j others h.1) e

number_is : (m n : ℕ) → Some (V.Number m) ≡ Some (V.Number n) → m ≡ n
number_is m n e = cc

no_delay : (o : Option ℕ) (m : ℕ) → option_map V.Number o ≡ None → delay_at o m ≡ true
no_delay None m e = refl
no_delay (Some d) m e = absurd cc

no_address : (o : Option PreferredAddress) → option_map V.Address o ≡ None → address_at o ≡ true
no_address None e = refl
no_address (Some a) e = absurd cc

is_absent : {A : Type 0} (as_value : A → Value) (side : Side) (o : Option A) → option_map as_value o ≡ None
    → absent_at side o ≡ true
is_absent as_value Client o e = refl
is_absent as_value Server None e = refl
is_absent as_value Server (Some x) e = absurd cc

kept_by_default : (side : Side) (p : TransportParameters) → KeptByDefault p (rules side p)
kept_by_default side p = (λ e. ap (λ n. nat_le n 20) (number_is p.ack_delay_exponent 3 e), (λ e. ap (λ n. nat_lt n (2 ^ 14)) (number_is p.max_ack_delay 25 e), (λ e. ap (nat_le 2) (number_is p.active_connection_id_limit 2 e), (λ e. ap (nat_le 1200) (number_is p.max_udp_payload_size 65527 e), (λ e. ap (λ n. nat_le n (2 ^ 60)) (number_is p.initial_max_streams_bidi 0 e), (λ e. ap (λ n. nat_le n (2 ^ 60)) (number_is p.initial_max_streams_uni 0 e), (no_delay p.min_ack_delay (1000 * p.max_ack_delay), (no_address p.preferred_address, (is_absent V.Id side p.original_dst_cid, (is_absent V.Address side p.preferred_address, (is_absent V.Id side p.retry_src_cid, (is_absent V.Token side p.stateless_reset_token, tt))))))))))))

broken_set : (side : Side) (p : TransportParameters) (j : TransportParameterId) → first_broken (rules side p) ≡ Some j
    → ¬ (HasDefault p j)
broken_set side p j = broken_of p j (rules side p) (kept_by_default side p)

-- ---- and so was given

given_or_default : (id : TransportParameterId) (before : List Given)
    → IsGiven id before ⊎ (value_given before id ≡ default_of (row_of id).kind)
given_or_default id [] = inr refl
given_or_default id (last ∷ before) =
    elim (index_cases (row_of last.id).index (row_of id).index) [
      | inl same ↦ inl (inl (index_once last.id id same))
      | inr ne ↦ elim (given_or_default id before) [
        | inl there ↦ inl (inr there)
        | inr absent ↦ inr (given_other last.id id last.value before (λ e. ne (ap (λ (j : TransportParameterId). (row_of j).index) (number_once last.id id e)))
            ∙ absent)
      ]
    ]

given_entry : (opt : ReadOptions) (es : List Entry) (given : List Given) (id : TransportParameterId)
    → Give opt es given → IsGiven id given → HasEntryNumber (row_of id).number es
given_entry opt [] given id g h = subst (IsGiven id) g h
given_entry opt (e ∷ es) given id g h = elim g.2 [
  | Passed out same ↦ inr (given_entry opt es g.0 id g.1 (subst (IsGiven id) same h))
  | Taken i v k n s same ↦ elim (subst (IsGiven id) same h) [
    | inl is ↦ inl (sym k.number_is ∙ ap (λ (j : TransportParameterId). (row_of j).number) is)
    | inr there ↦ inr (given_entry opt es g.0 id g.1 there)
  ]
]

-- the parameter of a broken rule is among the entries
pub broken_entry : (opt : ReadOptions) (side : Side) (p : TransportParameters) (id : TransportParameterId) (es : List Entry)
    (given : List Given) → first_broken (rules side p) ≡ Some id → Give opt es given → IsRecord given p
    → HasEntryNumber (row_of id).number es
broken_entry opt side p id es given e g r = elim (given_or_default id given) [
  | inl there ↦ given_entry opt es given id g there
  | inr absent ↦ absurd (broken_set side p id e (r.values id ∙ absent))
]
