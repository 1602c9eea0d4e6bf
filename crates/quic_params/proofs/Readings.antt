-- What one way of reading accepts, another accepts too.
use Rattle.std.proofs.Common.{◌≡◌, ℕ, ◌+◌, Bool, true, false, List, [], ◌∷◌, ◌++◌, length, Ok, Err, refl, sym, ◌∙◌, ap, subst, arith, inl, inr, append_assoc, length-append}
use Rattle.std.specs.Prelude.{◌⊎◌}
use Rattle.std.proofs.lemmas.List.{append-nil}
use Rattle.quic_base.specs.Varint.{Encodes}
use Rattle.quic_base.specs.declared.ids.Side.{Side}
use Rattle.quic_base.proofs.PublicLaws.{shortest_encodes}
use Rattle.quic_params.specs.declared.error.Error.TheVariants.{Malformed}
use Rattle.quic_params.specs.declared.options.ReadOptions.{ReadOptions}
use Rattle.quic_params.specs.declared.parameter.Kind.{Kind}
use Rattle.quic_params.specs.declared.parameter.Kind.TheVariants as K
use Rattle.quic_params.specs.declared.parameter.TransportParameterId.{TransportParameterId}
use Rattle.quic_params.specs.declared.record.TransportParameters.{TransportParameters}
use Rattle.quic_params.specs.declared.value.Value.{Value}
use Rattle.quic_params.specs.declared.value.Value.TheVariants as V
use Rattle.quic_params.specs.Options.{in_any_width, kind_read, reading}
use Rattle.quic_params.specs.Table.{row_of}
use Rattle.quic_params.specs.Value.{IsEncoded}
use Rattle.quic_params.specs.Entry.{Entry, Given, IsGiven, IsKnownParameter, IsRepeat, Passed, Taken, AreEntries, Give, IsBadList}
use Rattle.quic_params.specs.Meaning.{IsMeant, IsReadAnswer}
use Rattle.quic_params.proofs.Least.{strictest}
use Rattle.quic_params.proofs.Progress.{entry_some}
use Rattle.quic_params.proofs.ReadBack.{index_cases}
use Rattle.quic_params.proofs.Rows.{index_once}

-- ---- a reading that accepts more

give_more : (o q : ReadOptions)
    → ((k : Kind) (v : Value) (b : List ℕ) → IsEncoded (kind_read o k) v b → IsEncoded (kind_read q k) v b)
    → ((id : TransportParameterId) (before : List Given) → IsRepeat q id before → IsRepeat o id before)
    → (es : List Entry) (g : List Given) → Give o es g → Give q es g
give_more o q kinds repeats [] g h = h
give_more o q kinds repeats (e ∷ es) g h =
    let earlier = give_more o q kinds repeats es h.0 h.1 in
    elim h.2 [
      | Passed out same ↦ (h.0, earlier, Passed out same)
      | Taken i v k n s same ↦
          (h.0, earlier, Taken i v k (λ r. n (repeats i h.0 r)) (kinds (row_of i).kind v e.bytes s) same)
    ]

answer_more : (o q : ReadOptions) (side : Side) (b : List ℕ) (p : TransportParameters)
    → ((es : List Entry) (g : List Given) → Give o es g → Give q es g)
    → IsReadAnswer o side b (Ok p) → IsReadAnswer q side b (Ok p)
answer_more o q side b p more h =
    let m : IsMeant o p b = h.0 in (
      record {
        entries = m.entries;
        given = m.given;
        list = record { encoded = m.list.encoded; gives = more m.entries m.given m.list.gives };
        is_record = m.is_record;
      },
      h.1,
    )

-- the shortest width is one
wider : (k : Kind) (v : Value) (b : List ℕ) → IsEncoded k v b → IsEncoded (in_any_width k) v b
wider (K.Integer d) (V.Number n) b h = subst (Encodes n) (sym h.1) (shortest_encodes n h.0)
wider (K.Integer d) _ b h = absurd h
wider K.Varint v b h = h
wider K.Flag v b h = h
wider K.Token v b h = h
wider K.Id v b h = h
wider K.Address v b h = h
wider K.Skipped v b h = h

pub any_width_takes : (repeats : Bool) (side : Side) (b : List ℕ) (p : TransportParameters)
    → IsReadAnswer (reading false repeats) side b (Ok p) → IsReadAnswer (reading true repeats) side b (Ok p)
any_width_takes repeats side b p =
    answer_more (reading false repeats) (reading true repeats) side b p
    (give_more (reading false repeats) (reading true repeats) wider (λ id before r. r))

-- a list without repeats has no forbidden ones
pub repeats_taken : (width : Bool) (side : Side) (b : List ℕ) (p : TransportParameters)
    → IsReadAnswer (reading width true) side b (Ok p) → IsReadAnswer (reading width false) side b (Ok p)
repeats_taken width side b p =
    answer_more (reading width true) (reading width false) side b p
    (give_more (reading width true) (reading width false) (λ k v b h. h) (λ id before r. (refl, r.1)))

-- ---- a reading that accepts no repeats

given_cases : (id : TransportParameterId) (before : List Given) → IsGiven id before ⊎ ¬ (IsGiven id before)
given_cases id [] = inr (λ h. h)
given_cases id (last ∷ before) =
    elim (index_cases (row_of last.id).index (row_of id).index) [
      | inl same ↦ inl (inl (index_once last.id id same))
      | inr ne ↦ elim (given_cases id before) [
        | inl there ↦ inl (inr there)
        | inr none ↦ inr (λ h. elim h [
          | inl is ↦ ne (ap (λ (j : TransportParameterId). (row_of j).index) is)
          | inr there ↦ none there
        ])
      ]
    ]

bad_repeat : (width : Bool) (e : Entry) (es : List Entry) (g : List Given) (b rest : List ℕ) (i : TransportParameterId)
    (v : Value) → (a : AreEntries (e ∷ es) b) → Give (reading width true) es g
    → IsKnownParameter i e.number → IsGiven i g
    → IsBadList (reading width true) (b ++ rest) Malformed
bad_repeat width e es g b rest i v a gives k there = record {
  entries = es;
  given = g;
  parts = record {
    front = a.front;
    back = a.back ++ rest;
    whole = ap (λ l. l ++ rest) a.whole ∙ append_assoc a.front a.back rest;
    first = record { encoded = a.first; gives = gives };
    second = (
      λ n. let l : length a.back + length rest ≡ 0 = sym (length-append a.back rest) ∙ ap length n in
          omega (arith, l, entry_some e.number e.bytes a.back a.second),
      inr (record {
        entry = e;
        front = a.back;
        rest = rest;
        whole = refl;
        encoded = a.second;
        refused = record { id = i; known = k; cause = inl ((refl, there), refl) };
      }),
    );
  };
}

abbrev Repeats : Bool → List ℕ → Type 0
Repeats width b = (rest : List ℕ) → IsBadList (reading width true) (b ++ rest) Malformed

without_repeats : (width : Bool) (es : List Entry) (g : List Given) (b : List ℕ) → AreEntries es b
    → Give (reading width false) es g → Give (reading width true) es g ⊎ Repeats width b
without_repeats width [] g b a h = inl h
without_repeats width (e ∷ es) g b a h =
    elim (without_repeats width es h.0 a.front a.first h.1) [
      | inr bad ↦ inr (λ rest. subst (λ (l : List ℕ). IsBadList (reading width true) l Malformed)
          (sym (append_assoc a.front a.back rest) ∙ ap (λ l. l ++ rest) (sym a.whole)) (bad (a.back ++ rest)))
      | inl earlier ↦ elim h.2 [
        | Passed out same ↦ inl (h.0, earlier, Passed out same)
        | Taken i v k n s same ↦ elim (given_cases i h.0) [
          | inl there ↦ inr (λ rest. bad_repeat width e es h.0 b rest i v a earlier k there)
          | inr none ↦ inl (h.0, earlier, Taken i v k (λ r. none r.1) s same)
        ]
      ]
    ]

pub or_repeated : (width : Bool) (side : Side) (b : List ℕ) (p : TransportParameters)
    → IsReadAnswer (reading width false) side b (Ok p)
    → IsReadAnswer (reading width true) side b (Ok p) ⊎ IsReadAnswer (reading width true) side b (Err Malformed)
or_repeated width side b p h =
    let m : IsMeant (reading width false) p b = h.0 in
    elim (without_repeats width m.entries m.given b m.list.encoded m.list.gives) [
      | inl gives ↦ inl (
        record {
          entries = m.entries;
          given = m.given;
          list = record { encoded = m.list.encoded; gives = gives };
          is_record = m.is_record;
        },
        h.1,
      )
      | inr bad ↦ inr (inl (subst (λ (l : List ℕ). IsBadList (reading width true) l Malformed) (append-nil b) (bad [])))
    ]

-- ---- what each reading accepts

of_both : (width repeats : Bool) (side : Side) (b : List ℕ) (p : TransportParameters)
    → IsReadAnswer strictest side b (Ok p) → IsReadAnswer (reading width repeats) side b (Ok p)
of_both false true side b p h = h
of_both false false side b p h = repeats_taken false side b p h
of_both true true side b p h = any_width_takes true side b p h
of_both true false side b p h = repeats_taken true side b p (any_width_takes true side b p h)

pub each_takes : (opt : ReadOptions) (side : Side) (b : List ℕ) (p : TransportParameters)
    → IsReadAnswer strictest side b (Ok p) → IsReadAnswer opt side b (Ok p)
each_takes opt side b p h = of_both opt.any_width opt.no_repeats side b p h
