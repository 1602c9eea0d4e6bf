-- At which entry a list is rejected.
use Rattle.std.proofs.Common.{◌≡◌, ◌≢◌, ℕ, ◌-◌, List, [], ◌∷◌, ◌++◌, length, take, drop, reverse, Option, Some, None, Result, Ok, Err, refl, sym, ◌∙◌, ap, subst, arith, inl, inr, append_assoc, length-append}
use mathlib.Core.List.{reverse_aux}
use Rattle.std.specs.Prelude.{◌⊎◌, MatchOption}
use Rattle.std.proofs.lemmas.List.{append-nil, take-append-drop, length-take}
use Rattle.quic_base.specs.Codec.{Takes, NoFront}
use Rattle.quic_base.specs.Varint.{Encodes}
use Rattle.quic_base.specs.declared.ids.Side.{Side}
use Rattle.quic_base.proofs.PublicLaws.{encodes_unique, same_back}
use Rattle.quic_params.specs.declared.error.Error.{Error}
use Rattle.quic_params.specs.declared.error.Refusal.{Refusal}
use Rattle.quic_params.specs.declared.options.ReadOptions.{ReadOptions}
use Rattle.quic_params.specs.declared.parameter.TransportParameterId.{TransportParameterId}
use Rattle.quic_params.specs.declared.record.TransportParameters.{TransportParameters}
use Rattle.quic_params.specs.Answer.{rules}
use Rattle.quic_params.specs.Entry.{Entry, IsEntry, IsCutEntry}
use Rattle.quic_params.specs.Further.{AreInOrder, HasEntryNumber}
use Rattle.quic_params.specs.Meaning.{IsMeant, IsValid}
use Rattle.quic_params.specs.Refusal.{IsNumberAt, IsLastEntry, IsRefusedFrom, IsRefusedEntry, IsRefusedRecord, IsPlacedAnswer, first_broken}
use Rattle.quic_params.specs.Table.{row_of}
use Rattle.quic_params.proofs.Entries.{entry_unique}
use Rattle.quic_params.proofs.Further.{in_order_once, in_order_from, next}
use Rattle.quic_params.proofs.Records.{meant_once, meant_not_bad}
use Rattle.quic_params.proofs.Rules.{broken_entry, unbroken_valid}
use Rattle.quic_params.proofs.Runs.{bad_once}

-- ---- entries one after another

in_order_append : (es fs : List Entry) (a b : List ℕ) → AreInOrder es a → AreInOrder fs b → AreInOrder (es ++ fs) (a ++ b)
in_order_append [] fs a b p q = subst (AreInOrder fs) (ap (λ l. l ++ b) (sym p)) q
in_order_append (e ∷ es) fs a b p q = record {
  front = p.front;
  back = p.back ++ b;
  whole = ap (λ l. l ++ b) p.whole ∙ append_assoc p.front p.back b;
  first = p.first;
  second = in_order_append es fs p.back b p.second q;
}

has_append : (n : ℕ) (es fs : List Entry) → HasEntryNumber n (es ++ fs) → HasEntryNumber n es ⊎ HasEntryNumber n fs
has_append n [] fs h = inr h
has_append n (e ∷ es) fs (inl is) = inl (inl is)
has_append n (e ∷ es) fs (inr there) = elim (has_append n es fs there) [
  | inl l ↦ inl (inr l)
  | inr r ↦ inr r
]

has_behind : (n : ℕ) (es fs : List Entry) → HasEntryNumber n fs → HasEntryNumber n (es ++ fs)
has_behind n [] fs h = h
has_behind n (e ∷ es) fs h = inr (has_behind n es fs h)

-- entries of which the last comes first
has_reversed : (n : ℕ) (es fs : List Entry) → HasEntryNumber n es ⊎ HasEntryNumber n fs
    → HasEntryNumber n (reverse_aux es fs)
has_reversed n [] fs (inl h) = absurd h
has_reversed n [] fs (inr h) = h
has_reversed n (e ∷ es) fs (inl (inl is)) = has_reversed n es (e ∷ fs) (inr (inl is))
has_reversed n (e ∷ es) fs (inl (inr h)) = has_reversed n es (e ∷ fs) (inl h)
has_reversed n (e ∷ es) fs (inr h) = has_reversed n es (e ∷ fs) (inr (inr h))

-- the parameter of a broken rule is in the list
pub broken_there : (opt : ReadOptions) (side : Side) (p : TransportParameters) (b : List ℕ) (id : TransportParameterId)
    → IsMeant opt p b → first_broken (rules side p) ≡ Some id
    → (es : List Entry) × AreInOrder es b × HasEntryNumber (row_of id).number es
broken_there opt side p b id m e = (
  reverse m.entries,
  subst (AreInOrder (reverse m.entries)) (append-nil b) (in_order_from m.entries [] b [] m.list.encoded refl),
  has_reversed (row_of id).number m.entries [] (inl (broken_entry opt side p id m.entries m.given e m.list.gives m.is_record)),
)

-- ---- an entry that is rejected

rest_is : (n : ℕ) (b front rest : List ℕ) → b ≡ front ++ rest → n ≡ length front → drop n b ≡ rest
rest_is n b front rest w l =
    let fits : length (take n b) ≡ length front =
    omega (arith, length-take n b, l, ap length w, length-append front rest) in
    same_back (take n b) front (drop n b) rest fits (take-append-drop n b ∙ w)

left_of : (opt : ReadOptions) (b : List ℕ) (e : Error) (left : ℕ) → (r : IsRefusedFrom opt b e left)
    → length b - left ≡ length r.bad.parts.front
left_of opt b e left r =
    omega (arith, r.left_is, ap length r.bad.parts.whole, length-append r.bad.parts.front r.bad.parts.back)

pub refused_number : (opt : ReadOptions) (b mid : List ℕ) (e : Error) (left n : ℕ) → IsRefusedFrom opt b e left
    → Takes (Encodes n) (drop (length b - left) b) mid
    → IsRefusedEntry opt b (record { error = e; id = Some n; offset = length b - left })
refused_number opt b mid e left n r t =
    let at = left_of opt b e left r in
    record {
      bad = r.bad;
      offset_is = at;
      number_is = (
        mid,
        subst (λ (l : List ℕ). Takes (Encodes n) l mid) (rest_is (length b - left) b r.bad.parts.front r.bad.parts.back r.bad.parts.whole at) t,
      );
    }

pub refused_cut : (opt : ReadOptions) (b : List ℕ) (e : Error) (left : ℕ) → IsRefusedFrom opt b e left
    → ((n : ℕ) → NoFront (Encodes n) (drop (length b - left) b))
    → IsRefusedEntry opt b (record { error = e; id = None; offset = length b - left })
refused_cut opt b e left r cut =
    let at = left_of opt b e left r in
    record {
      bad = r.bad;
      offset_is = at;
      number_is = λ n. subst (NoFront (Encodes n)) (rest_is (length b - left) b r.bad.parts.front r.bad.parts.back r.bad.parts.whole at) (cut n);
    }

-- ---- the last entry of a number

-- entries were read, others are left, and the number is among these, or its last entry was found
pub record Search (n : ℕ) (list rest : List ℕ) (found : Option ℕ) : Type 0 where
  pub before : List Entry
  pub left : List Entry
  pub front : List ℕ
  pub whole : list ≡ front ++ rest
  pub begins : AreInOrder before front
  pub ends : AreInOrder left rest
  pub state : MatchOption found (HasEntryNumber n left) (λ offset. IsLastEntry n offset front)

pub search_none : (n : ℕ) (list : List ℕ) → (es : List Entry) × AreInOrder es list × HasEntryNumber n es
    → Search n list list None
search_none n list h =
    record { before = []; left = h.0; front = []; whole = refl; begins = refl; ends = h.1; state = h.2 }

abbrev at : ℕ → List ℕ → Entry
at m x = record { number = m; bytes = x }

one : (m : ℕ) (x b : List ℕ) → IsEntry m x b → AreInOrder (at m x ∷ []) b
one m x b e = record { front = b; back = []; whole = sym (append-nil b); first = e; second = refl }

passed : (n m : ℕ) (x : List ℕ) (list rest behind : List ℕ) (found other : Option ℕ) → (s : Search n list rest found)
    → (t : Takes (IsEntry m x) rest behind)
    → ((left : List Entry) → AreInOrder left behind
    → (HasEntryNumber n s.left → (m ≢ n) → HasEntryNumber n left)
    → MatchOption other (HasEntryNumber n left) (λ offset. IsLastEntry n offset (s.front ++ t.front)))
    → Search n list behind other
passed n m x list rest behind found other s t then =
    let f = next m x rest behind s.left t s.ends in
    record {
      before = s.before ++ (at m x ∷ []);
      left = f.others;
      front = s.front ++ t.front;
      whole = s.whole ∙ ap (λ l. s.front ++ l) t.split ∙ sym (append_assoc s.front t.front behind);
      begins = in_order_append s.before (at m x ∷ []) s.front t.front s.begins (one m x t.front t.is);
      ends = f.behind;
      state = then f.others f.behind (λ h ne. elim (subst (HasEntryNumber n) f.whole h) [
        | inl is ↦ absurd (ne (sym f.number ∙ is))
        | inr there ↦ there
      ]);
    }

pub search_found : (n m : ℕ) (x list rest behind : List ℕ) (found : Option ℕ) (offset : ℕ)
    → offset ≡ length list - length rest → m ≡ n → Takes (IsEntry m x) rest behind → Search n list rest found
    → Search n list behind (Some offset)
search_found n m x list rest behind found offset o e t s = passed n m x list rest behind found (Some offset) s t (λ left l h.
    record {
      before = s.before;
      entry = at m x;
      after = [];
      front = s.front;
      rest = t.front;
      whole = refl;
      offset_is = omega (arith, o, ap length s.whole, length-append s.front rest);
      begins = s.begins;
      ends = one m x t.front t.is;
      number_is = e;
      last = λ h. h;
    })

pub search_more : (n m : ℕ) (x list rest behind : List ℕ) (found : Option ℕ) → m ≢ n → Takes (IsEntry m x) rest behind
    → Search n list rest found → Search n list behind found
search_more n m x list rest behind None ne t s = passed n m x list rest behind None None s t (λ left l h. h s.state ne)
search_more n m x list rest behind (Some offset) ne t s =
    passed n m x list rest behind (Some offset) (Some offset) s t (λ left l h.
    let f = s.state in
    record {
      before = f.before;
      entry = f.entry;
      after = f.after ++ (at m x ∷ []);
      front = f.front;
      rest = f.rest ++ t.front;
      whole = ap (λ l. l ++ t.front) f.whole ∙ append_assoc f.front f.rest t.front;
      offset_is = f.offset_is;
      begins = f.begins;
      ends = in_order_append (f.entry ∷ f.after) (at m x ∷ []) f.rest t.front f.ends (one m x t.front t.is);
      number_is = f.number_is;
      last = λ h. elim (has_append n f.after (at m x ∷ []) h) [
        | inl there ↦ f.last there
        | inr (inl is) ↦ ne is
        | inr (inr none) ↦ none
      ];
    })

nothing_left : (b : List ℕ) (es : List Entry) → IsCutEntry b → AreInOrder es b → (es ≡ []) × (b ≡ [])
nothing_left b [] c h = (refl, h)
nothing_left b (e ∷ es) c h = absurd (c e.number e.bytes h.front h.back h.whole h.first)

pub search_end : (n : ℕ) (list rest : List ℕ) (offset : ℕ) → IsCutEntry rest → Search n list rest (Some offset)
    → IsLastEntry n offset list
search_end n list rest offset c s =
    let l : list ≡ s.front =
    s.whole ∙ ap (λ b. s.front ++ b) (nothing_left rest s.left c s.ends).1 ∙ append-nil s.front in
    subst (IsLastEntry n offset) (sym l) s.state

pub search_never : (n : ℕ) (list rest : List ℕ) → IsCutEntry rest → Search n list rest None → ⊥
search_never n list rest c s = subst (HasEntryNumber n) (nothing_left rest s.left c s.ends).0 s.state

-- ---- it is there once

split_once : (n : ℕ) (b c : List Entry) (d e : Entry) (x y : List Entry) → b ++ (d ∷ x) ≡ c ++ (e ∷ y)
    → d.number ≡ n → e.number ≡ n → ¬ (HasEntryNumber n x) → ¬ (HasEntryNumber n y) → b ≡ c
split_once n [] [] d e x y w p q s t = refl
split_once n [] (f ∷ c) d e x y w p q s t =
    let tail : c ++ (e ∷ y) ≡ x = cc in
    absurd (s (subst (HasEntryNumber n) tail (has_behind n c (e ∷ y) (inl q))))
split_once n (f ∷ b) [] d e x y w p q s t =
    let tail : b ++ (d ∷ x) ≡ y = cc in
    absurd (t (subst (HasEntryNumber n) tail (has_behind n b (d ∷ x) (inl p))))
split_once n (f ∷ b) (g ∷ c) d e x y w p q s t =
    let head : f ≡ g = cc in
    let tail : b ++ (d ∷ x) ≡ c ++ (e ∷ y) = cc in
    ap (λ l. f ∷ l) (split_once n b c d e x y tail p q s t) ∙ ap (λ (h : Entry). h ∷ c) head

front_once : (es : List Entry) (f g r s : List ℕ) → f ++ r ≡ g ++ s → AreInOrder es f → AreInOrder es g
    → length f ≡ length g
front_once [] f g r s w p q = ap length p ∙ sym (ap length q)
front_once (e ∷ es) f g r s w p q =
    let parts : p.front ++ (p.back ++ r) ≡ q.front ++ (q.back ++ s) =
    sym (append_assoc p.front p.back r) ∙ ap (λ l. l ++ r) (sym p.whole) ∙ w ∙ ap (λ l. l ++ s) q.whole
    ∙ append_assoc q.front q.back s in
    let u = entry_unique e.number e.number e.bytes e.bytes p.front q.front (p.back ++ r) (q.back ++ s) parts p.first q.first in
    let back = front_once es p.back q.back r s u.3 p.second q.second in
    omega (arith, ap length p.whole, ap length q.whole, length-append p.front p.back, length-append q.front q.back, ap length u.2, back)

last_once : (n m o : ℕ) (b : List ℕ) → IsLastEntry n m b → IsLastEntry n o b → m ≡ o
last_once n m o b p q =
    let all : AreInOrder (p.before ++ (p.entry ∷ p.after)) b =
    subst (AreInOrder (p.before ++ (p.entry ∷ p.after))) (sym p.whole)
    (in_order_append p.before (p.entry ∷ p.after) p.front p.rest p.begins p.ends) in
    let same : AreInOrder (q.before ++ (q.entry ∷ q.after)) b =
    subst (AreInOrder (q.before ++ (q.entry ∷ q.after))) (sym q.whole)
    (in_order_append q.before (q.entry ∷ q.after) q.front q.rest q.begins q.ends) in
    let before : q.before ≡ p.before =
    sym (split_once n p.before q.before p.entry q.entry p.after q.after (in_order_once _ _ b all same) p.number_is q.number_is p.last q.last) in
    p.offset_is ∙ front_once p.before p.front q.front p.rest q.rest (sym p.whole ∙ q.whole) p.begins
    (subst (λ (l : List Entry). AreInOrder l q.front) before q.begins) ∙ sym q.offset_is

-- ---- there is one result

number_at_once : (b : List ℕ) (x y : Option ℕ) → IsNumberAt b x → IsNumberAt b y → x ≡ y
number_at_once b None None p q = refl
number_at_once b None (Some n) p q = absurd (p n q.1.front q.0 q.1.split q.1.is)
number_at_once b (Some n) None p q = absurd (q n p.1.front p.0 p.1.split p.1.is)
number_at_once b (Some m) (Some n) p q =
    ap Some (encodes_unique m n p.1.front q.1.front p.0 q.0 (sym p.1.split ∙ q.1.split) p.1.is q.1.is).0

same_refusal : (x y : Refusal) → x.error ≡ y.error → x.id ≡ y.id → x.offset ≡ y.offset → x ≡ y
same_refusal x y e i o =
    ap (λ (v : Error). record { error = v; id = x.id; offset = x.offset }) e
    ∙ ap (λ (v : Option ℕ). record { error = y.error; id = v; offset = x.offset }) i
    ∙ ap (λ (v : ℕ). record { error = y.error; id = y.id; offset = v }) o

entry_refused_once : (opt : ReadOptions) (b : List ℕ) (x y : Refusal) → IsRefusedEntry opt b x → IsRefusedEntry opt b y
    → x ≡ y
entry_refused_once opt b x y p q =
    let u = bad_once opt b x.error y.error p.bad q.bad in
    let l : length p.bad.parts.front ≡ length q.bad.parts.front =
    omega (arith, ap length p.bad.parts.whole, ap length q.bad.parts.whole, length-append p.bad.parts.front p.bad.parts.back, length-append q.bad.parts.front q.bad.parts.back, u.1) in
    let rest : q.bad.parts.back ≡ p.bad.parts.back =
    same_back q.bad.parts.front p.bad.parts.front q.bad.parts.back p.bad.parts.back (sym l) (sym q.bad.parts.whole ∙ p.bad.parts.whole) in
    same_refusal x y u.0
    (number_at_once p.bad.parts.back x.id y.id p.number_is (subst (λ (r : List ℕ). IsNumberAt r y.id) rest q.number_is))
    (p.offset_is ∙ l ∙ sym q.offset_is)

some_same : (i j : TransportParameterId) → Some i ≡ Some j → i ≡ j
some_same i j e = cc

record_refused_once : (opt : ReadOptions) (side : Side) (b : List ℕ) (x y : Refusal) → IsRefusedRecord opt side b x
    → IsRefusedRecord opt side b y → x ≡ y
record_refused_once opt side b x y p q =
    let same : q.params ≡ p.params = meant_once opt b q.params p.params q.meant p.meant in
    let id : q.id ≡ p.id =
    some_same q.id p.id (sym q.broken ∙ ap (λ (r : TransportParameters). first_broken (rules side r)) same ∙ p.broken) in
    let entry : IsLastEntry (row_of p.id).number y.offset b =
    subst (λ (i : TransportParameterId). IsLastEntry (row_of i).number y.offset b) id q.entry in
    same_refusal x y (p.error_is ∙ sym q.error_is)
    (p.number_is ∙ ap (λ (i : TransportParameterId). Some (row_of i).number) (sym id) ∙ sym q.number_is)
    (last_once (row_of p.id).number x.offset y.offset b p.entry entry)

valid_unrefused : (opt : ReadOptions) (side : Side) (b : List ℕ) (p : TransportParameters) (x : Refusal)
    → IsMeant opt p b → IsValid side p → IsRefusedRecord opt side b x → ⊥
valid_unrefused opt side b p x m v r =
    let same : p ≡ r.params = meant_once opt b p r.params m r.meant in
    let none : first_broken (rules side r.params) ≡ None =
    unbroken_valid side r.params (subst (IsValid side) same v) in
    let both : None ≡ Some r.id = sym none ∙ r.broken in absurd cc

pub placed_once : (opt : ReadOptions) (side : Side) (b : List ℕ) (x y : Result TransportParameters Refusal)
    → IsPlacedAnswer opt side b x → IsPlacedAnswer opt side b y → x ≡ y
placed_once opt side b (Ok p) (Ok q) r s = ap Ok (meant_once opt b p q r.0 s.0)
placed_once opt side b (Ok p) (Err x) r (inl s) = absurd (meant_not_bad opt b p x.error r.0 s.bad)
placed_once opt side b (Ok p) (Err x) r (inr s) = absurd (valid_unrefused opt side b p x r.0 r.1 s)
placed_once opt side b (Err x) (Ok q) (inl r) s = absurd (meant_not_bad opt b q x.error s.0 r.bad)
placed_once opt side b (Err x) (Ok q) (inr r) s = absurd (valid_unrefused opt side b q x s.0 s.1 r)
placed_once opt side b (Err x) (Err y) (inl r) (inl s) = ap Err (entry_refused_once opt b x y r s)
placed_once opt side b (Err x) (Err y) (inl r) (inr s) = absurd (meant_not_bad opt b s.params x.error s.meant r.bad)
placed_once opt side b (Err x) (Err y) (inr r) (inl s) = absurd (meant_not_bad opt b r.params y.error r.meant s.bad)
placed_once opt side b (Err x) (Err y) (inr r) (inr s) = ap Err (record_refused_once opt side b x y r s)
