-- Further entries of a list, and orders.
use Rattle.std.proofs.Common.{◌≡◌, ◌≢◌, ℕ, zero, suc, ◌+◌, ◌<◌, ◌≤◌, ◌^◌, true, false, List, [], ◌∷◌, length, drop, drop-cons, get_or, refl, sym, ◌∙◌, ap, subst, arith, inl, inr}
use Rattle.std.specs.Prelude.{MatchOption, Option, None, Some, is_some}
use Rattle.std.proofs.lemmas.Bool.{false≢true}
use Rattle.std.proofs.lemmas.List.{length-drop}
use Rattle.quic_base.specs.Codec.{Takes}
use Rattle.quic_base.proofs.PublicLaws.{encoded_bound}
use Rattle.quic_params.specs.declared.parameter.TransportParameterId.{TransportParameterId}
use Rattle.quic_params.specs.Entry.{Entry, IsEntry, IsCutEntry, IsKnownParameter}
use Rattle.quic_params.specs.Further.{AreInOrder, AreOthers, HasEntryNumber, IsOther, IsOrderOf, upward, asked}
use Rattle.quic_params.specs.Table.{parameter_count}
use Rattle.quic_params.proofs.ReadBack.{get_upward}
use Rattle.quic_params.proofs.Further.{next, order_within}
use Rattle.quic_c_params.specs.Lists.{any_entry, IsFurther}

-- ---- the entry at the front

abbrev pub taken : ℕ → List ℕ → Entry
taken n x = record { number = n; bytes = x }

pub begins : (n : ℕ) (x b r : List ℕ) (es : List Entry) → Takes (IsEntry n x) b r → AreInOrder es r
    → AreInOrder (taken n x ∷ es) b
begins n x b r es t h = record { front = t.front; back = r; whole = t.split; first = t.is; second = h }

-- no entry is there if one is cut off
pub none_cut : (b : List ℕ) (es : List Entry) → IsCutEntry b → AreInOrder es b → es ≡ []
none_cut b [] c h = refl
none_cut b (e ∷ es) c h = absurd (c e.number e.bytes h.front h.back h.whole h.first)

nothing_left : (b : List ℕ) (es : List Entry) → es ≡ [] → AreInOrder es b → b ≡ []
nothing_left b es e h = subst (λ (l : List Entry). AreInOrder l b) e h

-- ---- a number among entries

abbrev pub SoFar : ℕ → List ℕ → List ℕ → Type 0
SoFar n list rest =
    (es : List Entry) → AreInOrder es list → (left : List Entry) × AreInOrder left rest
    × (HasEntryNumber n es → HasEntryNumber n left) × (HasEntryNumber n left → HasEntryNumber n es)

has_next : (n : ℕ) (left others : List Entry) (first : Entry) → left ≡ first ∷ others → first.number ≢ n
    → HasEntryNumber n left → HasEntryNumber n others
has_next n left others first e ne h = elim (subst (HasEntryNumber n) e h) [
  | inl is ↦ absurd (ne is)
  | inr o ↦ o
]

pub so_far_more : (n m : ℕ) (x list rest behind : List ℕ) → m ≢ n → Takes (IsEntry m x) rest behind → SoFar n list rest
    → SoFar n list behind
so_far_more n m x list rest behind ne t s es h =
    let a = s es h in
    let f = next m x rest behind a.0 t a.1 in (
      f.others,
      f.behind,
      λ has. has_next n a.0 f.others f.first f.whole (λ e. ne (sym f.number ∙ e)) (a.2 has),
      λ has. a.3 (subst (HasEntryNumber n) (sym f.whole) (inr has)),
    )

pub so_far_here : (n m : ℕ) (x list rest behind : List ℕ) → m ≡ n → Takes (IsEntry m x) rest behind → SoFar n list rest
    → (es : List Entry) → AreInOrder es list → HasEntryNumber n es
so_far_here n m x list rest behind e t s es h =
    let a = s es h in
    let f = next m x rest behind a.0 t a.1 in
    a.3 (subst (HasEntryNumber n) (sym f.whole) (inl (f.number ∙ e)))

pub so_far_end : (n : ℕ) (list rest : List ℕ) → IsCutEntry rest → SoFar n list rest → (es : List Entry)
    → AreInOrder es list → HasEntryNumber n es → ⊥
so_far_end n list rest c s es h has =
    let a = s es h in
    subst (HasEntryNumber n) (none_cut rest a.0 c a.1) (a.2 has)

-- ---- counted entries

-- So many entries are counted, which may be among those of a record if those that are left may.
pub record Counted (list rest : List ℕ) (count : ℕ) : Type 0 where
  pub back : (left : List Entry) → AreInOrder left rest → AreOthers left → (es : List Entry) × AreInOrder es list
      × AreOthers es × (length es ≡ count + length left)
  pub on : (es : List Entry) → AreInOrder es list → AreOthers es → (left : List Entry) × AreInOrder left rest
      × AreOthers left × (length es ≡ count + length left)
  pub few : parameter_count + count ≤ 256

-- an entry that was read can be written
other_taken : (n : ℕ) (x b r : List ℕ) → Takes (IsEntry n x) b r
    → ((id : TransportParameterId) → ¬ (IsKnownParameter id n)) → IsOther (taken n x)
other_taken n x b r t u =
    record {
      numeric = (encoded_bound n t.is.front t.is.first).0;
      short = (encoded_bound (length x) t.is.second.front t.is.second.first).0;
      unknown = u;
    }

others_of : (es others : List Entry) (first : Entry) → es ≡ first ∷ others → AreOthers es → AreOthers (first ∷ others)
others_of es others first e h = subst AreOthers e h

pub counted_more : (list rest behind : List ℕ) (n : ℕ) (x : List ℕ) (count : ℕ) → Takes (IsEntry n x) rest behind
    → ((id : TransportParameterId) → ¬ (IsKnownParameter id n))
    → ((es : List Entry) → AreInOrder es behind → HasEntryNumber n es → ⊥) → parameter_count + count < 256
    → Counted list rest count → Counted list behind (count + 1)
counted_more list rest behind n x count t u once lt c = record {
  back = λ left h o.
      let a =
      c.back (taken n x ∷ left) (begins n x rest behind left t h) (other_taken n x rest behind t u, once left h, o) in
      (a.0, a.1, a.2, a.3 ∙ omega arith);
  on = λ es h o.
      let a = c.on es h o in
      let f = next n x rest behind a.0 t a.1 in (
        f.others,
        f.behind,
        (others_of a.0 f.others f.first f.whole a.2).2,
        a.3 ∙ ap (λ (l : List Entry). count + length l) f.whole ∙ omega arith,
      );
  few = omega (arith, lt);
}

pub counted_all : (list rest : List ℕ) (count : ℕ) → rest ≡ [] → length list < 2 ^ 40 → Counted list rest count
    → (es : List Entry) × IsFurther es list × (length es ≡ count)
counted_all list rest count e lt c =
    let a = c.back [] e tt in
    (a.0, record { encoded = a.1; others = a.2; few = omega (arith, a.3, c.few); short = lt }, a.3 ∙ omega arith)

-- what was found
known_there : (n : ℕ) (r : Option TransportParameterId) → is_some r ≡ true
    → MatchOption r ((id : TransportParameterId) → ¬ (IsKnownParameter id n)) (λ id. IsKnownParameter id n)
    → (id : TransportParameterId) × IsKnownParameter id n
known_there n (Some id) e h = (id, h)
known_there n None e h = absurd (false≢true e)

pub unknown_there : (n : ℕ) (r : Option TransportParameterId) → is_some r ≡ false
    → MatchOption r ((id : TransportParameterId) → ¬ (IsKnownParameter id n)) (λ id. IsKnownParameter id n)
    → (id : TransportParameterId) → ¬ (IsKnownParameter id n)
unknown_there n (Some id) e h = absurd (false≢true (sym e))
unknown_there n None e h = h

-- what rejects a list
pub cut_off : (list rest : List ℕ) (count : ℕ) → IsCutEntry rest → rest ≢ [] → Counted list rest count
    → (es : List Entry) → IsFurther es list → ⊥
cut_off list rest count cut some c es f =
    let a = c.on es f.encoded f.others in
    some (nothing_left rest a.0 (none_cut rest a.0 cut a.1) a.1)

pub too_many : (list rest behind : List ℕ) (n : ℕ) (x : List ℕ) (count : ℕ) → Takes (IsEntry n x) rest behind
    → parameter_count + count ≡ 256 → Counted list rest count → (es : List Entry) → IsFurther es list → ⊥
too_many list rest behind n x count t full c es f =
    let a = c.on es f.encoded f.others in
    let g = next n x rest behind a.0 t a.1 in
    omega (arith, f.few, a.3, ap length g.whole, full)

pub known_one : (list rest behind : List ℕ) (n : ℕ) (x : List ℕ) (count : ℕ) (r : Option TransportParameterId)
    → Takes (IsEntry n x) rest behind → is_some r ≡ true
    → MatchOption r ((id : TransportParameterId) → ¬ (IsKnownParameter id n)) (λ id. IsKnownParameter id n)
    → Counted list rest count → (es : List Entry) → IsFurther es list → ⊥
known_one list rest behind n x count r t some m c es f =
    let k = known_there n r some m in
    let a = c.on es f.encoded f.others in
    let g = next n x rest behind a.0 t a.1 in
    (others_of a.0 g.others g.first g.whole a.2).0.unknown k.0 (subst (IsKnownParameter k.0) (sym g.number) k.1)

pub there_twice : (list rest behind : List ℕ) (n : ℕ) (x : List ℕ) (count : ℕ) → Takes (IsEntry n x) rest behind
    → ((es : List Entry) → AreInOrder es behind → HasEntryNumber n es) → Counted list rest count → (es : List Entry)
    → IsFurther es list → ⊥
there_twice list rest behind n x count t has c es f =
    let a = c.on es f.encoded f.others in
    let g = next n x rest behind a.0 t a.1 in
    (others_of a.0 g.others g.first g.whole a.2).1 (subst (λ (m : ℕ). HasEntryNumber m g.others) (sym g.number) (has g.others g.behind))

-- ---- the entry at an index

abbrev pub Passed : List ℕ → List ℕ → ℕ → Type 0
Passed list rest k = (es : List Entry) → AreInOrder es list → AreInOrder (drop k es) rest

-- an entry that is there
pub there : (list rest : List ℕ) (k : ℕ) (es : List Entry) → AreInOrder es list → k < length es → Passed list rest k
    → IsCutEntry rest → ⊥
there list rest k es h lt p c =
    let none : drop k es ≡ [] = none_cut rest (drop k es) c (p es h) in
    let some : drop k es ≡ get_or es k any_entry ∷ drop (suc k) es = drop-cons es k any_entry lt in
    omega (arith, ap length (sym none ∙ some))

same_others : (a b : Entry) (es fs : List Entry) → a ∷ es ≡ b ∷ fs → es ≡ fs
same_others a b es fs e = cc

same_first : (a b : Entry) (es fs : List Entry) → a ∷ es ≡ b ∷ fs → a ≡ b
same_first a b es fs e = cc

pub passed_more : (list rest behind : List ℕ) (k n : ℕ) (x : List ℕ) → Takes (IsEntry n x) rest behind
    → Passed list rest k → Passed list behind (k + 1)
passed_more list rest behind k n x t p es h =
    let f = next n x rest behind (drop k es) t (p es h) in
    let lt : k < length es = omega (arith, ap length f.whole, length-drop k es) in
    let same : drop (suc k) es ≡ f.others =
    same_others (get_or es k any_entry) f.first (drop (suc k) es) f.others (sym (drop-cons es k any_entry lt) ∙ f.whole) in
    let at : k + 1 ≡ suc k = omega arith in
    subst (λ (l : List Entry). AreInOrder l behind) (sym (ap (λ (m : ℕ). drop m es) at ∙ same)) f.behind

pub found : (list rest behind : List ℕ) (k n : ℕ) (x : List ℕ) → Takes (IsEntry n x) rest behind → Passed list rest k
    → (es : List Entry) → AreInOrder es list
    → (n ≡ (get_or es k any_entry).number) × (x ≡ (get_or es k any_entry).bytes)
found list rest behind k n x t p es h =
    let f = next n x rest behind (drop k es) t (p es h) in
    let lt : k < length es = omega (arith, ap length f.whole, length-drop k es) in
    let same : get_or es k any_entry ≡ f.first =
    same_first (get_or es k any_entry) f.first (drop (suc k) es) f.others (sym (drop-cons es k any_entry lt) ∙ f.whole) in
    (sym f.number ∙ ap (λ (e : Entry). e.number) (sym same), sym f.bytes ∙ ap (λ (e : Entry). e.bytes) (sym same))

-- ---- orders

upward_long : (k n : ℕ) → length (upward k n) ≡ n
upward_long k zero = refl
upward_long k (suc n) = ap suc (upward_long (suc k) n)

pub as_they_are : (n : ℕ) → IsOrderOf n (upward 0 n)
as_they_are n =
    record { width = upward_long 0 n; each = λ i lt. (i, omega (arith, upward_long 0 n, lt), get_upward 0 n i i lt ∙ omega arith) }

pub asked_none : (n : ℕ) (order : List ℕ) → length order ≡ 0 → asked n order ≡ upward 0 n
asked_none n [] e = refl
asked_none n (i ∷ order) e = absurd (omega (arith, e))

pub asked_some : (n : ℕ) (order : List ℕ) → length order ≢ 0 → asked n order ≡ order
asked_some n [] e = absurd (e refl)
asked_some n (i ∷ order) e = refl

pub asked_at : (n : ℕ) (order : List ℕ) (k : ℕ) → length order ≡ 0 → k < n → k ≡ get_or (asked n order) k 0
asked_at n order k e lt =
    omega (arith, get_upward 0 n k 0 lt) ∙ ap (λ (l : List ℕ). get_or l k 0) (sym (asked_none n order e))

pub below_all : (n : ℕ) (order : List ℕ) (k : ℕ) → IsOrderOf n order → k < n → get_or order k 0 < n
below_all n order k h lt = order_within n order h k 0 (omega (arith, h.width, lt))
