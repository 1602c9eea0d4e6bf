-- Lists of a record with further entries, and the entries of a list.
use Rattle.std.proofs.Common.{◌≡◌, ◌≢◌, ℕ, zero, suc, ◌+◌, ◌-◌, ◌<◌, ◌≤◌, Bool, true, false, cond, List, [], ◌∷◌, ◌++◌, length, get_or, map, reverse, Ok, refl, sym, ◌∙◌, ap, subst, arith, append_assoc, inl, inr}
use mathlib.Core.List.{reverse_aux, reverse-reverse}
use Rattle.std.specs.Prelude.{nat_lt, All}
use Rattle.std.specs.List.{flat_map, sum_by}
use Rattle.std.proofs.lemmas.List.{append-nil, get_or-map, get_or_append_left, get_or-append-add, length-append}
use Rattle.std.proofs.lemmas.List.Sorted.{sum_by-IsPermutation, All-permutation}
use Rattle.std.proofs.lemmas.List.Sums.{sum_by-cons}
use Rattle.std.proofs.lemmas.Bool.Decides.{nat_tests}
use Rattle.quic_base.specs.Codec.{Takes}
use Rattle.quic_base.specs.declared.ids.Side.{Side}
use Rattle.quic_params.specs.declared.parameter.TransportParameterId.{TransportParameterId}
use Rattle.quic_params.specs.declared.parameter.TransportParameterId.TheVariants.{MaxIdleTimeout}
use Rattle.quic_params.specs.declared.record.TransportParameters.{TransportParameters}
use Rattle.quic_params.specs.Options.{as_quinn}
use Rattle.quic_params.specs.Table.{ids, parameter_count}
use Rattle.quic_params.specs.Entry.{Entry, Given, IsEntry, IsGiven, Passed, AreEntries, Give}
use Rattle.quic_params.specs.Meaning.{IsMeant, IsReadAnswer}
use Rattle.quic_params.specs.Order.{id_of_index}
use Rattle.quic_params.specs.Range.{IsTypedRecord, IsRecordInRange, plain}
use Rattle.quic_params.specs.Writing.{shortest_entry, written_for}
use Rattle.quic_params.specs.Further.{AreInOrder, IsRecordOf, IsOther, AreOthers, encoded_entries, IsOrderOf}
use Rattle.quic_params.proofs.Entries.{entry_unique}
use Rattle.quic_params.proofs.Progress.{entry_some}
use Rattle.quic_params.proofs.Least.{is_entry, strictest}
use Rattle.quic_params.proofs.Orders.{downward, all_once, downward_below}
use Rattle.quic_params.proofs.ReadBack.{IsSound, Reads, add, at_itself, all_given, given_after, given_by, gives, is_at, plain_valid, reads_entry, reads_none, reads_parameter, sound_of, times}

-- ---- what is written at an index

abbrev pub encoded_at : TransportParameters → List Entry → ℕ → List ℕ
encoded_at p es i = get_or (encoded_entries p es) i []

abbrev bytes_of_entry : Entry → List ℕ
bytes_of_entry e = shortest_entry e.number e.bytes

pub encoded_row : (p : TransportParameters) (es : List Entry) (i : ℕ) → i < parameter_count
    → encoded_at p es i ≡ written_for p (id_of_index i)
encoded_row p es i lt =
    let w : List (List ℕ) = map (written_for p) ids in
    get_or_append_left w (map bytes_of_entry es) [] i lt ∙ get_or-map (written_for p) ids i MaxIdleTimeout [] lt

pub encoded_further : (p : TransportParameters) (es : List Entry) (j : ℕ) (d : Entry) → j < length es
    → encoded_at p es (parameter_count + j) ≡ bytes_of_entry (get_or es j d)
encoded_further p es j d lt =
    get_or-append-add (map (written_for p) ids) (map bytes_of_entry es) j [] ∙ get_or-map bytes_of_entry es j d [] lt

pub other_at : (es : List Entry) (j : ℕ) (d : Entry) → AreOthers es → j < length es → IsOther (get_or es j d)
other_at [] j d h lt = absurd (omega (arith, lt))
other_at (e ∷ es) zero d h lt = h.0
other_at (e ∷ es) (suc j) d h lt = other_at es j d h.2 (omega (arith, lt))

-- ---- the rows among the indices of an order

abbrev own : List ℕ → List ℕ
own [] = []
own (i ∷ os) = cond (nat_lt i parameter_count) (i ∷ own os) (own os)

-- how often the parameter is at an index, which may be that of a further entry
abbrev own_at : TransportParameterId → ℕ → ℕ
own_at id i = cond (nat_lt i parameter_count) (is_at id i) 0

times_cond : (id : TransportParameterId) (t : Bool) (i : ℕ) (os : List ℕ)
    → times id (cond t (i ∷ os) os) ≡ cond t (is_at id i) 0 + times id os
times_cond id true i os = refl
times_cond id false i os = omega arith

times_own : (id : TransportParameterId) (os : List ℕ) → times id (own os) ≡ sum_by (own_at id) os
times_own id [] = refl
times_own id (i ∷ os) =
    times_cond id (nat_lt i parameter_count) i (own os) ∙ ap (λ n. own_at id i + n) (times_own id os)
    ∙ sym (sum_by-cons (own_at id) i os)

not_below : (n : ℕ) → nat_lt (n + parameter_count) parameter_count ≡ false
not_below n = grind (arith, nat_tests)

own_downward : (id : TransportParameterId) → sum_by (own_at id) (downward parameter_count) ≡ 1
own_downward MaxIdleTimeout = refl
own_downward _ = refl

own_more : (id : TransportParameterId) (n : ℕ) → sum_by (own_at id) (downward (n + parameter_count)) ≡ 1
own_more id zero = own_downward id
own_more id (suc n) =
    let all = sum_by-cons (own_at id) (n + parameter_count) (downward (n + parameter_count)) in
    let none : own_at id (n + parameter_count) ≡ 0 =
    ap (λ t. cond t (is_at id (n + parameter_count)) 0) (not_below n) in
    let next : suc n + parameter_count ≡ suc (n + parameter_count) = omega arith in
    ap (λ (m : ℕ). sum_by (own_at id) (downward m)) next ∙ all ∙ omega (arith, none, own_more id n)

own_once : (n : ℕ) (order : List ℕ) → IsOrderOf (parameter_count + n) order → (id : TransportParameterId)
    → times id (own order) ≡ 1
own_once n order h id =
    let same : parameter_count + n ≡ n + parameter_count = omega arith in
    times_own id order
    ∙ sum_by-IsPermutation (own_at id) (downward (parameter_count + n)) order (all_once (parameter_count + n) order h.width h.each)
    ∙ ap (λ (m : ℕ). sum_by (own_at id) (downward m)) same ∙ own_more id n

pub order_within : (n : ℕ) (order : List ℕ) → IsOrderOf n order → All (λ x. x < n) order
order_within n order h =
    All-permutation (λ x. x < n) (downward n) order (all_once n order h.width h.each) (downward_below n n (omega arith))

-- ---- what is read of such a list

abbrev below : ℕ → List ℕ → Type 0
below n [] = Unit {0}
below n (i ∷ os) = (i < n) × below n os

all_below : (n : ℕ) (os : List ℕ) → All (λ x. x < n) os → below n os
all_below n [] h = tt
all_below n (i ∷ os) h = (h zero i (omega arith), all_below n os (λ k d lt. h (suc k) d (omega (arith, lt))))

-- what is given before the others of an order
abbrev Free : List ℕ → List Given → Type 0
Free os before = (id : TransportParameterId) → 1 ≤ times id os → IsGiven id before → ⊥

abbrev Once : List ℕ → Type 0
Once os = (id : TransportParameterId) → times id os ≤ 1

abbrev Then : TransportParameters → List Entry → List ℕ → List ℕ → Type 0
Then p es os mine =
    (before : List Given) (front : List ℕ) → Once mine → Free mine before → Reads before front
    → Reads (given_by p mine before) (front ++ flat_map (encoded_at p es) os)

reads_row : (p : TransportParameters) (es : List Entry) (i : ℕ) (os mine : List ℕ) → IsSound p → i < parameter_count
    → Then p es os mine → Then p es (i ∷ os) (i ∷ mine)
reads_row p es i os mine s lt rest before front once free r =
    let o : TransportParameterId = id_of_index i in
    let here : 1 ≤ times o (i ∷ mine) = omega (arith, at_itself i) in
    let x : Reads (add o (gives p o) before) (front ++ written_for p o) =
    reads_parameter p o before front s (free o here) r in
    let y : Reads (add o (gives p o) before) (front ++ encoded_at p es i) =
    subst (λ (b : List ℕ). Reads (add o (gives p o) before) (front ++ b)) (sym (encoded_row p es i lt)) x in
    let once' : Once mine = λ id. omega (arith, once id) in
    let free' : Free mine (add o (gives p o) before) = λ id h g.
    elim (given_after id o (gives p o) before g) [
      | inl e ↦ let again : 1 ≤ times o mine = subst (λ (j : TransportParameterId). 1 ≤ times j mine) (sym e) h in omega
          (arith, at_itself i, again, once o)
      | inr b ↦ free id (omega (arith, h)) b
    ] in
    subst (Reads (given_by p mine (add o (gives p o) before))) (append_assoc front (encoded_at p es i) (flat_map (encoded_at p es) os))
    (rest (add o (gives p o) before) (front ++ encoded_at p es i) once' free' y)

reads_other : (p : TransportParameters) (es : List Entry) (i : ℕ) (os mine : List ℕ) → AreOthers es
    → parameter_count ≤ i → i < parameter_count + length es → Then p es os mine → Then p es (i ∷ os) mine
reads_other p es i os mine h le lt rest before front once free r =
    let j : ℕ = i - parameter_count in
    let d : Entry = record { number = 0; bytes = [] } in
    let e : Entry = get_or es j d in
    let small : j < length es = omega (arith, le, lt) in
    let is : IsOther e = other_at es j d h small in
    let at : parameter_count + j ≡ i = omega (arith, le) in
    let same : encoded_at p es i ≡ shortest_entry e.number e.bytes =
    ap (encoded_at p es) (sym at) ∙ encoded_further p es j d small in
    let x : Reads before (front ++ encoded_at p es i) = subst (λ (b : List ℕ). Reads before (front ++ b)) (sym same)
    (reads_entry before before front (shortest_entry e.number e.bytes) e r
    (is_entry e.number e.bytes is.numeric is.short) (Passed is.unknown refl)) in
    subst (Reads (given_by p mine before)) (append_assoc front (encoded_at p es i) (flat_map (encoded_at p es) os))
    (rest before (front ++ encoded_at p es i) once free x)

reads_either : (t : Bool) (p : TransportParameters) (es : List Entry) (i : ℕ) (os mine : List ℕ)
    → nat_lt i parameter_count ≡ t → IsSound p → AreOthers es → i < parameter_count + length es → Then p es os mine
    → Then p es (i ∷ os) (cond t (i ∷ mine) mine)
reads_either true p es i os mine e s h lt rest = reads_row p es i os mine s (grind (arith, nat_tests)) rest
reads_either false p es i os mine e s h lt rest = reads_other p es i os mine h (grind (arith, nat_tests)) lt rest

reads_mixed : (p : TransportParameters) (es : List Entry) (os : List ℕ) → IsSound p → AreOthers es
    → below (parameter_count + length es) os → Then p es os (own os)
reads_mixed p es [] s h b = λ before front once free r. reads_none before front r
reads_mixed p es (i ∷ os) s h b =
    reads_either (nat_lt i parameter_count) p es i os (own os) refl s h b.0 (reads_mixed p es os s h b.1)

pub read_further : (p : TransportParameters) (es : List Entry) (order : List ℕ) → IsSound p → AreOthers es
    → IsOrderOf (parameter_count + length es) order → IsMeant strictest (plain p) (flat_map (encoded_at p es) order)
read_further p es order s h o =
    let start : Reads [] [] = record { entries = []; list = record { encoded = refl; gives = refl } } in
    let one = own_once (length es) order o in
    let r =
    reads_mixed p es order s h (all_below (parameter_count + length es) order
    (order_within (parameter_count + length es) order o)) [] [] (λ id. omega (arith, one id)) (λ id le g. g)
    start in
    record {
      entries = r.entries;
      given = given_by p (own order) [];
      list = r.list;
      is_record = record { values = all_given p (own order) one; no_grease = refl; no_order = refl };
    }

pub answers_further : (side : Side) (p : TransportParameters) (es : List Entry) (order : List ℕ) → IsTypedRecord p
    → IsRecordInRange side p → AreOthers es → IsOrderOf (parameter_count + length es) order
    → IsReadAnswer strictest side (flat_map (encoded_at p es) order) (Ok (plain p))
answers_further side p es order t h others o =
    (read_further p es order (sound_of side p t h) others o, plain_valid side p h.valid)

-- ---- the entries of a list

-- the first entry of a list
pub first_entry : (e : Entry) (es : List Entry) (b : List ℕ) → AreInOrder (e ∷ es) b → b ≢ []
first_entry e es b h nil =
    let l : 0 ≡ length h.front + length h.back = ap length (sym nil ∙ h.whole) ∙ length-append h.front h.back in
    omega (arith, entry_some e.number e.bytes h.front h.first)

same_entry : (e d : Entry) → e.number ≡ d.number → e.bytes ≡ d.bytes → e ≡ d
same_entry e d n b =
    ap (λ (m : ℕ). record { number = m; bytes = e.bytes }) n
    ∙ ap (λ (l : List ℕ). record { number = d.number; bytes = l }) b

pub in_order_once : (es fs : List Entry) (b : List ℕ) → AreInOrder es b → AreInOrder fs b → es ≡ fs
in_order_once [] [] b p q = refl
in_order_once [] (f ∷ fs) b p q = absurd (first_entry f fs b q p)
in_order_once (e ∷ es) [] b p q = absurd (first_entry e es b p q)
in_order_once (e ∷ es) (f ∷ fs) b p q =
    let u =
    entry_unique e.number f.number e.bytes f.bytes p.front q.front p.back q.back (sym p.whole ∙ q.whole) p.first q.first in
    let rest : es ≡ fs = in_order_once es fs p.back p.second (subst (AreInOrder fs) (sym u.3) q.second) in
    ap (λ (x : Entry). x ∷ es) (same_entry e f u.0 u.1) ∙ ap (λ (l : List Entry). f ∷ l) rest

-- entries, the last first, in front of others
pub in_order_from : (es fs : List Entry) (a b : List ℕ) → AreEntries es a → AreInOrder fs b
    → AreInOrder (reverse_aux es fs) (a ++ b)
in_order_from [] fs a b p q = subst (AreInOrder fs) (ap (λ l. l ++ b) (sym p)) q
in_order_from (e ∷ es) fs a b p q =
    subst (AreInOrder (reverse_aux es (e ∷ fs))) (sym (append_assoc p.front p.back b) ∙ ap (λ l. l ++ b) (sym p.whole))
    (in_order_from es (e ∷ fs) p.front (p.back ++ b) p.first
    (record { front = p.back; back = b; whole = refl; first = p.second; second = q }))

pub of_record : (side : Side) (b : List ℕ) (p : TransportParameters) → IsReadAnswer as_quinn side b (Ok p)
    → (es : List Entry) × AreInOrder es b × IsRecordOf es p
of_record side b p h =
    let m : IsMeant as_quinn p b = h.0 in (
      reverse m.entries,
      subst (AreInOrder (reverse m.entries)) (append-nil b) (in_order_from m.entries [] b [] m.list.encoded refl),
      record {
        given = m.given;
        gives = subst (λ (l : List Entry). Give as_quinn l m.given) (sym (reverse-reverse m.entries))
            m.list.gives;
        is_record = m.is_record;
      },
    )

-- the entry at the front
pub shorter : (n : ℕ) (x b r : List ℕ) → Takes (IsEntry n x) b r → length r < length b
shorter n x b r t = omega (arith, entry_some n x t.front t.is, ap length t.split, length-append t.front r)

none_taken : (n : ℕ) (x b r : List ℕ) → Takes (IsEntry n x) b r → b ≢ []
none_taken n x b r t nil = omega (arith, shorter n x b r t, ap length nil)

pub record Next (n : ℕ) (x r : List ℕ) (es : List Entry) : Type 0 where
  pub first : Entry
  pub others : List Entry
  pub whole : es ≡ first ∷ others
  pub number : first.number ≡ n
  pub bytes : first.bytes ≡ x
  pub behind : AreInOrder others r

-- entries that begin with one that was read
pub next : (n : ℕ) (x b r : List ℕ) (es : List Entry) → Takes (IsEntry n x) b r → AreInOrder es b → Next n x r es
next n x b r [] t h = absurd (none_taken n x b r t h)
next n x b r (e ∷ es) t h =
    let u = entry_unique e.number n e.bytes x h.front t.front h.back r (sym h.whole ∙ t.split) h.first t.is in
    record { first = e; others = es; whole = refl; number = u.0; bytes = u.1; behind = subst (AreInOrder es) u.3 h.second }
