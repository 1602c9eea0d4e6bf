-- The entries of a list, stored one after the other.
use Rattle.std.proofs.Common.{◌≡◌, ℕ, zero, suc, ◌+◌, ◌-◌, ◌*◌, ◌<◌, ◌≤◌, ◌^◌, List, [], ◌∷◌, ◌++◌, length, take, drop, get_or, sym, ◌∙◌, ap, subst, arith, length-append, append_assoc}
use Rattle.std.specs.Prelude.{Result, Ok, Err}
use Rattle.std.specs.List.{flat_map}
use borrow.Rule.Slice.PartMut.{put_mid}
use Rattle.std.proofs.lemmas.Grind.{flat_map-append}
use Rattle.std.proofs.lemmas.List.{append-nil, drop_all, drop_at, drop-drop, length-drop, length-take, take_all, take_at, take_more, take-append-drop}
use Rattle.quic_params.specs.declared.record.TransportParameters.{TransportParameters}
use Rattle.quic_params.specs.Entry.{Entry}
use Rattle.quic_params.specs.Further.{AreInOrder, AreOthers, IsOther, IsOrderOf, asked, listed}
use Rattle.quic_params.specs.Table.{parameter_count}
use Rattle.quic_params.specs.Writing.{shortest_entry}
use Rattle.quic_params.proofs.Further.{in_order_once, other_at, encoded_at, encoded_further}
use Rattle.quic_c_params.specs.Lists.{any_entry, StoresBytes}

pub stores_as : (result : Result ℕ ℕ) (bytes same old new : List ℕ) → same ≡ bytes → StoresBytes result bytes old new
    → StoresBytes result same old new
stores_as result bytes same old new e l = subst (λ (b : List ℕ). StoresBytes result b old new) (sym e) l

-- the entry at an index that is no row's
pub further_encoded : (p : TransportParameters) (es : List Entry) (index number : ℕ) (value : List ℕ)
    → parameter_count ≤ index → index < parameter_count + length es
    → number ≡ (get_or es (index - parameter_count) any_entry).number
    → value ≡ (get_or es (index - parameter_count) any_entry).bytes
    → encoded_at p es index ≡ shortest_entry number value
further_encoded p es index number value le lt n v =
    let at : parameter_count + (index - parameter_count) ≡ index = omega (arith, le) in
    ap (encoded_at p es) (sym at) ∙ encoded_further p es (index - parameter_count) any_entry (omega (arith, le, lt))
    ∙ ap (λ (m : ℕ). shortest_entry m (get_or es (index - parameter_count) any_entry).bytes) (sym n)
    ∙ ap (shortest_entry number) (sym v)

-- it can be written, and is no longer than the list that it is in
pub other_there : (es : List Entry) (index : ℕ) → AreOthers es → parameter_count ≤ index
    → index < parameter_count + length es → IsOther (get_or es (index - parameter_count) any_entry)
other_there es index h le lt = other_at es (index - parameter_count) any_entry h (omega (arith, le, lt))

value_within : (es : List Entry) (b : List ℕ) (j : ℕ) → AreInOrder es b → j < length es
    → length (get_or es j any_entry).bytes ≤ length b
value_within [] b j h lt = absurd (omega (arith, lt))
value_within (e ∷ es) b zero h lt =
    omega (
      arith,
      ap length h.whole,
      length-append h.front h.back,
      ap length h.first.whole,
      length-append h.first.front h.first.back,
      ap length h.first.second.whole,
      length-append h.first.second.front h.first.second.back,
      ap length h.first.second.second,
    )
value_within (e ∷ es) b (suc j) h lt =
    omega (arith, ap length h.whole, length-append h.front h.back, value_within es h.back j h.second (omega (arith, lt)))

pub value_short : (es : List Entry) (b value : List ℕ) (index : ℕ) → AreInOrder es b → parameter_count ≤ index
    → index < parameter_count + length es
    → value ≡ (get_or es (index - parameter_count) any_entry).bytes → length value ≤ length b
value_short es b value index h le lt v =
    omega (arith, ap length v, value_within es b (index - parameter_count) h (omega (arith, le, lt)))

-- ---- entries in an order

-- the first of them
abbrev pub first_of : TransportParameters → List Entry → List ℕ → ℕ → List ℕ
first_of p es order k = flat_map (encoded_at p es) (take k order)

pub first_more : (p : TransportParameters) (es : List Entry) (order : List ℕ) (k : ℕ) → k < length order
    → first_of p es order (k + 1) ≡ first_of p es order k ++ encoded_at p es (get_or order k 0)
first_more p es order k lt =
    ap (flat_map (encoded_at p es)) (take_more order k 0 lt)
    ∙ flat_map-append (encoded_at p es) (take k order) (get_or order k 0 ∷ [])
    ∙ ap (λ l. first_of p es order k ++ l) (append-nil (encoded_at p es (get_or order k 0)))

pub first_all : (p : TransportParameters) (es : List Entry) (order : List ℕ) (k : ℕ) → length order ≤ k
    → first_of p es order k ≡ flat_map (encoded_at p es) order
first_all p es order k le = ap (flat_map (encoded_at p es)) (take_all k order le)

-- so many of them are counted
pub record CountedTo (p : TransportParameters) (further order : List ℕ) (k len : ℕ) : Type 0 where
  pub value : (es : List Entry) → AreInOrder es further → len ≡ length (first_of p es order k)
  pub few : len ≤ k * 2 ^ 41

pub counted_to_all : (p : TransportParameters) (further order : List ℕ) (count k len : ℕ) → count ≤ k
    → CountedTo p further (asked count order) k len → (any : List Entry) → AreInOrder any further
    → count ≡ parameter_count + length any
    → IsOrderOf count (asked count order) → (es : List Entry) → AreInOrder es further → len ≡ length (listed p es order)
counted_to_all p further order count k len le c any has same o es h =
    let e : parameter_count + length es ≡ count = omega (arith, ap length (in_order_once any es further has h), same) in
    c.value es h ∙ ap length (first_all p es (asked count order) k (omega (arith, o.width, le)))
    ∙ ap (λ (n : ℕ). length (flat_map (encoded_at p es) (asked n order))) (sym e)

-- so many of them are written
pub record StoredTo (p : TransportParameters) (further order old : List ℕ) (k at : ℕ) (new : List ℕ) : Type 0 where
  pub count : (es : List Entry) → AreInOrder es further → at ≡ length (first_of p es order k)
  pub front : (es : List Entry) → AreInOrder es further → take at new ≡ first_of p es order k
  pub back : drop at new ≡ drop at old
  pub long : length new ≡ length old

-- an entry that is written at the end of those that are, over the rest of the slice
pub stored_to_more : (p : TransportParameters) (further order old new ys : List ℕ) (k index at n : ℕ) (result : Result ℕ ℕ)
    → k < length order → index ≡ get_or order k 0 → result ≡ Ok n
    → ((es : List Entry) → AreInOrder es further → StoresBytes result (encoded_at p es index) (drop at new) ys)
    → (any : List Entry) → AreInOrder any further → at ≤ length new
    → length ys ≡ length (drop at new) → StoredTo p further order old k at new
    → StoredTo p further order old (k + 1) (at + n) (take at new ++ ys)
stored_to_more p further order old new ys k index at n result lt is ok stores any has le same_room l =
    let stored : (es : List Entry) → AreInOrder es further
    → StoresBytes (Ok n) (encoded_at p es index) (drop at new) ys =
    λ es h. subst (λ (r : Result ℕ ℕ). StoresBytes r (encoded_at p es index) (drop at new) ys) ok (stores es h) in
    let long : length (take at new) ≡ at = omega (arith, length-take at new, le) in
    let own : List ℕ = encoded_at p any index in
    let mine = stored any has in
    let many : n ≡ length own = mine.count in
    let ys_are : ys ≡ own ++ drop n (drop at new) = mine.front in
    let whole : take at new ++ ys ≡ (take at new ++ own) ++ drop n (drop at new) =
    ap (λ r. take at new ++ r) ys_are ∙ sym (append_assoc (take at new) own (drop n (drop at new))) in
    let end : length (take at new ++ own) ≡ at + n = length-append (take at new) own ∙ omega (arith, long, many) in
    record {
      count = λ es h. omega (
        arith,
        l.count es h,
        (stored es h).count,
        ap (λ (i : ℕ). length (encoded_at p es i)) is,
        ap length (first_more p es order k lt),
        length-append (first_of p es order k)
            (encoded_at p es (get_or order k 0)),
      );
      front = λ es h.
          let same : own ≡ encoded_at p es index =
          ap (λ (x : List Entry). encoded_at p x index) (in_order_once any es further has h) in
          ap (take (at + n)) whole ∙ take_at (take at new ++ own) (drop n (drop at new)) (at + n) end
          ∙ ap (λ r. r ++ own) (l.front es h) ∙ ap (λ r. first_of p es order k ++ r) (same ∙ ap (encoded_at p es) is)
          ∙ sym (first_more p es order k lt);
      back =
          ap (drop (at + n)) whole ∙ drop_at (take at new ++ own) (drop n (drop at new)) (at + n) end
          ∙ ap (drop n) l.back ∙ drop-drop n at old;
      long = omega (arith, length-append (take at new) ys, long, same_room, length-drop at new, le, l.long);
    }

first_within : (p : TransportParameters) (es : List Entry) (order : List ℕ) (k : ℕ)
    → length (first_of p es order k) ≤ length (flat_map (encoded_at p es) order)
first_within p es order k =
    let whole =
    ap (flat_map (encoded_at p es)) (sym (take-append-drop k order))
    ∙ flat_map-append (encoded_at p es) (take k order) (drop k order) in
    omega (arith, ap length whole, length-append (first_of p es order k) (flat_map (encoded_at p es) (drop k order)))

asked_same : (further : List ℕ) (count : ℕ) (any es : List Entry) → AreInOrder any further
    → count ≡ parameter_count + length any → AreInOrder es further → parameter_count + length es ≡ count
asked_same further count any es has same h = omega (arith, ap length (in_order_once any es further has h), same)

-- what is written has room
pub stored_within : (p : TransportParameters) (further order old new : List ℕ) (count k at : ℕ) (any : List Entry)
    → AreInOrder any further → count ≡ parameter_count + length any
    → ((es : List Entry) → AreInOrder es further → length (listed p es order) ≤ length old)
    → StoredTo p further (asked count order) old k at new → at ≤ length new
stored_within p further order old new count k at any has same room l =
    let e = asked_same further count any any has same has in
    omega (
      arith,
      l.count any has,
      first_within p any (asked count order) k,
      ap (λ (n : ℕ). length (flat_map (encoded_at p any) (asked n order))) e,
      room any has,
      l.long,
    )

-- and so has the next entry
pub next_within : (p : TransportParameters) (further order old new ys : List ℕ) (count k index at n : ℕ)
    (result : Result ℕ ℕ) (any : List Entry)
    → AreInOrder any further → count ≡ parameter_count + length any
    → ((es : List Entry) → AreInOrder es further → length (listed p es order) ≤ length old)
    → StoredTo p further (asked count order) old k at new
    → k < length (asked count order) → index ≡ get_or (asked count order) k 0 → result ≡ Err n
    → ((es : List Entry) → AreInOrder es further → StoresBytes result (encoded_at p es index) (drop at new) ys) → ⊥
next_within p further order old new ys count k index at n result any has same room l lt is err stores =
    let e = asked_same further count any any has same has in
    let stored : StoresBytes (Err n) (encoded_at p any index) (drop at new) ys =
    subst (λ (r : Result ℕ ℕ). StoresBytes r (encoded_at p any index) (drop at new) ys) err (stores any has) in
    omega (
      arith,
      stored.full,
      length-drop at new,
      l.count any has,
      l.long,
      ap length (first_more p any (asked count order) k lt),
      length-append (first_of p any (asked count order) k) (encoded_at p any (get_or (asked count order) k 0)),
      ap (λ (i : ℕ). length (encoded_at p any i)) is,
      first_within p any (asked count order) (k + 1),
      ap (λ (m : ℕ). length (flat_map (encoded_at p any) (asked m order))) e,
      room any has,
    )

pub stored_to_all : (p : TransportParameters) (further order old new : List ℕ) (count k at : ℕ) → count ≤ k
    → StoredTo p further (asked count order) old k at new → (any : List Entry) → AreInOrder any further
    → count ≡ parameter_count + length any → IsOrderOf count (asked count order) → (es : List Entry)
    → AreInOrder es further → new ≡ listed p es order ++ drop (length (listed p es order)) old
stored_to_all p further order old new count k at le l any has same o es h =
    let e = asked_same further count any es has same h in
    let whole : first_of p es (asked count order) k ≡ listed p es order =
    first_all p es (asked count order) k (omega (arith, o.width, le))
    ∙ ap (λ (n : ℕ). flat_map (encoded_at p es) (asked n order)) (sym e) in
    sym (take-append-drop at new) ∙ ap (λ r. r ++ drop at new) (l.front es h ∙ whole)
    ∙ ap (λ r. listed p es order ++ r) (l.back ∙ ap (λ (n : ℕ). drop n old) (l.count es h ∙ ap length whole))

-- the rest of a slice instead of what it was
pub put_end : (at : ℕ) (d ys : List ℕ) → put_mid at (length d - at) d ys ≡ take at d ++ ys
put_end at d ys =
    ap (λ r. take at d ++ (ys ++ r)) (drop_all (length d - at) (drop at d) (omega (arith, length-drop at d)))
    ∙ ap (λ r. take at d ++ r) (append-nil ys)
