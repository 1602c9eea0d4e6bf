-- A walk over a datagram stores its row of packets, of which there is one.
use Rattle.std.specs.Prelude.{◌≡◌, ℕ, ℤ, pos, negsuc, ◌<ℤ◌, ◌≤ℤ◌, ◌+◌, ◌-◌, ◌<◌, ◌≤◌, List, [], ◌∷◌, ◌++◌, drop, length, take, zero, suc, Result, Ok, Err}
use Rattle.std.proofs.Common.{refl, sym, ap, subst, ◌∙◌, arith, append_assoc, set}
use Rattle.std.proofs.Math.ListN.{length-set}
use Rattle.std.proofs.lemmas.Int.{ints}
use Rattle.std.proofs.lemmas.Grind.{drop_more_same}
use Rattle.std.proofs.lemmas.List.{append-nil, drop-drop, drop-set-lt, take_more_set}
use Rattle.quic_base.specs.Number.{AreBytes}
use Rattle.quic_base.specs.One.{ReturnsOne}
use Rattle.quic_header_decode.proofs.Datagrams.{rest_bytes}
use Rattle.quic_header_decode.specs.declared.protected.ProtectedHeader.{ProtectedHeader}
use Rattle.quic_header_decode.specs.Rfc.{RfcRefusal}
use Rattle.quic_c_headers.specs.Packets.{IsReturned}
use Rattle.quic_c_headers.specs.Walks.{AreInRow, AreShown, AtEnd, EndsBy, IsRow, NoRoom, Packet, Refused, RowEnd, StoresRow, full, last, more, refused}
use Rattle.quic_c_headers.specs.declared.words.CHeader.{CHeader}
use Rattle.quic_results.specs.declared.results.Failure.TheVariants as failure
use Rattle.quic_results.specs.Results.{failed, number_of}

abbrev pub Answer : Type 0
Answer = Result Packet RfcRefusal

abbrev pub Row : Type 0
Row = List Packet × RowEnd

-- ---- one row

abbrev pub IsSole : (List ℕ → Answer → Type 0) → Type 0
IsSole First = (bytes : List ℕ) (one other : Answer) → AreBytes bytes → First bytes one → First bytes other → one ≡ other

ok_is : (a b : Packet) → (let r : Answer = Ok a in r) ≡ Ok b → a ≡ b
ok_is a b e = cc

ok_err : (a : Packet) (e : RfcRefusal) → (let r : Answer = Ok a in r) ≡ Err e → ⊥
ok_err a e is = cc

err_is : (a b : RfcRefusal) → (let r : Answer = Err a in r) ≡ Err b → a ≡ b
err_is a b e = cc

end_is : (h g : ProtectedHeader) (p q n m : ℕ) → (let a : Packet = (h, p, n) in a) ≡ (g, q, m) → n ≡ m
end_is h g p q n m e = ap (λ (x : Packet). x.2) e

row_is : (a b : Packet) (xs ys : List Packet) (e f : RowEnd) → a ≡ b → xs ≡ ys → e ≡ f
    → (let r : Row = (a ∷ xs, e) in r) ≡ (b ∷ ys, f)
row_is a b xs ys e f same later ends = cc

row_parts : (x y : Row) → x ≡ y → (x.0 ≡ y.0) × (x.1 ≡ y.1)
row_parts x y e = (ap (λ (r : Row). r.0) e, ap (λ (r : Row). r.1) e)

row_only : (First : List ℕ → Answer → Type 0) → IsSole First → (room : ℕ) (bytes : List ℕ) (xs ys : List Packet) (e f : RowEnd)
    → AreBytes bytes → AreInRow First room bytes xs e → AreInRow First room bytes ys f
    → (let r : Row = (xs, e) in r) ≡ (ys, f)
row_only First sole _ _ _ _ _ _ fits (last room bytes h p is) (last _ _ g q is') =
    row_is (h, p, length bytes) (g, q, length bytes) [] [] AtEnd AtEnd
    (ok_is _ _ (sole bytes (Ok (h, p, length bytes)) (Ok (g, q, length bytes)) fits is is')) refl refl
row_only First sole _ _ _ _ _ _ fits (last room bytes h p is) (more _ _ g q n others why is' less are) =
    absurd (let e = end_is _ _ _ _ _ _ (ok_is _ _ (sole bytes (Ok (h, p, length bytes)) (Ok (g, q, n)) fits is is')) in omega arith)
row_only First sole _ _ _ _ _ _ fits (last room bytes h p is) (refused _ _ e is') =
    absurd (ok_err _ _ (sole bytes (Ok (h, p, length bytes)) (Err e) fits is is'))
row_only First sole _ _ _ _ _ _ fits (more room bytes h p n others why is less are) (last _ _ g q is') =
    absurd (let e = end_is _ _ _ _ _ _ (ok_is _ _ (sole bytes (Ok (h, p, n)) (Ok (g, q, length bytes)) fits is is')) in omega arith)
row_only First sole _ _ _ _ _ _ fits (more room bytes h p n others why is less are) (more _ _ g q m others' why' is' less' are') =
    let same = ok_is _ _ (sole bytes (Ok (h, p, n)) (Ok (g, q, m)) fits is is') in
    let e : n ≡ m = end_is _ _ _ _ _ _ same in
    let later =
    row_parts (others, why) (others', why') (row_only First sole room (drop n bytes) others others' why why' (rest_bytes n bytes fits) are
    (subst (λ (k : ℕ). AreInRow First room (drop k bytes) others' why') (sym e) are')) in
    row_is (h, p, n) (g, q, m) others others' why why' same later.0 later.1
row_only First sole _ _ _ _ _ _ fits (more room bytes h p n others why is less are) (refused _ _ e is') =
    absurd (ok_err _ _ (sole bytes (Ok (h, p, n)) (Err e) fits is is'))
row_only First sole _ _ _ _ _ _ fits (refused room bytes e is) (last _ _ g q is') =
    absurd (ok_err _ _ (sole bytes (Ok (g, q, length bytes)) (Err e) fits is' is))
row_only First sole _ _ _ _ _ _ fits (refused room bytes e is) (more _ _ g q n others why is' less are) =
    absurd (ok_err _ _ (sole bytes (Ok (g, q, n)) (Err e) fits is' is))
row_only First sole _ _ _ _ _ _ fits (refused room bytes e is) (refused _ _ f is') =
    ap (λ (x : RfcRefusal). let r : Row = ([], Refused x) in r) (err_is e f (sole bytes (Err e) (Err f) fits is is'))
row_only First sole _ _ _ _ _ _ fits (full bytes) (full _) = refl

-- a row by another relation of the same meaning
pub row_by : (First Other : List ℕ → Answer → Type 0) → ((bytes : List ℕ) (answer : Answer) → First bytes answer → Other bytes answer)
    → (room : ℕ) (bytes : List ℕ) (xs : List Packet) (e : RowEnd) → AreInRow First room bytes xs e
    → AreInRow Other room bytes xs e
row_by First Other by _ _ _ _ (last room bytes h p is) = last room bytes h p (by bytes (Ok (h, p, length bytes)) is)
row_by First Other by _ _ _ _ (more room bytes h p n others why is less are) =
    more room bytes h p n others why (by bytes (Ok (h, p, n)) is) less (row_by First Other by room (drop n bytes) others why are)
row_by First Other by _ _ _ _ (refused room bytes e is) = refused room bytes e (by bytes (Err e) is)
row_by First Other by _ _ _ _ (full bytes) = full bytes

-- ---- the walk

-- what a walk found before an offset, and stored
pub record Walking (First : List ℕ → Answer → Type 0) (datagram : List ℕ) (heads : List CHeader) (start count : ℕ) : Type 0
  where
    pub within : start ≤ length datagram
    pub few : count ≤ length heads
    pub done : List Packet
    pub shown : (packets : List Packet) (others : List CHeader) → AreShown (drop start datagram) packets others
        → AreShown datagram (done ++ packets) (take count heads ++ others)
    pub row : (packets : List Packet) (why : RowEnd)
        → AreInRow First (length heads - count) (drop start datagram) packets why
        → AreInRow First (length heads) datagram (done ++ packets) why

pub walk_begins : (First : List ℕ → Answer → Type 0) (datagram : List ℕ) (heads : List CHeader)
    → Walking First datagram heads 0 0
walk_begins First datagram heads = record {
  within = omega arith;
  few = omega arith;
  done = [];
  shown = λ packets others are. are;
  row = λ packets why are. (let e : length heads - 0 ≡ length heads = omega arith in
      subst (λ (n : ℕ). AreInRow First n datagram packets why) e are);
}

abbrev pub Stored : (List ℕ → Answer → Type 0) → ℕ → List ℕ → ℕ → ℤ → List CHeader → Type 0
Stored First room datagram count result heads = ReturnsOne (IsRow First room datagram) (StoresRow datagram count result heads)

stored : (First : List ℕ → Answer → Type 0) → IsSole First → (room : ℕ) (datagram : List ℕ) (count : ℕ) (result : ℤ)
    (heads : List CHeader) (row : Row) → AreBytes datagram
    → IsRow First room datagram row → StoresRow datagram count result heads row
    → Stored First room datagram count result heads
stored First sole room datagram count result heads row fits is stores = record {
  one = record {
    it = row;
    is = is;
    only = λ other it. row_only First sole room datagram other.0 row.0 other.1 row.1 fits it is;
  };
  returned = stores;
}

-- nothing more is stored
stops : (First : List ℕ → Answer → Type 0) → IsSole First → (datagram : List ℕ) (heads : List CHeader) (start count : ℕ)
    (result : ℤ) (why : RowEnd) → AreBytes datagram
    → Walking First datagram heads start count
    → AreInRow First (length heads - count) (drop start datagram) [] why → EndsBy why result
    → Stored First (length heads) datagram count result heads
stops First sole datagram heads start count result why fits w are ends =
    stored First sole (length heads) datagram count result heads (w.done ++ [], why) fits (w.row [] why are) (record {
      few = w.few;
      shown = subst (AreShown datagram (w.done ++ [])) (append-nil (take count heads)) (w.shown [] [] refl);
      why = ends;
    })

pub walk_full : (First : List ℕ → Answer → Type 0) → IsSole First → (datagram : List ℕ) (heads : List CHeader) (start count : ℕ)
    (result : ℤ) → AreBytes datagram → Walking First datagram heads start count → length heads ≤ count
    → result ≡ failed failure.NoRoom → Stored First (length heads) datagram count result heads
walk_full First sole datagram heads start count result fits w over is =
    let none : length heads - count ≡ 0 = omega arith in
    stops First sole datagram heads start count result NoRoom fits w
    (subst (λ (n : ℕ). AreInRow First n (drop start datagram) [] NoRoom) (sym none) (full (drop start datagram))) is

-- another header in an entry changes nothing before it
kept : (heads : List CHeader) (count : ℕ) (head : CHeader) → count < length heads
    → take count (set heads count head) ≡ take count heads
kept [] count head less = absurd (omega arith)
kept (x ∷ heads) zero head less = refl
kept (x ∷ heads) (suc count) head less = ap (λ (xs : List CHeader). x ∷ xs) (kept heads count head (omega arith))

-- nor after it
pub kept_behind : (heads before : List CHeader) (count : ℕ) (head : CHeader) → drop count heads ≡ drop count before
    → drop (count + 1) (set heads count head) ≡ drop (count + 1) before
kept_behind heads before count head same =
    drop-set-lt (count + 1) heads count head (omega arith) ∙ drop_more_same heads before count same

unchanged : (First : List ℕ → Answer → Type 0) (datagram : List ℕ) (heads : List CHeader) (start count : ℕ) (head : CHeader)
    → count < length heads → Walking First datagram heads start count
    → Walking First datagram (set heads count head) start count
unchanged First datagram heads start count head less w =
    let same : length (set heads count head) ≡ length heads = length-set heads count head in
    record {
      within = w.within;
      few = omega arith;
      done = w.done;
      shown = λ packets others are.
          subst (λ (xs : List CHeader). AreShown datagram (w.done ++ packets) (xs ++ others))
          (sym (kept heads count head less)) (w.shown packets others are);
      row = λ packets why are.
          subst (λ (n : ℕ). AreInRow First n datagram (w.done ++ packets) why) (sym same)
          (w.row packets why (subst (λ (n : ℕ). AreInRow First (n - count) (drop start datagram) packets why) same are));
    }

room_left : (n count : ℕ) → count < n → n - count ≡ suc (n - (count + 1))
room_left n count less = omega arith

-- a call fails
pub walk_fails : (First : List ℕ → Answer → Type 0) → IsSole First → (datagram : List ℕ) (heads : List CHeader) (start count : ℕ)
    (result : ℤ) (head : CHeader) (e : RfcRefusal) → AreBytes datagram → count < length heads
    → Walking First datagram heads start count
    → First (drop start datagram) (Err e) → IsReturned (drop start datagram) result head (Err e)
    → Stored First (length heads) datagram count result (set heads count head)
walk_fails First sole datagram heads start count result head e fits less w is returned =
    let same : length (set heads count head) ≡ length heads = length-set heads count head in
    subst (λ (n : ℕ). Stored First n datagram count result (set heads count head)) same
    (stops First sole datagram (set heads count head) start count result (Refused e) fits
    (unchanged First datagram heads start count head less w)
    (subst (λ (n : ℕ). AreInRow First n (drop start datagram) [] (Refused e))
    (sym (room_left (length (set heads count head)) count (omega arith)))
    (refused (length (set heads count head) - (count + 1)) (drop start datagram) e is)) returned)

-- a packet that bytes follow
pub walk_goes_on : (First : List ℕ → Answer → Type 0) (datagram : List ℕ) (heads : List CHeader) (start count : ℕ)
    (result : ℤ) (head : CHeader) (packet : Packet) → count < length heads
    → Walking First datagram heads start count
    → First (drop start datagram) (Ok packet) → IsReturned (drop start datagram) result head (Ok packet)
    → packet.2 < length (drop start datagram) → start + packet.2 ≤ length datagram
    → Walking First datagram (set heads count head) (start + packet.2) (count + 1)
walk_goes_on First datagram heads start count result head packet less w is returned before within =
    let same : length (set heads count head) ≡ length heads = length-set heads count head in
    let behind : drop packet.2 (drop start datagram) ≡ drop (start + packet.2) datagram =
    drop-drop packet.2 start datagram in
    record {
      within = within;
      few = omega arith;
      done = w.done ++ packet ∷ [];
      shown = λ packets others are.
          subst (λ (xs : List Packet). AreShown datagram xs (take (count + 1) (set heads count head) ++ others))
          (sym (append_assoc w.done (packet ∷ []) packets))
          (subst (AreShown datagram (w.done ++ packet ∷ packets))
          (sym (ap (λ (xs : List CHeader). xs ++ others) (take_more_set heads count head less)
          ∙ append_assoc (take count heads) (head ∷ []) others))
          (w.shown (packet ∷ packets) (head ∷ others) (
            returned.1,
            returned.2,
            returned.3,
            subst (λ (xs : List ℕ). AreShown xs packets others) (sym behind) are,
          )));
      row = λ packets why are.
          subst (λ (xs : List Packet). AreInRow First (length (set heads count head)) datagram xs why)
          (sym (append_assoc w.done (packet ∷ []) packets))
          (subst (λ (n : ℕ). AreInRow First n datagram (w.done ++ packet ∷ packets) why) (sym same)
          (w.row (packet ∷ packets) why
          (subst (λ (n : ℕ). AreInRow First n (drop start datagram) (packet ∷ packets) why)
          (sym (room_left (length heads) count less))
          (more (length heads - (count + 1)) (drop start datagram) packet.0 packet.1 packet.2 packets why is before
          (subst (λ (xs : List ℕ). AreInRow First (length heads - (count + 1)) xs packets why) (sym behind)
          (subst (λ (n : ℕ). AreInRow First (n - (count + 1)) (drop (start + packet.2) datagram) packets why) same are))))));
    }

-- a packet that ends the datagram
pub walk_ends : (First : List ℕ → Answer → Type 0) → IsSole First → (datagram : List ℕ) (heads : List CHeader) (start count : ℕ)
    (result : ℤ) (head : CHeader) (packet : Packet) (outcome : ℤ) → AreBytes datagram → count < length heads
    → Walking First datagram heads start count
    → First (drop start datagram) (Ok packet) → IsReturned (drop start datagram) result head (Ok packet)
    → packet.2 ≡ length (drop start datagram) → EndsBy AtEnd outcome
    → Stored First (length heads) datagram (count + 1) outcome (set heads count head)
walk_ends First sole datagram heads start count result head packet outcome fits less w is returned all ends =
    let same : length (set heads count head) ≡ length heads = length-set heads count head in
    let final : AreInRow First (suc (length heads - (count + 1))) (drop start datagram) (packet ∷ []) AtEnd =
    subst (λ (n : ℕ). AreInRow First (suc (length heads - (count + 1))) (drop start datagram)
    ((packet.0, packet.1, n) ∷ []) AtEnd) (sym all)
    (last (length heads - (count + 1)) (drop start datagram) packet.0 packet.1
    (subst (λ (n : ℕ). First (drop start datagram) (Ok (packet.0, packet.1, n))) all is)) in
    stored First sole (length heads) datagram (count + 1) outcome (set heads count head) (w.done ++ packet ∷ [], AtEnd) fits
    (w.row (packet ∷ []) AtEnd (subst (λ (n : ℕ). AreInRow First n (drop start datagram) (packet ∷ []) AtEnd)
    (sym (room_left (length heads) count less)) final))
    (record {
      few = omega arith;
      shown = subst (AreShown datagram (w.done ++ packet ∷ [])) (sym (take_more_set heads count head less))
          (w.shown (packet ∷ []) (head ∷ []) (returned.1, returned.2, returned.3, refl));
      why = ends;
    })

-- by the room that there was, and the result as it is returned
pub moved : (First : List ℕ → Answer → Type 0) (datagram : List ℕ) (count : ℕ) (heads : List CHeader) {m n : ℕ} {a b : ℤ}
    → m ≡ n → b ≡ a → Stored First m datagram count a heads → Stored First n datagram count b heads
moved First datagram count heads {m} {n} {a} {b} room result stored =
    subst (λ (k : ℕ). Stored First k datagram count b heads) room
    (subst (λ (z : ℤ). Stored First m datagram count z heads) (sym result) stored)

pub moved_on : (First : List ℕ → Answer → Type 0) (datagram : List ℕ) (heads : List CHeader) (start count : ℕ) {m n : ℕ}
    → m ≡ n → Walking First datagram heads (start + n) count → Walking First datagram heads (start + m) count
moved_on First datagram heads start count {m} {n} same walking =
    subst (λ (k : ℕ). Walking First datagram heads (start + k) count) (sym same) walking

-- ---- what a call returned

-- an error, if the result is below 0
pub by_error : (First : List ℕ → Answer → Type 0) (bytes : List ℕ) (result : ℤ) (head : CHeader) (answer : Answer)
    → First bytes answer → IsReturned bytes result head answer → result <ℤ pos 0
    → (e : RfcRefusal) × First bytes (Err e) × IsReturned bytes result head (Err e)
by_error First bytes result head (Ok packet) is returned below =
    absurd (let e = returned.0 in omega (arith, ints))
by_error First bytes result head (Err e) is returned below = (e, is, returned)

above : (n : ℕ) → ¬ (pos 0 ≤ℤ negsuc n)
above n h = omega (arith, ints, h)

-- a packet, if it isn't
pub by_packet : (First : List ℕ → Answer → Type 0) (bytes : List ℕ) (result : ℤ) (head : CHeader) (answer : Answer)
    → First bytes answer → IsReturned bytes result head answer → pos 0 ≤ℤ result
    → (packet : Packet) × First bytes (Ok packet) × IsReturned bytes result head (Ok packet)
by_packet First bytes result head (Ok packet) is returned below = (packet, is, returned)
by_packet First bytes result head (Err e) is returned below =
    absurd (above (number_of returned.0 - 1) (subst (λ (n : ℤ). pos 0 ≤ℤ n) returned.1 below))
