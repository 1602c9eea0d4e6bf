-- With the flags of RFC 9000's way of reading, what is returned is what RFC 9000 allows.
use Rattle.std.specs.Prelude.{◌≡◌, ℕ, ℤ, pos, ◌↔◌, List, length, Result, Ok, Err, nat_eq, if◌then◌else◌}
use Rattle.std.proofs.Common.{sym, ap, subst, ◌∙◌}
use Rattle.quic_base.specs.One.{ReturnsOne}
use Rattle.quic_header_decode.specs.declared.protected.ProtectedHeader.{ProtectedHeader}
use Rattle.quic_header_decode.specs.Refusal.{Invalid, NoMemory, Unsupported}
use Rattle.quic_header_decode.specs.Rfc.{PartialRetry, RfcRefusal, Unread}
use Rattle.quic_c_headers.specs.Packets.{IsReturned, StandsFor}
use Rattle.quic_c_headers.specs.Walks.{IsRow, Packet, StoresRow}
use Rattle.quic_c_headers.specs.declared.words.CHeader.{CHeader}
use Rattle.quic_c_headers.proofs.Walking.{Answer, Row, row_by}
use Rattle.quic_results.specs.declared.results.Failure.{Failure}
use Rattle.quic_results.specs.declared.results.Failure.TheVariants as failure
use Rattle.quic_results.specs.Results.{failed, returned}

-- ---- one failure for each error

failure_by : ℕ → Failure
failure_by size =
    if nat_eq size 15 then failure.PacketFixedBit
    else if nat_eq size 24 then failure.PacketEnd
    else if nat_eq size 16 then failure.PacketSmall
    else if nat_eq size 13 then failure.PacketId
    else if nat_eq size 19 then failure.PacketToken
    else failure.PacketCut

failure_of : RfcRefusal → Failure
failure_of (Unread (Invalid text)) = failure_by (length text)
failure_of (Unread (Unsupported src dst version)) = failure.PacketVersion
failure_of (Unread NoMemory) = failure.NoRoom
failure_of PartialRetry = failure.PacketRetry

stands_once : (why : Failure) (e : RfcRefusal) → StandsFor why e → failure_of e ≡ why
unfolding failure_by failure_of
stands_once failure.PacketFixedBit e is = ap failure_of is
stands_once failure.PacketEnd e is = ap failure_of is
stands_once failure.PacketSmall e is = ap failure_of is
stands_once failure.PacketId e is = ap failure_of is
stands_once failure.PacketToken e is = ap failure_of is
stands_once failure.PacketVersion e (n, d, s, is) = ap failure_of is
stands_once failure.PacketCut e is = ap failure_of is
stands_once failure.PacketRetry e is = ap failure_of is
stands_once why e is = absurd is

-- ---- one header

-- the same values by another name
one_by : {A : Type 0} (Is Other IsReturned : A → Type 0) → ((x : A) → (Is x ↔ Other x)) → ReturnsOne Is IsReturned
    → ReturnsOne Other IsReturned
one_by {A} Is Other IsReturned same r = record {
  one = record {
    it = r.one.it;
    is = (same r.one.it).0 r.one.is;
    only = λ other is. r.one.only other ((same other).1 is);
  };
  returned = r.returned;
}

pub answer_by : (First Other : List ℕ → Answer → Type 0) → ((bytes : List ℕ) (answer : Answer) → (First bytes answer ↔ Other bytes answer))
    → (bytes : List ℕ) (head : CHeader) {result shown : ℤ} → shown ≡ result
    → ReturnsOne (First bytes) (IsReturned bytes result head) → ReturnsOne (Other bytes) (IsReturned bytes shown head)
answer_by First Other same bytes head {result} {shown} e r =
    subst (λ (z : ℤ). ReturnsOne (Other bytes) (IsReturned bytes z head)) (sym e)
    (one_by (First bytes) (Other bytes) (IsReturned bytes result head) (same bytes) r)

pub row_one_by : (First Other : List ℕ → Answer → Type 0)
    → ((bytes : List ℕ) (answer : Answer) → (First bytes answer ↔ Other bytes answer))
    → (room : ℕ) (bytes : List ℕ) (count : ℕ) (result : ℤ) (heads : List CHeader)
    → ReturnsOne (IsRow First room bytes) (StoresRow bytes count result heads)
    → ReturnsOne (IsRow Other room bytes) (StoresRow bytes count result heads)
row_one_by First Other same room bytes count result heads r =
    one_by (IsRow First room bytes) (IsRow Other room bytes) (StoresRow bytes count result heads)
    (λ (x : Row). (
      row_by First Other (λ xs answer is. (same xs answer).0 is) room bytes x.0 x.1,
      row_by Other First (λ xs answer is. (same xs answer).1 is) room bytes x.0 x.1,
    )) r

ok_same : (a b : Packet) → (let x : Answer = Ok a in x) ≡ Ok b → a ≡ b
ok_same a b e = cc

err_same : (a b : RfcRefusal) → (let x : Answer = Err a in x) ≡ Err b → a ≡ b
err_same a b e = cc

ok_not : (a : Packet) (e : RfcRefusal) → (let x : Answer = Ok a in x) ≡ Err e → ⊥
ok_not a e is = cc

pos_is : (p q : ℕ) → pos p ≡ pos q → p ≡ q
pos_is p q e = cc

packet_is : (First : List ℕ → Answer → Type 0) (bytes : List ℕ) (result : ℤ) (head : CHeader) (answer : Answer) (end : ℕ)
    → First bytes answer → IsReturned bytes result head answer → result ≡ pos end
    → (h : ProtectedHeader) × First bytes (Ok (h, head.header_end, end))
packet_is First bytes result head (Ok packet) end is returned ends =
    let same : packet.2 ≡ end = pos_is packet.2 end (sym returned.0 ∙ ends) in (
      packet.0,
      subst (λ (n : ℕ). First bytes (Ok (packet.0, head.header_end, n))) same
          (subst (λ (n : ℕ). First bytes (Ok (packet.0, n, packet.2))) (sym returned.2) is),
    )
packet_is First bytes result head (Err e) end is (why, failed_is, stands) ends = absurd (let no = sym failed_is ∙ ends in cc)

is_packet : (bytes : List ℕ) (result : ℤ) (head : CHeader) (answer : Answer) (packet : Packet)
    → IsReturned bytes result head answer → Ok packet ≡ answer → result ≡ pos packet.2
is_packet bytes result head (Ok p) packet returned same =
    returned.0 ∙ ap (λ (x : Packet). pos x.2) (sym (ok_same packet p same))
is_packet bytes result head (Err e) packet returned same = absurd (ok_not packet e same)

pub packet_exactly : (First : List ℕ → Answer → Type 0) (bytes : List ℕ) (result : ℤ) (head : CHeader) (end : ℕ)
    → ReturnsOne (First bytes) (IsReturned bytes result head)
    → (result ≡ pos end ↔ ((h : ProtectedHeader) × First bytes (Ok (h, head.header_end, end))))
packet_exactly First bytes result head end r = (
  (λ ends. packet_is First bytes result head r.one.it end r.one.is r.returned ends),
  (λ found. is_packet bytes result head r.one.it (found.0, head.header_end, end)
      r.returned (r.one.only (Ok (found.0, head.header_end, end)) found.1)),
)

abbrev Distinct : Type 0
Distinct = (one other : Result ℕ Failure) → returned one ≡ returned other → one ≡ other

failed_same : Distinct → (a b : Failure) → failed a ≡ failed b → a ≡ b
failed_same distinct a b e = (let same = distinct (Err a) (Err b) e in cc)

error_is : (First : List ℕ → Answer → Type 0) (bytes : List ℕ) (result : ℤ) (head : CHeader) (answer : Answer) (why : Failure)
    → Distinct → First bytes answer → IsReturned bytes result head answer → result ≡ failed why
    → (e : RfcRefusal) × StandsFor why e × First bytes (Err e)
error_is First bytes result head (Ok packet) why distinct is returned fails = absurd (let no = sym returned.0 ∙ fails in cc)
error_is First bytes result head (Err e) why distinct is (f, failed_is, stands) fails = (
  e,
  subst (λ (x : Failure). StandsFor x e) (failed_same distinct f why (sym failed_is ∙ fails)) stands,
  is,
)

is_error : (bytes : List ℕ) (result : ℤ) (head : CHeader) (answer : Answer) (e : RfcRefusal) (why : Failure)
    → IsReturned bytes result head answer → Err e ≡ answer → StandsFor why e → result ≡ failed why
is_error bytes result head (Ok packet) e why returned same stands = absurd (ok_not packet e (sym same))
is_error bytes result head (Err f) e why (g, failed_is, right) same stands =
    failed_is ∙ ap failed (sym (stands_once g f right) ∙ ap failure_of (sym (err_same e f same)) ∙ stands_once why e stands)

pub error_exactly : (First : List ℕ → Answer → Type 0) (bytes : List ℕ) (result : ℤ) (head : CHeader) (why : Failure)
    → Distinct → ReturnsOne (First bytes) (IsReturned bytes result head)
    → (result ≡ failed why ↔ ((e : RfcRefusal) × StandsFor why e × First bytes (Err e)))
error_exactly First bytes result head why distinct r = (
  (λ fails. error_is First bytes result head r.one.it why distinct r.one.is r.returned fails),
  (λ found. is_error bytes result head r.one.it found.0 why r.returned
      (r.one.only (Err found.0) found.2) found.1),
)
