-- Without flags, a row of packets is the one that is cut from the datagram.
use Rattle.std.specs.Prelude.{◌≡◌, ◌≢◌, ℕ, ℤ, pos, ◌+◌, ◌≤◌, ◌⊎◌, ◌↔◌, false, List, [], ◌∷◌, drop, length, take, Option, Some, None, Result, Ok, Err}
use Rattle.std.proofs.Common.{refl, sym, ap, subst, ◌∙◌, inl, inr}
use Rattle.quic_base.specs.Number.{AreBytes}
use Rattle.quic_base.specs.One.{ReturnsOne}
use Rattle.quic_header_decode.specs.declared.protected.ProtectedHeader.{ProtectedHeader}
use Rattle.quic_header_decode.specs.Datagram.{ArePackets, PlacedPacket}
use Rattle.quic_header_decode.specs.Datagram as datagram
use Rattle.quic_header_decode.specs.Grammar.{Cut, CutAnswer, Uncut}
use Rattle.quic_header_decode.specs.Parsers.{fixed_lawful, fixed_parsed}
use Rattle.quic_header_decode.specs.Reading.{DecodeOptions, TakesWithin, cut_at, read_by}
use Rattle.quic_header_decode.specs.Refusal.{NoMemory, Refusal}
use Rattle.quic_header_decode.specs.Rfc.{RfcRefusal}
use Rattle.quic_header_decode.proofs.Datagrams.{rest_bytes}
use Rattle.quic_header_decode.proofs.Steps.{match_ok}
use Rattle.quic_c_headers.specs.Packets.{PacketAnswerBy}
use Rattle.quic_c_headers.specs.Walks.{AreInRow, AreShown, AtEnd, IsRow, NoRoom, Packet, Refused, RowEnd, StoresRow, full, last, more, placed_shown, refused}
use Rattle.quic_c_headers.specs.declared.words.CHeader.{CHeader}
use Rattle.quic_c_headers.proofs.Packets.{only_answer}
use Rattle.quic_c_headers.proofs.Walking.{Answer}
use Rattle.quic_results.specs.declared.results.Failure.{Failure}
use Rattle.quic_results.specs.declared.results.Failure.TheVariants as failure
use Rattle.quic_results.specs.Results.{failed, returned}

abbrev plain : ℕ → List ℕ → DecodeOptions
plain id_len versions = read_by (fixed_parsed id_len) versions false

takes : (id_len : ℕ) (versions : List ℕ) → TakesWithin (plain id_len versions)
takes id_len versions text id n e =
    match_ok (λ x. x.1 ≤ length text) (λ r. r ≡ NoMemory → ⊥) (fixed_parsed id_len text) (id, n) (fixed_lawful id_len text) e

abbrev CutsAlike : Type 0
CutsAlike =
    (id_len : ℕ) (versions bytes : List ℕ) (h : ProtectedHeader) (header_end end : ℕ)
    → (PacketAnswerBy 0 id_len versions bytes (Ok (h, header_end, end)) ↔ Cut (plain id_len versions) bytes h header_end end)

abbrev CutFound : Type 0
CutFound =
    (options : DecodeOptions) (bytes : List ℕ) → AreBytes bytes → TakesWithin options
    → CutAnswer options bytes (cut_at options bytes)

-- the packets of a row, from an offset on
placed : ℕ → List Packet → List PlacedPacket
placed start [] = []
placed start (packet ∷ packets) =
    record { start = start; stop = start + packet.2; header = packet.0 } ∷ placed (start + packet.2) packets

abbrev EndsAs : RowEnd → Option Refusal → Type 0
EndsAs AtEnd e = e ≡ None
EndsAs NoRoom e = ⊥
EndsAs (Refused r) e = (f : Refusal) × (e ≡ Some f)

uncut_by : (id_len : ℕ) (versions bytes : List ℕ) (e : RfcRefusal) → AreBytes bytes → CutsAlike
    → PacketAnswerBy 0 id_len versions bytes (Err e)
    → (r : Result Packet Refusal) → CutAnswer (plain id_len versions) bytes r
    → (f : Refusal) × Uncut (plain id_len versions) bytes f
uncut_by id_len versions bytes e fits alike is (Ok x) cut =
    absurd (let same : (let a : Answer = Ok x in a) ≡ Err e =
    only_answer 0 id_len versions bytes (Ok x) (Err e) fits ((alike id_len versions bytes x.0 x.1 x.2).1 cut) is in cc)
uncut_by id_len versions bytes e fits alike is (Err f) uncut = (f, uncut)

row_cut : (id_len : ℕ) (versions : List ℕ) → CutsAlike → CutFound → (room start : ℕ) (bytes : List ℕ) (packets : List Packet)
    (why : RowEnd) → AreBytes bytes → why ≢ NoRoom → AreInRow (PacketAnswerBy 0 id_len versions) room bytes packets why
    → (e : Option Refusal) × EndsAs why e × ArePackets (plain id_len versions) start bytes (placed start packets) e
unfolding placed
row_cut id_len versions alike found _ start _ _ _ fits some (last room bytes h p is) =
    (None, refl, datagram.last start bytes h p ((alike id_len versions bytes h p (length bytes)).0 is))
row_cut id_len versions alike found _ start _ _ _ fits some (more room bytes h p q others why is less are) =
    let later = row_cut id_len versions alike found room (start + q) (drop q bytes) others why (rest_bytes q bytes fits) some are in (
      later.0,
      later.1,
      datagram.more start bytes h p q (placed (start + q) others)
          later.0 ((alike id_len versions bytes h p q).0 is) less later.2,
    )
row_cut id_len versions alike found _ start _ _ _ fits some (refused room bytes e is) =
    let f =
    uncut_by id_len versions bytes e fits alike is (cut_at (plain id_len versions) bytes)
    (found (plain id_len versions) bytes fits (takes id_len versions)) in
    (Some f.0, (f.0, refl), datagram.refused start bytes f.0 f.1)
row_cut id_len versions alike found _ start _ _ _ fits some (full bytes) = absurd (some refl)

shown_placed : (start : ℕ) (bytes : List ℕ) (packets : List Packet) (heads : List CHeader) → AreShown bytes packets heads
    → placed start packets ≡ placed_shown start bytes heads
unfolding placed
shown_placed start bytes [] heads are = ap (placed_shown start bytes) (sym are)
shown_placed start bytes (packet ∷ packets) [] are = absurd are
shown_placed start bytes (packet ∷ packets) (head ∷ heads) (h, p, q, are) =
    let later = shown_placed (start + packet.2) (drop packet.2 bytes) packets heads are in
    ap (λ (xs : List PlacedPacket). record { start = start; stop = start + packet.2; header = packet.0 } ∷ xs) later
    ∙ ap (λ (n : ℕ). record { start = start; stop = start + n; header = packet.0 }
    ∷ placed_shown (start + n) (drop n bytes) heads) (sym q)
    ∙ ap (λ (x : ProtectedHeader). record { start = start; stop = start + head.end; header = x }
    ∷ placed_shown (start + head.end) (drop head.end bytes) heads) h

abbrev Distinct : Type 0
Distinct = (one other : Result ℕ Failure) → returned one ≡ returned other → one ≡ other

abbrev pub Walked : ℕ → List ℕ → ℕ → List ℕ → ℕ → ℤ → List CHeader → Type 0
Walked id_len versions room bytes count result heads =
    ReturnsOne (IsRow (PacketAnswerBy 0 id_len versions) room bytes) (StoresRow bytes count result heads)

abbrev ArePlain : ℕ → List ℕ → List ℕ → ℕ → List CHeader → Option Refusal → Type 0
ArePlain id_len versions bytes count heads e =
    ArePackets (plain id_len versions) 0 bytes (placed_shown 0 bytes (take count heads)) e

to_end : (id_len : ℕ) (versions : List ℕ) (room : ℕ) (bytes : List ℕ) (count : ℕ) (result : ℤ) (heads : List CHeader)
    (packets : List Packet) (why : RowEnd) → AreBytes bytes → CutsAlike → CutFound
    → AreInRow (PacketAnswerBy 0 id_len versions) room bytes packets why
    → StoresRow bytes count result heads (packets, why) → why ≢ NoRoom
    → (e : Option Refusal) × EndsAs why e × ArePlain id_len versions bytes count heads e
to_end id_len versions room bytes count result heads packets why fits alike found are stores some =
    let r = row_cut id_len versions alike found room 0 bytes packets why fits some are in (
      r.0,
      r.1,
      subst (λ (xs : List PlacedPacket). ArePackets (plain id_len versions) 0 bytes xs r.0)
          (shown_placed 0 bytes packets (take count heads) stores.shown) r.2,
    )

whole_by : (id_len : ℕ) (versions : List ℕ) (room : ℕ) (bytes : List ℕ) (count : ℕ) (result : ℤ) (heads : List CHeader)
    (packets : List Packet) (why : RowEnd) → AreBytes bytes → CutsAlike → CutFound
    → AreInRow (PacketAnswerBy 0 id_len versions) room bytes packets why
    → StoresRow bytes count result heads (packets, why) → result ≡ pos 0
    → ArePlain id_len versions bytes count heads None
whole_by id_len versions room bytes count result heads packets AtEnd fits alike found are stores ends =
    let r =
    to_end id_len versions room bytes count result heads packets AtEnd fits alike found are stores (λ e. cc) in
    subst (ArePlain id_len versions bytes count heads) r.1 r.2
whole_by id_len versions room bytes count result heads packets NoRoom fits alike found are stores ends =
    absurd (let no = sym stores.why ∙ ends in cc)
whole_by id_len versions room bytes count result heads packets (Refused e) fits alike found are stores ends =
    absurd (let no = sym stores.why.1 ∙ ends in cc)

refused_by : (id_len : ℕ) (versions : List ℕ) (room : ℕ) (bytes : List ℕ) (count : ℕ) (result : ℤ) (heads : List CHeader)
    (packets : List Packet) (end : RowEnd) (why : Failure) → AreBytes bytes → CutsAlike → CutFound → Distinct
    → AreInRow (PacketAnswerBy 0 id_len versions) room bytes packets end
    → StoresRow bytes count result heads (packets, end) → result ≡ failed why
    → (why ≡ failure.NoRoom) ⊎ ((e : Refusal) × ArePlain id_len versions bytes count heads (Some e))
refused_by id_len versions room bytes count result heads packets AtEnd why fits alike found distinct are stores fails =
    absurd (let no = sym stores.why ∙ fails in cc)
refused_by id_len versions room bytes count result heads packets NoRoom why fits alike found distinct are stores fails =
    inl (let same = distinct (Err why) (Err failure.NoRoom) (sym fails ∙ stores.why) in cc)
refused_by id_len versions room bytes count result heads packets (Refused r) why fits alike found distinct are stores fails =
    let x =
    to_end id_len versions room bytes count result heads packets (Refused r) fits alike found are stores (λ e. cc) in
    inr (x.1.0, subst (ArePlain id_len versions bytes count heads) x.1.1 x.2)

pub plain_whole : (id_len : ℕ) (versions : List ℕ) (room : ℕ) (bytes : List ℕ) (count : ℕ) (result : ℤ) (heads : List CHeader)
    → AreBytes bytes → CutsAlike → CutFound → Walked id_len versions room bytes count result heads → result ≡ pos 0
    → ArePlain id_len versions bytes count heads None
plain_whole id_len versions room bytes count result heads fits alike found w ends =
    whole_by id_len versions room bytes count result heads w.one.it.0 w.one.it.1 fits alike found w.one.is w.returned ends

pub plain_refused : (id_len : ℕ) (versions : List ℕ) (room : ℕ) (bytes : List ℕ) (count : ℕ) (result : ℤ)
    (heads : List CHeader) (why : Failure) → AreBytes bytes → CutsAlike → CutFound → Distinct
    → Walked id_len versions room bytes count result heads
    → result ≡ failed why
    → (why ≡ failure.NoRoom) ⊎ ((e : Refusal) × ArePlain id_len versions bytes count heads (Some e))
plain_refused id_len versions room bytes count result heads why fits alike found distinct w fails =
    refused_by id_len versions room bytes count result heads w.one.it.0 w.one.it.1 why fits alike found distinct w.one.is
    w.returned fails
