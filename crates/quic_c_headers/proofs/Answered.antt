-- What is reported about the header at the front of bytes is unique, and a packet that is complete is cut there.
use Rattle.std.specs.Prelude.{◌≡◌, ℕ, ◌+◌, ◌≤◌, Bool, true, false, if◌then◌else◌, List, length, drop, Option, None, Some, Result, Ok, Err, slice_index, slice_range, IfOk}
use Rattle.std.proofs.Common.{refl, sym, ap, subst, ◌∙◌, arith, length-drop, length-take}
use Rattle.quic_base.specs.Number.{AreBytes}
use Rattle.quic_header_encode.specs.declared.long_type.HeaderKind.{HeaderKind}
use Rattle.quic_header_encode.specs.declared.long_type.HeaderKind.TheVariants as kind
use Rattle.quic_header_decode.specs.declared.fields.Place.{Place}
use Rattle.quic_header_decode.specs.declared.places.HeaderPlaces.{HeaderPlaces}
use Rattle.quic_header_decode.specs.declared.places.ReadError.{ReadError}
use Rattle.quic_header_decode.specs.declared.places.ReadError.TheVariants as error
use Rattle.quic_header_decode.specs.declared.protected.ProtectedHeader.{ProtectedHeader}
use Rattle.quic_header_decode.specs.declared.protected.ProtectedHeader.TheVariants as protected
use Rattle.quic_header_decode.specs.declared.protected.ProtectedInitialHeader.{ProtectedInitialHeader}
use Rattle.quic_header_decode.specs.Grammar.{Cut, HeaderAt}
use Rattle.quic_header_decode.specs.Places.{any_fixed, dst_part, src_part, dst_place, ends_at, header_placed, ids_end, header_in, refusal_in, seen_in, ArePlaces, ArePlacesWithin, IsSeen, ReadAnswer}
use Rattle.quic_header_decode.specs.Reading.{DecodeOptions}
use Rattle.quic_header_decode.specs.Refusal.{Refusal, Unsupported, Invalid, NoMemory}
use Rattle.quic_c_headers.specs.declared.words.CHeader.{CHeader}
use Rattle.quic_c_headers.specs.Reading.{header_words, is_partial, outcome_of, placed_words, Reported}
use Rattle.quic_results.specs.declared.results.Failure.{Failure}
use Rattle.quic_results.specs.declared.results.Failure.TheVariants as failure
use Rattle.std.specs.Option.{option_map_or}

-- ---- what a header has at its offsets

-- two lists of fields are the same, as far as a header of the kind has them
abbrev AreSame : HeaderKind → List ℕ → List ℕ → Place → Place → ℕ → ℕ → ℕ → ℕ → Type 0
AreSame kind.Initial src other p q len n version v =
    (src ≡ other) × (p.start ≡ q.start) × (p.end ≡ q.end) × (len ≡ n) × (version ≡ v)
AreSame kind.ZeroRtt src other p q len n version v = (src ≡ other) × (len ≡ n) × (version ≡ v)
AreSame kind.Handshake src other p q len n version v = (src ≡ other) × (len ≡ n) × (version ≡ v)
AreSame kind.Retry src other p q len n version v = (src ≡ other) × (version ≡ v)
AreSame kind.Short src other p q len n version v = Unit {0}
AreSame kind.VersionNegotiate src other p q len n version v = src ≡ other

initial_is : (h g : ProtectedInitialHeader) → protected.Initial h ≡ protected.Initial g → h ≡ g
initial_is h g e = cc

same_described : (k l : HeaderKind) (first f : ℕ) (dst d src s : List ℕ) (p q : Place) (len n version v : ℕ)
    → header_placed k first dst src p len version ≡ header_placed l f d s q n v
    → (k ≡ l) × (dst ≡ d) × AreSame k src s p q len n version v
same_described kind.Initial kind.Initial first f dst d src s p q len n version v e =
    let same = initial_is _ _ e in (
      refl,
      ap (λ (h : ProtectedInitialHeader). h.dst_cid) same,
      (
        ap (λ (h : ProtectedInitialHeader). h.src_cid) same,
        ap (λ (h : ProtectedInitialHeader). h.token_pos.start) same,
        ap (λ (h : ProtectedInitialHeader). h.token_pos.end) same,
        ap (λ (h : ProtectedInitialHeader). h.len) same,
        ap (λ (h : ProtectedInitialHeader). h.version) same,
      ),
    )
same_described kind.ZeroRtt kind.ZeroRtt first f dst d src s p q len n version v e = (refl, cc, (cc, cc, cc))
same_described kind.Handshake kind.Handshake first f dst d src s p q len n version v e = (refl, cc, (cc, cc, cc))
same_described kind.Retry kind.Retry first f dst d src s p q len n version v e = (refl, cc, (cc, cc))
same_described kind.Short kind.Short first f dst d src s p q len n version v e = (refl, cc, tt)
same_described kind.VersionNegotiate kind.VersionNegotiate first f dst d src s p q len n version v e = (refl, cc, cc)
same_described k l first f dst d src s p q len n version v e = absurd cc

-- ---- the offsets of a header

slice_len : (a n : ℕ) (xs : List ℕ) → a + n ≤ length xs → length (slice_range xs a (a + n)) ≡ n
slice_len a n xs room = simp (length-take, length-drop) (omega arith)

dst_within : (k : HeaderKind) (x : HeaderPlaces) → ArePlaces k x → dst_place k + x.dst_len ≤ x.header_end
dst_within kind.Initial x f = omega (arith, f.0, f.1, f.2)
dst_within kind.ZeroRtt x f = omega (arith, f.0)
dst_within kind.Handshake x f = omega (arith, f.0)
dst_within kind.Retry x f = omega (arith, f.0)
dst_within kind.Short x f = omega (arith, f.0)
dst_within kind.VersionNegotiate x f = omega (arith, f.0)

src_is : (packet : List ℕ) (x y : HeaderPlaces) → ids_end x ≤ length packet → ids_end y ≤ length packet
    → src_part packet x ≡ src_part packet y → x.src_len ≡ y.src_len
src_is packet x y one two same =
    let a = slice_len (6 + x.dst_len + 1) x.src_len packet (omega arith) in
    let b = slice_len (6 + y.dst_len + 1) y.src_len packet (omega arith) in
    sym a ∙ ap length same ∙ b

-- the other fields of the header
record Others (x y : HeaderPlaces) : Type 0 where
  src : x.src_len ≡ y.src_len
  start : x.token.start ≡ y.token.start
  end : x.token.end ≡ y.token.end
  len : x.len ≡ y.len
  version : x.version ≡ y.version

others : (k : HeaderKind) (packet : List ℕ) (x y : HeaderPlaces) → ArePlaces k x → ArePlaces k y
    → x.header_end ≤ length packet → y.header_end ≤ length packet
    → AreSame k (src_part packet x) (src_part packet y) x.token y.token x.len y.len x.version y.version → Others x y
others kind.Initial packet x y f g one two s = record {
  src = src_is packet x y (omega (arith, f.0, f.1, f.2)) (omega (arith, g.0, g.1, g.2)) s.0;
  start = s.1;
  end = s.2;
  len = s.3;
  version = s.4;
}
others kind.ZeroRtt packet x y f g one two s = record {
  src = src_is packet x y (omega (arith, f.0)) (omega (arith, g.0)) s.0;
  start = f.1.0 ∙ sym g.1.0;
  end = f.1.1 ∙ sym g.1.1;
  len = s.1;
  version = s.2;
}
others kind.Handshake packet x y f g one two s = record {
  src = src_is packet x y (omega (arith, f.0)) (omega (arith, g.0)) s.0;
  start = f.1.0 ∙ sym g.1.0;
  end = f.1.1 ∙ sym g.1.1;
  len = s.1;
  version = s.2;
}
others kind.Retry packet x y f g one two s = record {
  src = src_is packet x y (omega (arith, f.0)) (omega (arith, g.0)) s.0;
  start = f.1.0 ∙ sym g.1.0;
  end = f.1.1 ∙ sym g.1.1;
  len = f.2 ∙ sym g.2;
  version = s.1;
}
others kind.Short packet x y f g one two s = record {
  src = f.1 ∙ sym g.1;
  start = f.2.0 ∙ sym g.2.0;
  end = f.2.1 ∙ sym g.2.1;
  len = f.3 ∙ sym g.3;
  version = f.4 ∙ sym g.4;
}
others kind.VersionNegotiate packet x y f g one two s = record {
  src = src_is packet x y (omega (arith, f.0)) (omega (arith, g.0)) s;
  start = f.1.0 ∙ sym g.1.0;
  end = f.1.1 ∙ sym g.1.1;
  len = f.2 ∙ sym g.2;
  version = f.3 ∙ sym g.3;
}

made : (k l : HeaderKind) (first f version v dst_len d src_len s start a end b len n header_end h : ℕ) → k ≡ l
    → first ≡ f → version ≡ v → dst_len ≡ d → src_len ≡ s → start ≡ a → end ≡ b → len ≡ n → header_end ≡ h
    → ◌≡◌ {A = HeaderPlaces}
    (record {
      kind = k;
      first = first;
      version = version;
      dst_len = dst_len;
      src_len = src_len;
      token = record { start = start; end = end };
      len = len;
      header_end = header_end;
    })
    (record { kind = l; first = f; version = v; dst_len = d; src_len = s; token = record { start = a; end = b }; len = n; header_end = h })
made k l first f version v dst_len d src_len s start a end b len n header_end h e0 e1 e2 e3 e4 e5 e6 e7 e8 = cc

same_places : (packet : List ℕ) (x y : HeaderPlaces) → ArePlacesWithin x.kind x (length packet)
    → ArePlacesWithin y.kind y (length packet) → x.first ≡ y.first
    → header_in packet x ≡ header_in packet y → drop x.header_end packet ≡ drop y.header_end packet → x ≡ y
same_places packet x y one two first words behind =
    let same =
    same_described x.kind y.kind x.first y.first (dst_part packet x) (dst_part packet y) (src_part packet x)
    (src_part packet y) x.token y.token x.len y.len x.version y.version words in
    let head : x.header_end ≡ y.header_end =
    omega (arith, one.head, two.head, simp length-drop at (ap length behind)) in
    let fields : ArePlaces x.kind y = subst (λ (k : HeaderKind). ArePlaces k y) (sym same.0) two.fields in
    let here = dst_within x.kind x one.fields in
    let there = dst_within x.kind y fields in
    let dst_is : dst_part packet x ≡ slice_range packet (dst_place x.kind) (dst_place x.kind + y.dst_len) =
    same.1 ∙ ap (λ (k : HeaderKind). slice_range packet (dst_place k) (dst_place k + y.dst_len)) (sym same.0) in
    let dst : x.dst_len ≡ y.dst_len =
    sym (slice_len (dst_place x.kind) x.dst_len packet (omega (arith, here, one.head))) ∙ ap length dst_is
    ∙ slice_len (dst_place x.kind) y.dst_len packet (omega (arith, there, two.head)) in
    let o = others x.kind packet x y one.fields fields one.head two.head same.2 in
    made x.kind y.kind x.first y.first x.version y.version x.dst_len y.dst_len x.src_len y.src_len x.token.start
    y.token.start x.token.end y.token.end x.len y.len x.header_end y.header_end
    same.0 first o.version dst o.src o.start o.end o.len head

-- ---- what is reported if no header is read

-- a number that distinguishes errors
mark : Refusal → ℕ
mark (Unsupported src dst version) = 0
mark (Invalid text) = length text
mark NoMemory = 1

named : (version v : ℕ) (dst d src s : List ℕ)
    → (let r : Refusal = Unsupported src dst version in r) ≡ Unsupported s d v → (version ≡ v) × (dst ≡ d) × (src ≡ s)
named version v dst d src s e = (cc, cc, cc)

same_reported : (packet : List ℕ) (e f : ReadError) → refusal_in packet e ≡ refusal_in packet f
    → IsSeen (Err e) (length packet) → IsSeen (Err f) (length packet) → e ≡ f
unfolding mark
same_reported packet (error.UnsupportedVersion version dst_len src_len) (error.UnsupportedVersion v d s) is one two =
    let names = named _ _ _ _ _ _ is in
    let dst : dst_len ≡ d =
    sym (slice_len 6 dst_len packet (omega (arith, one.2))) ∙ ap length names.1
    ∙ slice_len 6 d packet (omega (arith, two.2)) in
    let src : src_len ≡ s =
    sym (slice_len (6 + dst_len + 1) src_len packet (omega (arith, one.2))) ∙ ap length names.2
    ∙ slice_len (6 + d + 1) s packet (omega (arith, two.2)) in
    let version_is : version ≡ v = names.0 in
    cc
same_reported packet error.UnexpectedEnd error.UnexpectedEnd is one two = refl
same_reported packet error.SmallPacket error.SmallPacket is one two = refl
same_reported packet error.MalformedCid error.MalformedCid is one two = refl
same_reported packet error.TokenOutOfBounds error.TokenOutOfBounds is one two = refl
same_reported packet e f is one two = absurd (omega (arith, ap mark is))

-- ---- one result

-- the first byte is reported unchanged
abbrev pub HasFirst : Result HeaderPlaces ReadError → List ℕ → Type 0
HasFirst read packet = IfOk read (λ x. x.first ≡ slice_index packet 0)

firsts : (packet : List ℕ) (x y : HeaderPlaces) → HasFirst (Ok x) packet → HasFirst (Ok y) packet → x.first ≡ y.first
firsts packet x y one two = one ∙ sym two

pair_is : (p q : ProtectedHeader × List ℕ) → (let r : Result (ProtectedHeader × List ℕ) Refusal = Ok p in r) ≡ Ok q
    → p ≡ q
pair_is p q e = cc

found_is : (h g : ProtectedHeader) (rest left : List ℕ)
    → (let r : Result (ProtectedHeader × List ℕ) Refusal = Ok (h, rest) in r) ≡ Ok (g, left) → (h ≡ g) × (rest ≡ left)
found_is h g rest left e =
    let same = pair_is (h, rest) (g, left) e in (
      ap (λ (p : ProtectedHeader × List ℕ). p.0) same,
      ap (λ (p : ProtectedHeader × List ℕ). p.1) same,
    )

reported_is : (e f : Refusal) → (let r : Result (ProtectedHeader × List ℕ) Refusal = Err e in r) ≡ Err f → e ≡ f
reported_is e f is = cc

same_read : (packet : List ℕ) (one other : Result HeaderPlaces ReadError) → seen_in packet one ≡ seen_in packet other
    → IsSeen one (length packet) → IsSeen other (length packet)
    → HasFirst one packet → HasFirst other packet → one ≡ other
same_read packet (Ok x) (Ok y) e one two f g =
    let parts = found_is _ _ _ _ e in
    ap Ok (same_places packet x y one two (firsts packet x y f g) parts.0 parts.1)
same_read packet (Ok x) (Err y) e one two f g = absurd cc
same_read packet (Err x) (Ok y) e one two f g = absurd cc
same_read packet (Err x) (Err y) e one two f g = ap Err (same_reported packet x y (reported_is _ _ e) one two)

-- what is reported about a packet is unique
pub one_answer : (flags id_len : ℕ) (versions packet : List ℕ) (old new words : CHeader) (answer other : Result ℕ Failure)
    → ((id_len : ℕ) (versions bytes : List ℕ) (one other : Result (ProtectedHeader × List ℕ) Refusal) → AreBytes bytes
    → ReadAnswer (any_fixed id_len versions) bytes one → ReadAnswer (any_fixed id_len versions) bytes other
    → one ≡ other)
    → AreBytes packet → Reported flags id_len versions packet old answer new
    → Reported flags id_len versions packet old other words → (answer ≡ other) × (new ≡ words)
one_answer flags id_len versions packet old new words answer other law fits t u =
    let seen = law id_len versions packet (seen_in packet t.read) (seen_in packet u.read) fits t.right u.right in
    let same = same_read packet t.read u.read seen t.stored u.stored t.first u.first in (
      t.outcome_is ∙ ap (λ r. outcome_of flags r (length packet)) same ∙ sym u.outcome_is,
      t.words ∙ ap (λ r. header_words flags packet r old) same ∙ sym u.words,
    )

-- ---- where a complete packet ends

-- a packet is cut at the offset in the struct, and ends there
abbrev IsCut : DecodeOptions → List ℕ → CHeader → ℕ → Type 0
IsCut options packet words end = (h : ProtectedHeader) × Cut options packet h words.header_end end

abbrev Law : Type 0
Law =
    (options : DecodeOptions) (bytes : List ℕ) (x : HeaderPlaces) (q : ℕ)
    → HeaderAt options (length bytes) bytes (header_in bytes x) (drop x.header_end bytes) → x.header_end
    ≤ length bytes
    → ends_at x (length bytes) ≡ Some q → Cut options bytes (header_in bytes x) x.header_end q

found_end : (q end : ℕ) → (let r : Result ℕ Failure = Ok end in r) ≡ Ok q → q ≡ end
found_end q end is = cc

ended : (options : DecodeOptions) (packet : List ℕ) (x : HeaderPlaces) (found : Option ℕ) (old new : CHeader) (end : ℕ)
    → Law → HeaderAt options (length packet) packet (header_in packet x) (drop x.header_end packet)
    → x.header_end ≤ length packet → ends_at x (length packet) ≡ found
    → (let r : Result ℕ Failure = Ok end in r) ≡ option_map_or (λ (q : ℕ). Ok q) found (Err failure.PacketCut)
    → new ≡ placed_words packet x → IsCut options packet new end
ended options packet x None old new end law head within ends is words = absurd cc
ended options packet x (Some q) old new end law head within ends is words =
    let start : new.header_end ≡ x.header_end = ap (λ (w : CHeader). w.header_end) words in
    let stop : end ≡ q = sym (found_end q end is) in
    (header_in packet x, rw (start, stop) (law options packet x q head within ends))

-- a complete packet isn't a partial Retry
unless : (is_partial : Bool) (options : DecodeOptions) (packet : List ℕ) (x : HeaderPlaces) (old new : CHeader) (end : ℕ) → Law
    → HeaderAt options (length packet) packet (header_in packet x) (drop x.header_end packet)
    → x.header_end ≤ length packet
    → (let r : Result ℕ Failure = Ok end in r) ≡ (if is_partial then Err failure.PacketRetry
    else option_map_or (λ (q : ℕ). Ok q) (ends_at x (length packet)) (Err failure.PacketCut))
    → new ≡ (if is_partial then old else placed_words packet x) → IsCut options packet new end
unless true options packet x old new end law head within is words = absurd cc
unless false options packet x old new end law head within is words =
    ended options packet x (ends_at x (length packet)) old new end law head within refl is words

cut_there : (flags : ℕ) (options : DecodeOptions) (packet : List ℕ) (read : Result HeaderPlaces ReadError)
    (old new : CHeader) (end : ℕ) → Law → ReadAnswer options packet (seen_in packet read) → IsSeen read (length packet)
    → Ok end ≡ outcome_of flags read (length packet) → new ≡ header_words flags packet read old
    → IsCut options packet new end
cut_there flags options packet (Ok x) old new end law right stored is words =
    unless (is_partial flags x (length packet)) options packet x old new end law right stored.head is words
cut_there flags options packet (Err (error.UnsupportedVersion version dst_len src_len)) old new end law right stored is words =
    absurd cc
cut_there flags options packet (Err error.UnexpectedEnd) old new end law right stored is words = absurd cc
cut_there flags options packet (Err error.SmallPacket) old new end law right stored is words = absurd cc
cut_there flags options packet (Err error.MalformedCid) old new end law right stored is words = absurd cc
cut_there flags options packet (Err error.TokenOutOfBounds) old new end law right stored is words = absurd cc

-- a packet that is reported to be complete is cut at its end
pub whole_cut : (flags id_len : ℕ) (versions packet : List ℕ) (old new : CHeader) (outcome : Result ℕ Failure) (end : ℕ) → Law
    → Reported flags id_len versions packet old outcome new → outcome ≡ Ok end
    → (h : ProtectedHeader) × Cut (any_fixed id_len versions) packet h new.header_end end
whole_cut flags id_len versions packet old new outcome end law t is =
    cut_there flags (any_fixed id_len versions) packet t.read old new end law t.right t.stored (sym is ∙ t.outcome_is) t.words
