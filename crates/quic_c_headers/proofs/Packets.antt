-- What the call that reads headers returns is the packet that the flags allow, or the first thing that they don't.
use Rattle.std.specs.Prelude.{◌≡◌, ℕ, ℤ, ◌+◌, ◌<◌, ◌≤◌, Bool, true, false, ◌&&◌, if◌then◌else◌, List, length, drop, nat_le, ◌-◌, Option, None, Some, Result, Ok, Err, nat_lt, ◌==◌, unwrap_or, codes}
use Rattle.std.proofs.Common.{refl, sym, ap, subst, ◌∙◌, arith}
use Rattle.std.specs.Option.{option_map_or}
use Rattle.std.proofs.lemmas.Bool.Decides.{nat_tests}
use Rattle.quic_base.specs.Number.{AreBytes, has_bit}
use Rattle.quic_base.specs.One.{ReturnsOne}
use Rattle.quic_header_encode.specs.Kinds.{row}
use Rattle.quic_header_encode.specs.declared.long_type.HeaderKind.{HeaderKind}
use Rattle.quic_header_encode.specs.declared.long_type.HeaderKind.TheVariants as kind
use Rattle.quic_header_decode.specs.declared.fields.Place.{Place}
use Rattle.quic_header_decode.specs.declared.places.HeaderPlaces.{HeaderPlaces}
use Rattle.quic_header_decode.specs.declared.places.ReadError.{ReadError}
use Rattle.quic_header_decode.specs.declared.places.ReadError.TheVariants as error
use Rattle.quic_header_decode.specs.declared.protected.ProtectedHeader.{ProtectedHeader}
use Rattle.quic_header_decode.specs.Grammar.{Cut, HeaderAt, Uncut, no_header}
use Rattle.quic_header_decode.specs.Places.{any_fixed, dst_part, src_part, ends_at, header_in, header_placed, seen_in, ArePlacesWithin, IsSeen, ReadAnswer}
use Rattle.quic_header_decode.specs.Reading.{DecodeOptions}
use Rattle.quic_header_decode.specs.Refusal.{Refusal, Invalid, Unsupported}
use Rattle.quic_header_decode.specs.Rfc.{IsComplete, PartialRetry, RfcRefusal, Unread}
use Rattle.quic_header_decode.proofs.RfcPackets.{cut_or, cut_same, uncut_same, unknown_once, unknown_uncut, unknown_unread}
use Rattle.quic_c_headers.specs.Headers.{word_of}
use Rattle.quic_c_headers.specs.Packets.{IsPacketBy, IsRefusedBy, IsReturned, PacketAnswerBy, StandsFor, fixed_bit, header_shown, kind_of, retry, uncut, unknown_version}
use Rattle.quic_c_headers.specs.Reading.{LacksFixedBit, Reported, header_words, is_partial, outcome_of, placed_words, token_in}
use Rattle.quic_c_headers.specs.declared.words.CHeader.{CHeader}
use Rattle.quic_results.specs.declared.results.Failure.{Failure}
use Rattle.quic_results.specs.declared.results.Failure.TheVariants as failure
use Rattle.quic_results.specs.Results.{failed, returned}

abbrev pub Packet : Type 0
Packet = ProtectedHeader × ℕ × ℕ

abbrev pub Answer : Type 0
Answer = Result Packet RfcRefusal

abbrev pub WholeLaw : Type 0
WholeLaw =
    (options : DecodeOptions) (bytes : List ℕ) (x : HeaderPlaces) (q : ℕ)
    → HeaderAt options (length bytes) bytes (header_in bytes x) (drop x.header_end bytes) → x.header_end
    ≤ length bytes
    → ends_at x (length bytes) ≡ Some q → Cut options bytes (header_in bytes x) x.header_end q

abbrev pub CutOffLaw : Type 0
CutOffLaw =
    (options : DecodeOptions) (bytes : List ℕ) (x : HeaderPlaces)
    → HeaderAt options (length bytes) bytes (header_in bytes x) (drop x.header_end bytes)
    → x.header_end ≤ length bytes
    → ends_at x (length bytes) ≡ None
    → Uncut options bytes (Invalid (codes "packet too short to contain payload length"))

-- ---- the header by its fields

kind_back : (k : HeaderKind) → kind_of (word_of (row k)) ≡ k
kind_back kind.Initial = refl
kind_back kind.ZeroRtt = refl
kind_back kind.Handshake = refl
kind_back kind.Retry = refl
kind_back kind.Short = refl
kind_back kind.VersionNegotiate = refl

-- an Initial packet's token is shown where it is; others have none in their headers
placed_same : (k : HeaderKind) (first : ℕ) (dst src : List ℕ) (token : Place) (len version at whole : ℕ)
    → token.start ≤ token.end
    → (shown : Place) → shown ≡ (if (word_of (row k) == 3) && nat_le (at + 16) whole
    then record { start = at; end = whole - 16 } else token)
    → header_placed k first dst src token len version
    ≡ header_placed k first dst src (record { start = shown.start; end = shown.start + (shown.end - shown.start) }) len version
placed_same kind.Initial first dst src token len version at whole order shown is =
    (let e : token.start + (token.end - token.start) ≡ token.end = omega arith in cc)
placed_same kind.ZeroRtt first dst src token len version at whole order shown is = refl
placed_same kind.Handshake first dst src token len version at whole order shown is = refl
placed_same kind.Retry first dst src token len version at whole order shown is = refl
placed_same kind.Short first dst src token len version at whole order shown is = refl
placed_same kind.VersionNegotiate first dst src token len version at whole order shown is = refl

header_back : (packet : List ℕ) (x : HeaderPlaces) → x.token.start ≤ x.token.end
    → header_in packet x ≡ header_shown packet (placed_words packet x)
header_back packet x order =
    placed_same x.kind x.first (dst_part packet x) (src_part packet x) x.token x.len x.version x.header_end (length packet)
    order (token_in x (length packet)) refl
    ∙ ap (λ (k : HeaderKind). header_in packet (record {
      kind = k;
      first = x.first;
      version = x.version;
      dst_len = x.dst_len;
      src_len = x.src_len;
      token = record {
        start = (token_in x (length packet)).start;
        end = (token_in x (length packet)).start
            + ((token_in x (length packet)).end - (token_in x (length packet)).start);
      };
      len = x.len;
      header_end = x.header_end;
    })) (sym (kind_back x.kind))

-- ---- Retry packets

both : (a b c : Bool) → (a && (b && c)) ≡ true → (a ≡ true) × (b ≡ true) × (c ≡ true)
both true true true e = (refl, refl, refl)
both true true false e = absurd cc
both true false c e = absurd cc
both false b c e = absurd cc

third : (a b c : Bool) → (a && (b && c)) ≡ false → a ≡ true → b ≡ true → c ≡ false
third true true true e f g = absurd cc
third true true false e f g = refl
third true false c e f g = absurd cc
third false b c e f g = absurd cc

is_retry : (k : HeaderKind) → (word_of (row k) == 3) ≡ true → k ≡ kind.Retry
is_retry kind.Initial e = absurd cc
is_retry kind.ZeroRtt e = absurd cc
is_retry kind.Handshake e = absurd cc
is_retry kind.Retry e = refl
is_retry kind.Short e = absurd cc
is_retry kind.VersionNegotiate e = absurd cc

-- where a Retry ends, and that it isn't complete
retry_end : (k : HeaderKind) (first at len version size : ℕ) (dst src : List ℕ) (token : Place) → k ≡ kind.Retry
    → ((if (row k).has_len then (if nat_lt size (at + len) then None else Some (at + len)) else Some size) ≡ Some size)
    × (IsComplete (header_placed k first dst src token len version) at size → at + 17 ≤ size)
retry_end kind.Retry first at len version size dst src token is = (refl, λ complete. complete)
retry_end kind.Initial first at len version size dst src token is = absurd cc
retry_end kind.ZeroRtt first at len version size dst src token is = absurd cc
retry_end kind.Handshake first at len version size dst src token is = absurd cc
retry_end kind.Short first at len version size dst src token is = absurd cc
retry_end kind.VersionNegotiate first at len version size dst src token is = absurd cc

-- any other packet is complete, and so is a Retry that isn't partial
complete_end : (k : HeaderKind) (first at len version size q : ℕ) (dst src : List ℕ) (token : Place)
    → ((word_of (row k) == 3) ≡ true → nat_lt size (at + 17) ≡ false)
    → (if (row k).has_len then (if nat_lt size (at + len) then None else Some (at + len)) else Some size) ≡ Some q
    → IsComplete (header_placed k first dst src token len version) at q
complete_end kind.Retry first at len version size q dst src token enough ends =
    (let test = enough refl in let same : size ≡ q = cc in let le : at + 17 ≤ size = grind (arith, nat_tests) in omega arith)
complete_end kind.Initial first at len version size q dst src token enough ends = tt
complete_end kind.ZeroRtt first at len version size q dst src token enough ends = tt
complete_end kind.Handshake first at len version size q dst src token enough ends = tt
complete_end kind.Short first at len version size q dst src token enough ends = tt
complete_end kind.VersionNegotiate first at len version size q dst src token enough ends = tt

-- ---- what is returned

abbrev Found : ℕ → ℕ → List ℕ → List ℕ → ℤ → CHeader → Type 0
Found flags id_len versions packet result new =
    (answer : Answer) × PacketAnswerBy flags id_len versions packet answer × IsReturned packet result new answer

place_found : (flags id_len : ℕ) (versions packet : List ℕ) (x : HeaderPlaces) (old : CHeader) → WholeLaw → CutOffLaw
    → ¬ (LacksFixedBit flags versions packet)
    → HeaderAt (any_fixed id_len versions) (length packet) packet (header_in packet x) (drop x.header_end packet)
    → ArePlacesWithin x.kind x (length packet)
    → (partial : Bool) → is_partial flags x (length packet) ≡ partial
    → (end : Option ℕ) → ends_at x (length packet) ≡ end
    → Found flags id_len versions packet
    (returned (if partial then Err failure.PacketRetry else option_map_or (λ q. Ok q) end (Err failure.PacketCut)))
    (if partial then old else placed_words packet x)
place_found flags id_len versions packet x old whole cut_off present read placed true is end ends =
    let tests = both (word_of (row x.kind) == 3) (has_bit 0x40 flags) (nat_lt (length packet) (x.header_end + 17)) is in
    let r =
    retry_end x.kind x.first x.header_end x.len x.version (length packet) (dst_part packet x) (src_part packet x) x.token
    (is_retry x.kind tests.0) in
    let few : length packet < x.header_end + 17 = (let test = tests.2 in grind (arith, nat_tests)) in (
      Err PartialRetry,
      retry (header_in packet x) x.header_end (length packet) tests.1 present
          (whole (any_fixed id_len versions) packet x (length packet) read placed.head r.0)
          (λ complete. (let le = r.1 complete in omega arith)),
      (failure.PacketRetry, refl, refl),
    )
place_found flags id_len versions packet x old whole cut_off present read placed false is None ends = (
  Err (Unread (Invalid (codes "packet too short to contain payload length"))),
  uncut (Invalid (codes "packet too short to contain payload length")) present
      (λ number dst src unknown. unknown_unread (any_fixed id_len versions) packet dst src number (length packet)
      (header_in packet x) (drop x.header_end packet) unknown read)
      (cut_off (any_fixed id_len versions) packet x read placed.head ends),
  (failure.PacketCut, refl, refl),
)
place_found flags id_len versions packet x old whole cut_off present read placed false is (Some q) ends = (
  Ok (header_in packet x, x.header_end, q),
  record {
    cut = whole (any_fixed id_len versions) packet x q read placed.head ends;
    fixed = present;
    complete = λ asked. complete_end x.kind x.first x.header_end x.len
        x.version (length packet) q (dst_part packet x) (src_part packet x) x.token
        (λ is_retry. third (word_of (row x.kind) == 3) (has_bit 0x40 flags)
        (nat_lt (length packet) (x.header_end + 17)) is is_retry asked) ends;
  },
  (
    refl,
    header_back packet x placed.token_order,
    refl,
    ap (λ (o : Option ℕ). unwrap_or o (length packet)) ends,
  ),
)

unread : (flags id_len : ℕ) (versions packet text : List ℕ) (why : Failure) (new : CHeader)
    → ¬ (LacksFixedBit flags versions packet)
    → ReadAnswer (any_fixed id_len versions) packet (Err (Invalid text)) → StandsFor why (Unread (Invalid text))
    → Found flags id_len versions packet (failed why) new
unread flags id_len versions packet text why new present right stands = (
  Err (Unread (Invalid text)),
  uncut (Invalid text) present (λ number dst src. right.1 number dst src) (no_header (Invalid text) right.0),
  (why, refl, stands),
)

read_found : (flags id_len : ℕ) (versions packet : List ℕ) (read : Result HeaderPlaces ReadError) (old : CHeader)
    → WholeLaw → CutOffLaw → ¬ (LacksFixedBit flags versions packet)
    → ReadAnswer (any_fixed id_len versions) packet (seen_in packet read) → IsSeen read (length packet)
    → Found flags id_len versions packet (returned (outcome_of flags read (length packet)))
    (header_words flags packet read old)
read_found flags id_len versions packet (Ok x) old whole cut_off present right seen =
    place_found flags id_len versions packet x old whole cut_off present right seen (is_partial flags x (length packet)) refl
    (ends_at x (length packet)) refl
read_found flags id_len versions packet (Err (error.UnsupportedVersion n dst_len src_len)) old whole cut_off present right seen = (
  Err (Unread (Unsupported _ _ n)),
  unknown_version n _ _ present right,
  (failure.PacketVersion, refl, (n, _, _, refl)),
)
read_found flags id_len versions packet (Err error.UnexpectedEnd) old whole cut_off present right seen =
    unread flags id_len versions packet _ failure.PacketEnd old present right refl
read_found flags id_len versions packet (Err error.SmallPacket) old whole cut_off present right seen =
    unread flags id_len versions packet _ failure.PacketSmall old present right refl
read_found flags id_len versions packet (Err error.MalformedCid) old whole cut_off present right seen =
    unread flags id_len versions packet _ failure.PacketId old present right refl
read_found flags id_len versions packet (Err error.TokenOutOfBounds) old whole cut_off present right seen =
    unread flags id_len versions packet _ failure.PacketToken old present right refl

-- ---- one answer

reported_same : (dst src d s : List ℕ) (number n : ℕ) → (s ≡ src) × (d ≡ dst) × (n ≡ number)
    → Unread (Unsupported src dst number) ≡ Unread (Unsupported s d n)
reported_same dst src d s number n (src_is, dst_is, is) = cc

refused_only : (flags id_len : ℕ) (versions bytes : List ℕ) (e f : RfcRefusal) → AreBytes bytes
    → IsRefusedBy flags id_len versions bytes e → IsRefusedBy flags id_len versions bytes f → e ≡ f
refused_only flags id_len versions bytes _ _ fits (fixed_bit l) (fixed_bit m) = refl
refused_only flags id_len versions bytes _ _ fits (fixed_bit l) (unknown_version n d s present u) = absurd (present l)
refused_only flags id_len versions bytes _ _ fits (fixed_bit l) (uncut e present known is) = absurd (present l)
refused_only flags id_len versions bytes _ _ fits (fixed_bit l) (retry h p q asked present cut some) = absurd (present l)
refused_only flags id_len versions bytes _ _ fits (unknown_version n d s present u) (fixed_bit l) = absurd (present l)
refused_only flags id_len versions bytes _ _ fits (unknown_version n d s present u) (unknown_version n' d' s' p' u') =
    reported_same d s d' s' n n' (unknown_once (any_fixed id_len versions) bytes d s d' s' n n' u u')
refused_only flags id_len versions bytes _ _ fits (unknown_version n d s present u) (uncut e p' known is) =
    absurd (known n d s u)
refused_only flags id_len versions bytes _ _ fits (unknown_version n d s present u) (retry h p q asked p' cut some) =
    absurd (unknown_uncut (any_fixed id_len versions) bytes d s n h p q u cut)
refused_only flags id_len versions bytes _ _ fits (uncut e present known is) (fixed_bit l) = absurd (present l)
refused_only flags id_len versions bytes _ _ fits (uncut e present known is) (unknown_version n d s p' u) =
    absurd (known n d s u)
refused_only flags id_len versions bytes _ _ fits (uncut e present known is) (uncut f p' known' is') =
    ap (λ (r : Refusal). Unread r) (uncut_same (any_fixed id_len versions) bytes e f fits is is')
refused_only flags id_len versions bytes _ _ fits (uncut e present known is) (retry h p q asked p' cut some) =
    absurd (cut_or (any_fixed id_len versions) bytes (h, p, q) e fits cut is)
refused_only flags id_len versions bytes _ _ fits (retry h p q asked present cut some) (fixed_bit l) = absurd (present l)
refused_only flags id_len versions bytes _ _ fits (retry h p q asked present cut some) (unknown_version n d s p' u) =
    absurd (unknown_uncut (any_fixed id_len versions) bytes d s n h p q u cut)
refused_only flags id_len versions bytes _ _ fits (retry h p q asked present cut some) (uncut e p' known is) =
    absurd (cut_or (any_fixed id_len versions) bytes (h, p, q) e fits cut is)
refused_only flags id_len versions bytes _ _ fits (retry h p q asked present cut some) (retry h' p' q' asked' present' cut' some') = refl

not_refused : (flags id_len : ℕ) (versions bytes : List ℕ) (a : Packet) (e : RfcRefusal) → AreBytes bytes
    → IsPacketBy flags id_len versions bytes a.0 a.1 a.2 → ¬ (IsRefusedBy flags id_len versions bytes e)
not_refused flags id_len versions bytes a _ fits is (fixed_bit l) = is.fixed l
not_refused flags id_len versions bytes a _ fits is (unknown_version n d s present u) =
    unknown_uncut (any_fixed id_len versions) bytes d s n a.0 a.1 a.2 u is.cut
not_refused flags id_len versions bytes a _ fits is (uncut e present known other) =
    cut_or (any_fixed id_len versions) bytes a e fits is.cut other
not_refused flags id_len versions bytes a _ fits is (retry h p q asked present cut partial) =
    partial (subst (λ (x : Packet). IsComplete x.0 x.1 x.2) (cut_same (any_fixed id_len versions) bytes a (h, p, q) is.cut cut)
    (is.complete asked))

pub only_answer : (flags id_len : ℕ) (versions bytes : List ℕ) (one other : Answer) → AreBytes bytes
    → PacketAnswerBy flags id_len versions bytes one → PacketAnswerBy flags id_len versions bytes other → one ≡ other
only_answer flags id_len versions bytes (Ok a) (Ok b) fits is is' =
    ap (λ (x : Packet). let r : Answer = Ok x in r) (cut_same (any_fixed id_len versions) bytes a b is.cut is'.cut)
only_answer flags id_len versions bytes (Ok a) (Err e) fits is is' =
    absurd (not_refused flags id_len versions bytes a e fits is is')
only_answer flags id_len versions bytes (Err e) (Ok a) fits is is' =
    absurd (not_refused flags id_len versions bytes a e fits is' is)
only_answer flags id_len versions bytes (Err e) (Err f) fits is is' =
    ap (λ (x : RfcRefusal). let r : Answer = Err x in r) (refused_only flags id_len versions bytes e f fits is is')

-- ---- the call

abbrev Returns : ℕ → ℕ → List ℕ → List ℕ → ℤ → CHeader → Type 0
Returns flags id_len versions packet result new =
    ReturnsOne (PacketAnswerBy flags id_len versions packet) (IsReturned packet result new)

returns_found : (flags id_len : ℕ) (versions packet : List ℕ) (result : ℤ) (new : CHeader) → AreBytes packet
    → Found flags id_len versions packet result new → Returns flags id_len versions packet result new
returns_found flags id_len versions packet result new fits found = record {
  one = record {
    it = found.0;
    is = found.1;
    only = λ other is. only_answer flags id_len versions packet other found.0 fits is found.1;
  };
  returned = found.2;
}

-- by what is reported
pub returns_one : (flags id_len : ℕ) (versions packet : List ℕ) (old new : CHeader) (result : ℤ) → AreBytes packet
    → WholeLaw → CutOffLaw
    → ¬ (LacksFixedBit flags versions packet)
    → (r : (outcome : Result ℕ Failure) × (result ≡ returned outcome) × Reported flags id_len versions packet old outcome new)
    → Returns flags id_len versions packet result new
returns_one flags id_len versions packet old new result fits whole cut_off present (outcome, is, t) =
    returns_found flags id_len versions packet result new fits
    (subst (λ (n : CHeader). Found flags id_len versions packet result n) (sym t.words)
    (subst (λ (n : ℤ). Found flags id_len versions packet n (header_words flags packet t.read old))
    (sym (is ∙ ap returned t.outcome_is))
    (read_found flags id_len versions packet t.read old whole cut_off present t.right t.stored)))

-- the fixed bit
pub returns_fixed : (flags id_len : ℕ) (versions packet : List ℕ) (new : CHeader) (result : ℤ) → AreBytes packet
    → LacksFixedBit flags versions packet → result ≡ failed failure.PacketFixedBit
    → Returns flags id_len versions packet result new
returns_fixed flags id_len versions packet new result fits lacks is =
    returns_found flags id_len versions packet result new fits
    (Err (Unread (Invalid (codes "fixed bit unset"))), fixed_bit lacks, (failure.PacketFixedBit, is, refl))

partial_fixed : (partial : Bool) (end : Option ℕ)
    → ¬ ((let r : Result ℕ Failure = if partial then Err failure.PacketRetry
    else option_map_or (λ q. Ok q) end (Err failure.PacketCut) in r) ≡ Err failure.PacketFixedBit)
partial_fixed true end e = cc
partial_fixed false None e = cc
partial_fixed false (Some q) e = cc

-- what is reported isn't the fixed bit
pub reported_fixed : (flags : ℕ) (read : Result HeaderPlaces ReadError) (whole : ℕ)
    → ¬ (outcome_of flags read whole ≡ Err failure.PacketFixedBit)
reported_fixed flags (Ok x) whole e = partial_fixed (is_partial flags x whole) (ends_at x whole) e
reported_fixed flags (Err (error.UnsupportedVersion n dst_len src_len)) whole e = cc
reported_fixed flags (Err error.UnexpectedEnd) whole e = cc
reported_fixed flags (Err error.SmallPacket) whole e = cc
reported_fixed flags (Err error.MalformedCid) whole e = cc
reported_fixed flags (Err error.TokenOutOfBounds) whole e = cc
