-- What is written, and headers that are read back.
use Rattle.std.proofs.Common.{◌≡◌, ℕ, ◌+◌, List, [], ◌++◌, length, Option, None, Result, Ok, refl, sym, ap, ◌∙◌, subst, arith, append_assoc, length-append}
use Rattle.std.specs.Prelude.{MatchOption, OnOk, Err}
use Rattle.std.proofs.lemmas.List.{append-nil}
use Rattle.quic_base.specs.Writing.{Writes}
use Rattle.quic_base.proofs.Encoders.{Wrote, wrote_more, writes_within}
use Rattle.quic_header_decode.specs.Grammar.{CutAnswer, HeaderAt}
use Rattle.quic_header_decode.specs.Headers.{IsWithoutNumber}
use Rattle.quic_header_decode.specs.Datagram.{CutPacket}
use Rattle.quic_header_decode.specs.Reading.{DecodeOptions, len_in}
use Rattle.quic_header_decode.specs.Refusal.{Refusal, RefusesHeader, refusal_of}
use Rattle.quic_header_decode.specs.declared.decode_error.PacketDecodeError.{PacketDecodeError}
use Rattle.quic_header_decode.specs.declared.decode_error.PacketDecodeError.TheVariants as error
use Rattle.quic_header_decode.specs.declared.protected.ProtectedHeader.{ProtectedHeader}
use Rattle.quic_header_decode.specs.declared.protected.ProtectedHeader.TheVariants as protected
use Rattle.quic_header_encode.specs.Writing.{header_bytes}
use Rattle.quic_header_encode.specs.declared.header.Header.{Header}
use Rattle.quic_base.specs.One.{ReturnsOne}
use Rattle.quic_wire.specs.Plain.{IsPlainInRange}

-- ---- bytes that are appended

-- a part of all was appended, and left is to follow
pub record HasPut (all left old now : List ℕ) (spare spare' : ℕ) : Type 0 where
  pub done : List ℕ
  pub split : all ≡ done ++ left
  pub wrote : Wrote done old spare now spare'

pub puts_part : {E : Type 0} (result : Result (Unit {0}) E) (all left old now new part rest : List ℕ) (s s1 s2 : ℕ)
    → HasPut all left old now s s1 → left ≡ part ++ rest → Writes result part now s1 new s2 → result ≡ Ok tt
    → HasPut all rest old new s s2
puts_part result all left old now new part rest s s1 s2 so_far split write ok = record {
  done = so_far.done ++ part;
  split = so_far.split ∙ ap (λ (l : List ℕ). so_far.done ++ l) split ∙ sym (append_assoc so_far.done part rest);
  wrote = wrote_more result so_far.done part old now new s s1 s2 so_far.wrote write ok;
}

pub puts_all : (all left old now : List ℕ) (s s1 : ℕ) → HasPut all left old now s s1 → left ≡ [] → Wrote all old s now s1
puts_all all left old now s s1 so_far none =
    subst (λ (l : List ℕ). Wrote l old s now s1)
    (sym (so_far.split ∙ ap (λ (l : List ℕ). so_far.done ++ l) none ∙ append-nil so_far.done)) so_far.wrote

pub writes_all : {E : Type 0} (all old now : List ℕ) (s s1 : ℕ) → Wrote all old s now s1
    → Writes {E = E} (Ok tt) all old s now s1
writes_all all old now s s1 wrote = record { ok = wrote.stands; err = tt; full = tt; room = wrote.room }

pub puts_some : {D E : Type 0} (result : Result (Unit {0}) E) (refused : Result (Unit {0}) D) (d : D)
    (all left old now new part rest : List ℕ) (s s1 s2 : ℕ) (e : E) → HasPut all left old now s s1 → left ≡ part ++ rest
    → Writes result part now s1 new s2 → result ≡ Err e → refused ≡ Err d → Writes refused all old s new s2
puts_some result refused d all left old now new part rest s s1 s2 e so_far split write is fails =
    writes_within result refused d so_far.done part rest all old now new s s1 s2 e
    (so_far.split ∙ ap (λ (l : List ℕ). so_far.done ++ l) split) so_far.wrote write is fails

-- what was written into an empty buffer is its content
pub content_is : {T E : Type 0} (result : Result T E) (x : T) (old new content bytes : List ℕ) → content ≡ new
    → OnOk result (new ≡ old ++ bytes) → result ≡ Ok x → old ≡ [] → content ≡ bytes
content_is (Ok y) x old new content bytes is wrote e empty = is ∙ wrote ∙ ap (λ (l : List ℕ). l ++ bytes) empty
content_is (Err f) x old new content bytes is wrote e empty = absurd cc

-- ---- headers of packets without protection

lacks_length : (read : ProtectedHeader) (header : Header) → IsWithoutNumber read header → len_in read ≡ None
lacks_length (protected.Retry dst src version) header is = refl
lacks_length (protected.VersionNegotiate random dst src) header is = refl
lacks_length (protected.Initial h) header is = absurd is
lacks_length (protected.Long ty dst src len version) header is = absurd is
lacks_length (protected.Short spin dst) header is = absurd is

abbrev Again : DecodeOptions → Type 0
Again options = (header : Header) (rest : List ℕ) → IsPlainInRange options header
    → (read : ProtectedHeader) × IsWithoutNumber read header
    × HeaderAt options (length (header_bytes header ++ rest)) (header_bytes header ++ rest) read rest

-- the one result for a datagram that begins with such a header
pub plain_answer : (options : DecodeOptions) (bytes : List ℕ) → Again options → (header : Header) (rest : List ℕ)
    → bytes ≡ header_bytes header ++ rest → IsPlainInRange options header
    → (read : ProtectedHeader) × IsWithoutNumber read header
    × CutAnswer options bytes (Ok (read, length (header_bytes header), length bytes))
plain_answer options bytes again header rest text range =
    let written : List ℕ = header_bytes header in
    let back = again header rest range in
    let at : HeaderAt options (length bytes) bytes back.0 rest =
    subst (λ (b : List ℕ). HeaderAt options (length b) b back.0 rest) (sym text) back.2 in
    let end : MatchOption (len_in back.0) (length bytes ≡ length bytes)
    (λ len. length bytes ≡ length written + len) =
    subst (λ (o : Option ℕ). MatchOption o (length bytes ≡ length bytes) (λ len. length bytes ≡ length written + len))
    (sym (lacks_length back.0 header back.1)) refl in
    (back.0, back.1, (rest, at, omega (arith, ap length text, length-append written rest), end, omega arith))

pub plain_cut : (options : DecodeOptions) (bytes : List ℕ) (packet : CutPacket) → Again options
    → ReturnsOne (CutAnswer options bytes) (λ answer. answer ≡ Ok (packet.head, packet.header_end, length packet.bytes))
    → (header : Header) (rest : List ℕ) → bytes ≡ header_bytes header ++ rest → IsPlainInRange options header
    → IsWithoutNumber packet.head header
plain_cut options bytes packet again gives header rest text range =
    let back = plain_answer options bytes again header rest text range in
    let same : (let r : Result (ProtectedHeader × ℕ × ℕ) Refusal = Ok (back.0, length (header_bytes header), length bytes) in r)
    ≡ Ok (packet.head, packet.header_end, length packet.bytes) =
    gives.one.only (Ok (back.0, length (header_bytes header), length bytes)) back.2 ∙ gives.returned in
    let parts : (let p : ProtectedHeader × ℕ × ℕ = (back.0, length (header_bytes header), length bytes) in p)
    ≡ (packet.head, packet.header_end, length packet.bytes) =
    cc in
    let head : back.0 ≡ packet.head = ap (λ (p : ProtectedHeader × ℕ × ℕ). p.0) parts in
    subst (λ (h : ProtectedHeader). IsWithoutNumber h header) head back.1

refused : (options : DecodeOptions) (bytes : List ℕ) (e : Refusal) (read : ProtectedHeader × ℕ × ℕ)
    → ReturnsOne (CutAnswer options bytes) (λ answer. answer ≡ Err e) → CutAnswer options bytes (Ok read) → ⊥
refused options bytes e read gives cut =
    let same : (let r : Result (ProtectedHeader × ℕ × ℕ) Refusal = Ok read in r) ≡ Err e =
    gives.one.only (Ok read) cut ∙ gives.returned in
    absurd cc

pub plain_refused : (options : DecodeOptions) (bytes : List ℕ) (e : PacketDecodeError) → Again options
    → ReturnsOne (CutAnswer options bytes) (RefusesHeader e)
    → (header : Header) (rest : List ℕ) → bytes ≡ header_bytes header ++ rest → IsPlainInRange options header
    → e ≡ error.OutOfMemory
plain_refused options bytes error.OutOfMemory again gives header rest text range = refl
plain_refused options bytes (error.InvalidHeader reason) again gives header rest text range =
    let back = plain_answer options bytes again header rest text range in
    absurd (refused options bytes (refusal_of (error.InvalidHeader reason)) _ gives back.2)
plain_refused options bytes (error.UnsupportedVersion src dst version) again gives header rest text range =
    let back = plain_answer options bytes again header rest text range in
    absurd (refused options bytes (refusal_of (error.UnsupportedVersion src dst version)) _ gives back.2)
