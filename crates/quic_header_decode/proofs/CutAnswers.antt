-- Each datagram has one result.
use Rattle.std.specs.Prelude.{◌≡◌, ◌≢◌, ℕ, ◌+◌, ◌-◌, ◌<◌, ◌≤◌, ◌⊎◌, Bool, IsTrue, true, false, List, ◌++◌, length, take, drop, Option, Some, None, Result, Ok, Err, IfErr, IfOk, IfSome, IsErrOf, nat_lt, codes, unwrap_or, MatchOption, MatchResult}
use Rattle.std.proofs.Common.{sym, ap, ◌∙◌, arith, refl, cond, subst, inl, inr, length-drop}
use Rattle.std.proofs.Math.Seq.{take-append_seam, drop-append_seam}
use Rattle.std.proofs.lemmas.List.{take-append-drop, length-take-le}
use Rattle.bytes.specs.Filled.{Filled}
use Rattle.std.proofs.lemmas.Bool.Decides.{nat_tests}
use Rattle.std.proofs.lemmas.Bool.{cases_lt}
use Rattle.quic_base.specs.Number.{AreBytes}
use Rattle.quic_header_decode.specs.declared.protected.ProtectedHeader.{ProtectedHeader}
use Rattle.quic_header_decode.specs.declared.decode_error.PacketDecodeError.{PacketDecodeError}
use Rattle.quic_header_decode.specs.declared.decode_error.PacketDecodeError.TheVariants as error
use Rattle.quic_header_decode.specs.Refusal.{Refusal, Invalid, NoMemory, GivesRead, refusal_of}
use Rattle.quic_header_decode.specs.Grammar.{HeaderAt, HeaderAnswer, Refused, Cut, Uncut, no_header, past_end, CutAnswer}
use Rattle.quic_header_decode.specs.Datagram.{CutPacket, CutsFirst, IsUncut}
use Rattle.quic_header_decode.specs.Reading.{DecodeOptions, IsRest, header_at, cut_at, left_of, len_in}
use Rattle.quic_header_decode.proofs.Headers.{header_found, header_again, refused_found, refused_again, header_strict}
use Rattle.quic_header_decode.proofs.Steps.{then_ok, then_err, otherwise, taken}

-- a parser consumes only bytes that are there
abbrev pub Takes : DecodeOptions → Type 0
Takes options = (text : List ℕ) (id : List ℕ) (n : ℕ) → options.parsed text ≡ Ok (id, n) → n ≤ length text

header_of : (options : DecodeOptions) (whole : ℕ) (bytes : List ℕ) → AreBytes bytes → length bytes ≤ whole
    → Takes options
    → (read : Result (ProtectedHeader × List ℕ) Refusal) → header_at options whole bytes ≡ read
    → HeaderAnswer options whole bytes read
header_of options whole bytes fits room takes (Ok found) e =
    header_found options whole bytes found.1 found.0 fits room takes e
header_of options whole bytes fits room takes (Err r) e = refused_found options whole bytes r fits takes e

pub header_answer : (options : DecodeOptions) (whole : ℕ) (bytes : List ℕ) → AreBytes bytes → length bytes ≤ whole
    → Takes options → HeaderAnswer options whole bytes (header_at options whole bytes)
header_answer options whole bytes fits room takes =
    header_of options whole bytes fits room takes (header_at options whole bytes) refl

pub header_sole : (options : DecodeOptions) (whole : ℕ) (bytes : List ℕ) (answer : Result (ProtectedHeader × List ℕ) Refusal)
    → AreBytes bytes → HeaderAnswer options whole bytes answer → header_at options whole bytes ≡ answer
header_sole options whole bytes (Ok found) fits h = header_again options whole bytes found.0 found.1 h
header_sole options whole bytes (Err e) fits h = refused_again options whole bytes e fits h

-- ---- cuts

-- what is left is a part of the bytes
pub header_room : (options : DecodeOptions) (whole : ℕ) (bytes : List ℕ) (h : ProtectedHeader) (rest : List ℕ)
    → HeaderAt options whole bytes h rest → length rest ≤ length bytes
header_room options whole bytes h rest d = omega (arith, header_strict options whole bytes h rest d)

end_positive : (o : Option ℕ) (p q whole : ℕ) → 0 < p → p ≤ whole → MatchOption o (q ≡ whole) (λ len. q ≡ p + len)
    → 0 < q
end_positive None p q whole some room ends = omega arith
end_positive (Some len) p q whole some room ends = omega arith

-- a packet has at least one byte
pub cut_positive : (options : DecodeOptions) (bytes : List ℕ) (h : ProtectedHeader) (p q : ℕ) → Cut options bytes h p q
    → 0 < q
cut_positive options bytes h p q cut =
    let strict = header_strict options (length bytes) bytes h cut.0 cut.1 in
    end_positive (len_in h) p q (length bytes) (omega (arith, strict, cut.2)) (omega (arith, cut.2)) cut.3

abbrev too_short : Refusal
too_short = Invalid (codes "packet too short to contain payload length")

-- what a header's length makes of the bytes after it
abbrev cut_behind : ProtectedHeader → Option ℕ → ℕ → ℕ → Result (ProtectedHeader × ℕ × ℕ) Refusal
cut_behind h o whole left =
    cond (nat_lt left (unwrap_or o left)) (Err too_short) (Ok (h, whole - left, whole - left + unwrap_or o left))

cut_is : (h : ProtectedHeader) (a p b q : ℕ) → a ≡ p → b ≡ q
    → (let r : Result (ProtectedHeader × ℕ × ℕ) Refusal = Ok (h, a, b) in r) ≡ Ok (h, p, q)
cut_is h a p b q e f =
    ap (λ (n : ℕ). let r : Result (ProtectedHeader × ℕ × ℕ) Refusal = Ok (h, n, b) in r) e
    ∙ ap (λ (n : ℕ). let r : Result (ProtectedHeader × ℕ × ℕ) Refusal = Ok (h, p, n) in r) f

behind_again : (h : ProtectedHeader) (o : Option ℕ) (whole left p q : ℕ) → p + left ≡ whole
    → MatchOption o (q ≡ whole) (λ len. q ≡ p + len) → q ≤ whole
    → cut_behind h o whole left ≡ Ok (h, p, q)
behind_again h None whole left p q sum ends within =
    let test : nat_lt left left ≡ false = grind (arith, nat_tests) in
    otherwise (nat_lt left left) (Err too_short) (Ok (h, whole - left, whole - left + left)) (Ok (h, p, q)) test
    (cut_is h (whole - left) p (whole - left + left) q (omega arith) (omega arith))
behind_again h (Some len) whole left p q sum ends within =
    let test : nat_lt left len ≡ false = (let le : len ≤ left = omega arith in grind (arith, nat_tests)) in
    otherwise (nat_lt left len) (Err too_short) (Ok (h, whole - left, whole - left + len)) (Ok (h, p, q)) test
    (cut_is h (whole - left) p (whole - left + len) q (omega arith) (omega arith))

behind_past : (h : ProtectedHeader) (o : Option ℕ) (whole left len : ℕ) → o ≡ Some len → left < len
    → cut_behind h o whole left ≡ Err too_short
behind_past h None whole left len is past = absurd cc
behind_past h (Some n) whole left len is past =
    let same : n ≡ len = cc in
    let test : nat_lt left n ≡ true = grind (arith, nat_tests) in
    taken (nat_lt left n) (Err too_short) _ (Err too_short) test refl

pub cut_again : (options : DecodeOptions) (bytes : List ℕ) (h : ProtectedHeader) (p q : ℕ) → Cut options bytes h p q
    → cut_at options bytes ≡ Ok (h, p, q)
unfolding cut_at
cut_again options bytes h p q cut =
    then_ok _ _ (h, cut.0) _ (header_again options (length bytes) bytes h cut.0 cut.1)
    (behind_again h (len_in h) (length bytes) (length cut.0) p q cut.2 cut.3 cut.4)

pub uncut_again : (options : DecodeOptions) (bytes : List ℕ) (e : Refusal) → AreBytes bytes → Uncut options bytes e
    → cut_at options bytes ≡ Err e
unfolding cut_at
uncut_again options bytes _ fits (no_header e refused) =
    then_err _ _ e (refused_again options (length bytes) bytes e fits refused)
uncut_again options bytes e fits (past_end h rest len found is past) =
    then_ok _ _ (h, rest) _ (header_again options (length bytes) bytes h rest found)
    (behind_past h (len_in h) (length bytes) (length rest) len is past)

pub cut_sole : (options : DecodeOptions) (bytes : List ℕ) (answer : Result (ProtectedHeader × ℕ × ℕ) Refusal)
    → AreBytes bytes → CutAnswer options bytes answer → cut_at options bytes ≡ answer
cut_sole options bytes (Ok cut) fits h = cut_again options bytes cut.0 cut.1 cut.2 h
cut_sole options bytes (Err e) fits h = uncut_again options bytes e fits h

behind_found : (options : DecodeOptions) (bytes : List ℕ) (h : ProtectedHeader) (rest : List ℕ)
    → HeaderAt options (length bytes) bytes h rest → (o : Option ℕ) → len_in h ≡ o
    → CutAnswer options bytes (cut_behind h o (length bytes) (length rest))
behind_found options bytes h rest found None is =
    let room : length rest ≤ length bytes = header_room options (length bytes) bytes h rest found in
    let cut : Cut options bytes h (length bytes - length rest) (length bytes) = (
      rest,
      found,
      omega arith,
      subst (λ (o : Option ℕ). MatchOption o (length bytes ≡ length bytes)
          (λ len. length bytes ≡ length bytes - length rest + len)) (sym is) refl,
      omega arith,
    ) in
    subst (CutAnswer options bytes) (sym (behind_again h None (length bytes) (length rest) (length bytes - length rest)
    (length bytes) (omega arith) refl (omega arith))) cut
behind_found options bytes h rest found (Some len) is =
    let room : length rest ≤ length bytes = header_room options (length bytes) bytes h rest found in
    elim (cases_lt (length rest) len) [
      | inl past ↦ subst (CutAnswer options bytes) (sym (behind_past h (Some len) (length bytes) (length rest) len refl
          past)) (past_end h rest len found is past)
      | inr within ↦
          let p : ℕ = length bytes - length rest in
          let cut : Cut options bytes h p (p + len) = (
            rest,
            found,
            omega arith,
            subst (λ (o : Option ℕ). MatchOption o (p + len ≡ length bytes)
                (λ n. p + len ≡ p + n)) (sym is) refl,
            omega arith,
          ) in
          subst (CutAnswer options bytes) (sym (behind_again h (Some len) (length bytes) (length rest) p (p + len)
          (omega arith) refl (omega arith))) cut
    ]

cut_of : (options : DecodeOptions) (bytes : List ℕ) → AreBytes bytes → Takes options
    → (read : Result (ProtectedHeader × List ℕ) Refusal) → header_at options (length bytes) bytes ≡ read
    → CutAnswer options bytes (cut_at options bytes)
unfolding cut_at
cut_of options bytes fits takes (Ok found) e =
    subst (CutAnswer options bytes) (sym (then_ok _ _ found _ e refl))
    (behind_found options bytes found.0 found.1 (header_found options (length bytes) bytes found.1 found.0 fits
    (omega arith) takes e) (len_in found.0) refl)
cut_of options bytes fits takes (Err r) e =
    subst (CutAnswer options bytes) (sym (then_err _ _ r e)) (no_header r (refused_found options (length bytes) bytes r fits takes e))

pub cut_answer : (options : DecodeOptions) (bytes : List ℕ) → AreBytes bytes → Takes options
    → CutAnswer options bytes (cut_at options bytes)
cut_answer options bytes fits takes = cut_of options bytes fits takes (header_at options (length bytes) bytes) refl

-- ---- what calls return

pub header_given : (options : DecodeOptions) (whole : ℕ) (bytes left : List ℕ) (result : Result ProtectedHeader PacketDecodeError)
    → AreBytes bytes → length bytes ≤ whole → Takes options
    → GivesRead (λ h. (h, left)) result (header_at options whole bytes)
    → IfOk result (λ h. HeaderAt options whole bytes h left)
header_given options whole bytes left (Ok h) fits room takes given =
    subst (HeaderAnswer options whole bytes) given (header_answer options whole bytes fits room takes)
header_given options whole bytes left (Err e) fits room takes given = tt

pub refused_given : (options : DecodeOptions) (whole : ℕ) (bytes left : List ℕ) (result : Result ProtectedHeader PacketDecodeError)
    → AreBytes bytes → length bytes ≤ whole → Takes options
    → GivesRead (λ h. (h, left)) result (header_at options whole bytes)
    → IfErr result (λ e. e ≢ error.OutOfMemory → Refused options bytes (refusal_of e))
refused_given options whole bytes left (Ok h) fits room takes given = tt
refused_given options whole bytes left (Err (error.UnsupportedVersion src dst version)) fits room takes given = λ other.
    subst (HeaderAnswer options whole bytes) given (header_answer options whole bytes fits room takes)
refused_given options whole bytes left (Err (error.InvalidHeader text)) fits room takes given = λ other.
    subst (HeaderAnswer options whole bytes) given (header_answer options whole bytes fits room takes)
refused_given options whole bytes left (Err error.OutOfMemory) fits room takes given = λ other. absurd (other refl)

left_is : (left : Option Filled) (xs : List ℕ) → IsRest left xs → left_of left ≡ xs
left_is None xs none = sym none
left_is (Some left) xs some = some.0

pub cut_given : (options : DecodeOptions) (bytes : List ℕ) (result : Result (CutPacket × Option Filled) PacketDecodeError)
    → AreBytes bytes → Takes options
    → GivesRead (λ x. (x.0.head, x.0.header_end, length x.0.bytes)) result (cut_at options bytes)
    → IfOk result (λ x. x.0.bytes ≡ take (length x.0.bytes) bytes)
    → IfOk result (λ x. IsRest x.1 (drop (length x.0.bytes) bytes))
    → IfOk result (λ x. CutsFirst options bytes x.0 (left_of x.1))
cut_given options bytes (Ok (packet, left)) fits takes given is rest =
    let q : ℕ = length packet.bytes in
    record {
      cut = subst (CutAnswer options bytes) given (cut_answer options bytes fits takes);
      text = sym (take-append-drop q bytes) ∙ ap (λ (xs : List ℕ). xs ++ drop q bytes) (sym is)
          ∙ ap (λ (xs : List ℕ). packet.bytes ++ xs) (sym (left_is left (drop q bytes) rest));
    }
cut_given options bytes (Err e) fits takes given is rest = tt

pub some_left : (bytes : List ℕ) (result : Result (CutPacket × Option Filled) PacketDecodeError)
    → IfOk result (λ x. IsRest x.1 (drop (length x.0.bytes) bytes))
    → IfOk result (λ x. IfSome x.1 (λ rest. 0 < length rest.items))
some_left bytes (Ok (packet, None)) rest = tt
some_left bytes (Ok (packet, Some left)) rest = subst (λ (xs : List ℕ). 0 < length xs) (sym rest.0) rest.1
some_left bytes (Err e) rest = tt

-- a packet that bytes follow
followed : (options : DecodeOptions) (bytes : List ℕ) (r : Result (ProtectedHeader × ℕ × ℕ) Refusal)
    → CutAnswer options bytes r → MatchResult r (λ x. x.2 < length bytes) (λ _. ⊥)
    → (packet : CutPacket) × (rest : List ℕ) × CutsFirst options bytes packet rest × (0 < length rest)
followed options bytes (Ok (h, p, q)) cut less =
    let size : length (take q bytes) ≡ q = length-take-le q bytes (omega (arith, less)) in (
      record { head = h; header_end = p; bytes = take q bytes },
      drop q bytes,
      record {
        cut = subst (λ (k : ℕ). Cut options bytes h p k) (sym size) cut;
        text = sym (take-append-drop q bytes);
      },
      omega (arith, length-drop q bytes, less),
    )
followed options bytes (Err e) right never = absurd never

pub uncut_given : (options : DecodeOptions) (takes_memory : Bool) (bytes : List ℕ)
    (result : Result (CutPacket × Option Filled) PacketDecodeError) → AreBytes bytes → Takes options
    → GivesRead (λ x. (x.0.head, x.0.header_end, length x.0.bytes)) result (cut_at options bytes)
    → (IsErrOf result error.OutOfMemory
    → IsTrue takes_memory ⊎ MatchResult (cut_at options bytes) (λ x. x.2 < length bytes) (λ _. ⊥))
    → IfErr result (λ e. IsUncut options takes_memory bytes e)
uncut_given options takes_memory bytes (Ok x) fits takes given memory = tt
uncut_given options takes_memory bytes (Err (error.UnsupportedVersion src dst version)) fits takes given memory =
    subst (CutAnswer options bytes) given (cut_answer options bytes fits takes)
uncut_given options takes_memory bytes (Err (error.InvalidHeader text)) fits takes given memory =
    subst (CutAnswer options bytes) given (cut_answer options bytes fits takes)
uncut_given options takes_memory bytes (Err error.OutOfMemory) fits takes given memory = elim (memory refl) [
  | inl takes ↦ inl takes
  | inr past ↦ inr (followed options bytes (cut_at options bytes) (cut_answer options bytes fits takes) past)
]

-- an error that isn't out of memory
pub is_uncut : (options : DecodeOptions) (takes_memory : Bool) (bytes : List ℕ) (e : PacketDecodeError)
    → IsUncut options takes_memory bytes e → refusal_of e ≢ NoMemory → Uncut options bytes (refusal_of e)
is_uncut options takes_memory bytes (error.UnsupportedVersion src dst version) uncut other = uncut
is_uncut options takes_memory bytes (error.InvalidHeader text) uncut other = uncut
is_uncut options takes_memory bytes error.OutOfMemory uncut other = absurd (other refl)

-- a packet is the front of its bytes, and what is left is what follows it
pub cut_front : {options : DecodeOptions} {bytes : List ℕ} {packet : CutPacket} {rest : List ℕ}
    → CutsFirst options bytes packet rest → packet.bytes ≡ take (length packet.bytes) bytes
cut_front {options} {bytes} {packet} {rest} first =
    sym (take-append_seam packet.bytes rest)
    ∙ ap (take (length packet.bytes)) (sym first.text)

pub cut_rest : {options : DecodeOptions} {bytes : List ℕ} {packet : CutPacket} {rest : List ℕ}
    → CutsFirst options bytes packet rest → rest ≡ drop (length packet.bytes) bytes
cut_rest {options} {bytes} {packet} {rest} first =
    sym (drop-append_seam packet.bytes rest) ∙ ap (drop (length packet.bytes)) (sym first.text)

pub is_rest : (left : Option Filled) {xs : List ℕ} → IfSome left (λ rest. 0 < length rest.items) → left_of left ≡ xs
    → IsRest left xs
is_rest None some is = sym is
is_rest (Some left) some is = (is, subst (λ (ys : List ℕ). 0 < length ys) is some)
