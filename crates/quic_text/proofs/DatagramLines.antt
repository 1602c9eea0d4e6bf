-- The line of a packet, and the lines of those that follow it.
use Rattle.std.proofs.Common.{◌≡◌, ◌≢◌, ℕ, ◌+◌, ◌-◌, ◌^◌, ◌<◌, ◌≤◌, true, false, List, [], ◌∷◌, ◌++◌, Option, Some, None, Result, Ok, Err, OnOk, length, take, drop, take-append-drop, refl, sym, ap, subst, ◌∙◌, arith, replicate, append_assoc, length-drop}
use Rattle.std.proofs.lemmas.List.{append-nil}
use Rattle.std.specs.List.{flat_map, list_all}
use Rattle.std.specs.Prelude.{option_map}
use Rattle.std.specs.Fmt.{AppendsText, ◌++?◌, padded_integral, format_spec, digits, char_count}
use Rattle.quic_base.specs.Number.{AreBytes}
use Rattle.quic_base.proofs.PublicLaws.{back_bytes}
use Rattle.quic_header_decode.specs.declared.decode_error.PacketDecodeError.{PacketDecodeError}
use Rattle.quic_header_decode.specs.declared.decode_error.PacketDecodeError.TheVariants as error
use Rattle.quic_header_decode.specs.declared.protected.ProtectedHeader.{ProtectedHeader}
use Rattle.quic_header_decode.specs.Datagram.{PlacedPacket, ArePackets, last, more, refused}
use Rattle.quic_header_decode.specs.Grammar.{Cut, Uncut, CutAnswer}
use Rattle.quic_header_decode.specs.Reading.{DecodeOptions}
use Rattle.quic_header_decode.specs.Refusal.{Refusal, NoMemory, RefusesHeader, refusal_of}
use Rattle.quic_header_decode.proofs.Datagrams.{packets_again, some_packets}
use Rattle.quic_header_decode.proofs.Steps.{match_ok}
use Rattle.quic_header_decode.specs.Parsers.{fixed_parsed, fixed_lawful}
use Rattle.quic_text.specs.Printed.{Printed, Error, line_bytes, is_plain}
use Rattle.quic_text.specs.DatagramText.{with_ids_of, eight_digits, packet_line, refusal_text, row_lines, datagram_lines}
use Rattle.quic_text.specs.Whole.{AppendsAllBut, AppendsBeginning}
use Rattle.quic_text.proofs.PassingLemmas.{passed_on, a_beginning, beginning_passed}

-- what `{:08x}` writes
eight_written : (n : ℕ)
    → padded_integral (format_spec 32 0 4 8 (2 ^ 64 - 1)) false [] (digits 16 false n) ≡ eight_digits n
unfolding padded_integral char_count
eight_written n =
    let ds : List ℕ = digits 16 false n in
    let zeros : 8 - length ds - 0 - 0 ≡ 8 - length ds = omega arith in
    ap (λ (k : ℕ). replicate k 48 ++ (ds ++ [])) zeros
    ∙ ap (λ (xs : List ℕ). replicate (8 - length ds) 48 ++ xs) (append-nil ds)

when_ok : {T E P Q : Type 0} (r : Result T E) → (P → Q) → OnOk r P → OnOk r Q
when_ok (Ok x) f h = f h
when_ok (Err e) f h = tt

pub version_written : {T E : Type 0} (r : Result T E) (old new text : List ℕ) (digits_shown : Option (List ℕ)) (n : ℕ)
    → digits_shown ≡ option_map (padded_integral (format_spec 32 0 4 8 (2 ^ 64 - 1)) false []) (Some (digits 16 false n))
    → OnOk r (AppendsText old new (Some text ++? digits_shown)) → OnOk r (new ≡ old ++ (text ++ eight_digits n))
version_written r old new text digits_shown n stored written =
    let eight : digits_shown ≡ Some (eight_digits n) = stored ∙ ap (λ (ds : List ℕ). Some ds) (eight_written n) in
    when_ok r (λ h. subst (λ (o : Option (List ℕ)). AppendsText old new (Some text ++? o)) eight h) written

-- the lines of packets, and those of a datagram's reading
abbrev pub lines : List PlacedPacket → Option Refusal → List ℕ
lines ps refusal = flat_map line_bytes (row_lines ps refusal)

-- so it is with what is printed so far and the lines of the packets that are left
abbrev pub Leads : DecodeOptions → ℕ → List ℕ → List ℕ → (List ℕ → Type 0) → Type 0
Leads context start bytes text P =
    (ps : List PlacedPacket) (refusal : Option Refusal) → ArePackets context start bytes ps refusal → P (text ++ lines ps refusal)

pub text_first : (len : ℕ) (bytes left text : List ℕ) (P : List ℕ → Type 0) → AreBytes bytes → left ≡ bytes
    → P (text ++ flat_map line_bytes (datagram_lines len bytes)) → Leads (with_ids_of len) 0 left text P
text_first len bytes left text P fits e all ps refusal are =
    let same =
    packets_again (with_ids_of len) bytes ps refusal fits
    (subst (λ (xs : List ℕ). ArePackets (with_ids_of len) 0 xs ps refusal) e are) in
    subst P (ap (λ (r : List PlacedPacket × Option Refusal). text ++ flat_map line_bytes (row_lines r.0 r.1)) same) all

pub text_more : (context : DecodeOptions) (start stop q p : ℕ) (bytes rest text text' : List ℕ) (P : List ℕ → Type 0) (h : ProtectedHeader)
    → Cut context bytes h p q → q < length bytes → rest ≡ drop q bytes → stop ≡ start + q
    → text' ≡ text ++ line_bytes (packet_line (record { start = start; stop = stop; header = h }))
    → Leads context start bytes text P
    → Leads context stop rest text' P
text_more context start stop q p bytes rest text text' P h cut lt r s e so_far ps refusal are =
    let line : List ℕ = line_bytes (packet_line (record { start = start; stop = start + q; header = h })) in
    let e' : text' ≡ text ++ line =
    e ∙ ap (λ (n : ℕ). text ++ line_bytes (packet_line (record { start = start; stop = n; header = h }))) s in
    let are' : ArePackets context (start + q) (drop q bytes) ps refusal =
    subst (λ (n : ℕ). ArePackets context n (drop q bytes) ps refusal) s
    (subst (λ (xs : List ℕ). ArePackets context stop xs ps refusal) r are) in
    subst P (sym (ap (λ (l : List ℕ). l ++ lines ps refusal) e' ∙ append_assoc text line (lines ps refusal)))
    (so_far (record { start = start; stop = start + q; header = h } ∷ ps) refusal (more start bytes h p q ps refusal cut lt are'))

ended : (q : ℕ) (bytes : List ℕ) → q ≤ length bytes → drop q bytes ≡ [] → q ≡ length bytes
ended q bytes within none = omega (arith, within, ap length none, length-drop q bytes)

pub text_last : (context : DecodeOptions) (start stop q p : ℕ) (bytes text text' : List ℕ) (P : List ℕ → Type 0) (h : ProtectedHeader)
    → Cut context bytes h p q → drop q bytes ≡ [] → stop ≡ start + q
    → text' ≡ text ++ line_bytes (packet_line (record { start = start; stop = stop; header = h }))
    → Leads context start bytes text P → P text'
text_last context start stop q p bytes text text' P h cut none s e so_far =
    let end : q ≡ length bytes = ended q bytes cut.4 none in
    let at : stop ≡ start + length bytes = s ∙ ap (λ (n : ℕ). start + n) end in
    let line : List ℕ = line_bytes (packet_line (record { start = start; stop = start + length bytes; header = h })) in
    let e' : text' ≡ text ++ line =
    e ∙ ap (λ (n : ℕ). text ++ line_bytes (packet_line (record { start = start; stop = n; header = h }))) at in
    subst P (sym (e' ∙ ap (λ (l : List ℕ). text ++ l) (sym (append-nil line))))
    (so_far (record { start = start; stop = start + length bytes; header = h } ∷ []) None
    (last start bytes h p (subst (λ (n : ℕ). Cut context bytes h p n) end cut)))

pub text_refused : (context : DecodeOptions) (start : ℕ) (bytes text text' : List ℕ) (P : List ℕ → Type 0) (e : Refusal)
    → Uncut context bytes e
    → text' ≡ text ++ line_bytes (Error (refusal_text e))
    → Leads context start bytes text P → P text'
text_refused context start bytes text text' P e uncut written so_far =
    let line : List ℕ = line_bytes (Error (refusal_text e)) in
    subst P (sym (written ∙ ap (λ (l : List ℕ). text ++ l) (sym (append-nil line)))) (so_far [] (Some e) (refused start bytes e uncut))

pub rest_fits : (q : ℕ) (bytes rest : List ℕ) → rest ≡ drop q bytes → AreBytes bytes → AreBytes rest
rest_fits q bytes rest e fits =
    subst AreBytes (sym e) (back_bytes (take q bytes) (drop q bytes) (subst AreBytes (sym (take-append-drop q bytes)) fits))

-- some packets are left, whatever the bytes
pub fixed_takes : (len : ℕ) (text id : List ℕ) (n : ℕ) → fixed_parsed len text ≡ Ok (id, n) → n ≤ length text
fixed_takes len text id n e =
    match_ok (λ x. x.1 ≤ length text) (λ r. r ≡ NoMemory → ⊥) (fixed_parsed len text) (id, n) (fixed_lawful len text) e

-- the text is passed on up to what waits, and up to the lines of what is left
abbrev pub Waits : ℕ → ℕ → List ℕ → List ℕ → List ℕ → List ℕ → List ℕ → Type 0
Waits len start left old new text all =
    Leads (with_ids_of len) start left text (λ waits. AppendsAllBut old new waits all)

pub waits_less : (len start : ℕ) (left old mid new text text' all : List ℕ) → Waits len start left old mid text all
    → AppendsAllBut mid new text' text
    → Waits len start left old new text' all
waits_less len start left old mid new text text' all h passed ps refusal are =
    passed_on old mid new text text' (lines ps refusal) _ all refl (h ps refusal are) passed

pub waits_begun : (len start : ℕ) (left old new text all : List ℕ) → AreBytes left
    → Waits len start left old new text all → AppendsBeginning old new all
waits_begun len start left old new text all fits h =
    let some = some_packets (with_ids_of len) start left fits (fixed_takes len) in
    a_beginning old new (text ++ lines some.0 some.1) all (h some.0 some.1 some.2)

pub waits_broken : (len start : ℕ) (left old mid new text all : List ℕ) → AreBytes left
    → Waits len start left old mid text all
    → AppendsBeginning mid new text → AppendsBeginning old new all
waits_broken len start left old mid new text all fits h begun =
    let some = some_packets (with_ids_of len) start left fits (fixed_takes len) in
    beginning_passed old mid new text (lines some.0 some.1) _ all refl (h some.0 some.1 some.2) begun

-- and whether an `error` line is among the lines that are left says it of all
abbrev pub LeadsClean : DecodeOptions → ℕ → List ℕ → List Printed → Type 0
LeadsClean context start bytes all =
    (ps : List PlacedPacket) (refusal : Option Refusal) → ArePackets context start bytes ps refusal
    → list_all is_plain (row_lines ps refusal) ≡ list_all is_plain all

pub clean_first : (len : ℕ) (bytes left : List ℕ) → AreBytes bytes → left ≡ bytes
    → LeadsClean (with_ids_of len) 0 left (datagram_lines len bytes)
clean_first len bytes left fits e ps refusal are =
    let same =
    packets_again (with_ids_of len) bytes ps refusal fits
    (subst (λ (xs : List ℕ). ArePackets (with_ids_of len) 0 xs ps refusal) e are) in
    ap (λ (r : List PlacedPacket × Option Refusal). list_all is_plain (row_lines r.0 r.1)) (sym same)

pub clean_more : (context : DecodeOptions) (start stop q p : ℕ) (bytes rest : List ℕ) (all : List Printed) (h : ProtectedHeader)
    → Cut context bytes h p q → q < length bytes → rest ≡ drop q bytes → stop ≡ start + q
    → LeadsClean context start bytes all → LeadsClean context stop rest all
clean_more context start stop q p bytes rest all h cut lt r s so_far ps refusal are =
    let are' : ArePackets context (start + q) (drop q bytes) ps refusal =
    subst (λ (n : ℕ). ArePackets context n (drop q bytes) ps refusal) s
    (subst (λ (xs : List ℕ). ArePackets context stop xs ps refusal) r are) in
    so_far (record { start = start; stop = start + q; header = h } ∷ ps) refusal (more start bytes h p q ps refusal cut lt are')

pub clean_last : (context : DecodeOptions) (start q p : ℕ) (bytes : List ℕ) (all : List Printed) (h : ProtectedHeader)
    → Cut context bytes h p q
    → drop q bytes ≡ []
    → LeadsClean context start bytes all → true ≡ list_all is_plain all
clean_last context start q p bytes all h cut none so_far =
    let end : q ≡ length bytes = ended q bytes cut.4 none in
    so_far (record { start = start; stop = start + length bytes; header = h } ∷ []) None
    (last start bytes h p (subst (λ (n : ℕ). Cut context bytes h p n) end cut))

pub clean_refused : (context : DecodeOptions) (start : ℕ) (bytes : List ℕ) (all : List Printed) (e : Refusal)
    → Uncut context bytes e
    → LeadsClean context start bytes all → false ≡ list_all is_plain all
clean_refused context start bytes all e uncut so_far = so_far [] (Some e) (refused start bytes e uncut)
