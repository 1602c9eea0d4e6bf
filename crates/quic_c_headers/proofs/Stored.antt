-- Which spans are stored for what is reported about a packet.
use Rattle.std.specs.Prelude.{◌≡◌, ℕ, Bool, true, false, List, length, drop, Option, None, Some, Result, Ok, Err, IfOk, IfSome, slice_index, if◌then◌else◌}
use Rattle.std.specs.Option.{option_map_or}
use Rattle.std.proofs.Common.{refl, sym, ap, subst, ◌∙◌}
use Rattle.quic_base.specs.Number.{AreBytes}
use Rattle.quic_fields.specs.declared.field.Reach.{Reach}
use Rattle.quic_fields.specs.declared.field.Span.{Span}
use Rattle.quic_header_decode.specs.declared.places.HeaderPlaces.{HeaderPlaces}
use Rattle.quic_header_decode.specs.declared.places.ReadError.{ReadError}
use Rattle.quic_header_decode.specs.declared.places.ReadError.TheVariants as error
use Rattle.quic_header_decode.specs.declared.protected.ProtectedHeader.{ProtectedHeader}
use Rattle.quic_header_decode.specs.Grammar.{HeaderAt}
use Rattle.quic_header_decode.specs.Places.{any_fixed, ends_at, header_in, refusal_in, seen_in, IsSeen, ReadAnswer}
use Rattle.quic_header_decode.specs.Refusal.{Refusal}
use Rattle.quic_header_decode.specs.Rfc.{Unread}
use Rattle.quic_header_fields.specs.After.{HasFields}
use Rattle.quic_header_fields.specs.Fault.{but_last, partial_spans}
use Rattle.quic_header_fields.specs.Inside.{stop_in_header}
use Rattle.quic_header_fields.specs.Spans.{IsHeaderAt, IsNoHeaderAt}
use Rattle.quic_header_fields.specs.Walk.{LacksHeader}
use Rattle.quic_c_headers.proofs.Answered.{one_answer}
use Rattle.quic_c_headers.specs.Fields.{part_of, AreFields, HasPart}
use Rattle.quic_c_headers.specs.Reading.{header_words, is_partial, outcome_of, Reported}
use Rattle.quic_c_headers.specs.declared.fields.Part.{Part}
use Rattle.quic_c_headers.specs.declared.fields.Part.TheVariants as parts
use Rattle.quic_c_headers.specs.declared.words.CHeader.{CHeader}
use Rattle.quic_results.specs.declared.results.Failure.{Failure}
use Rattle.quic_results.specs.declared.results.Failure.TheVariants as failure

abbrev Read : Type 0
Read = Result (ProtectedHeader × List ℕ) Refusal

-- ---- laws

abbrev pub OneReading : Type 0
OneReading =
    (id_len : ℕ) (versions bytes : List ℕ) (one other : Result (ProtectedHeader × List ℕ) Refusal) → AreBytes bytes
    → ReadAnswer (any_fixed id_len versions) bytes one → ReadAnswer (any_fixed id_len versions) bytes other
    → one ≡ other

abbrev pub HaveSpans : Type 0
HaveSpans =
    (id_len : ℕ) (versions : List ℕ) (whole : ℕ) (bytes : List ℕ) (h : ProtectedHeader) (rest : List ℕ)
    → HeaderAt (any_fixed id_len versions) whole bytes h rest
    → (spans : List Span) × IsHeaderAt (any_fixed id_len versions) whole bytes h spans rest

abbrev pub AreHeaders : Type 0
AreHeaders =
    (id_len : ℕ) (versions : List ℕ) (whole : ℕ) (bytes : List ℕ) (h : ProtectedHeader) (spans : List Span)
    (rest : List ℕ)
    → IsHeaderAt (any_fixed id_len versions) whole bytes h spans rest
    → HeaderAt (any_fixed id_len versions) whole bytes h rest

abbrev pub AreRefused : Type 0
AreRefused =
    (id_len : ℕ) (versions bytes : List ℕ) (spans : List Span) (at : ℕ) (e : Refusal) → AreBytes bytes
    → IsNoHeaderAt (any_fixed id_len versions) bytes spans at e
    → ReadAnswer (any_fixed id_len versions) bytes (Err e)

abbrev pub NeverStops : Type 0
NeverStops =
    (id_len : ℕ) (versions : List ℕ) (whole : ℕ) (bytes : List ℕ) (h : ProtectedHeader) (spans : List Span)
    (rest : List ℕ)
    → IsHeaderAt (any_fixed id_len versions) whole bytes h spans rest
    → stop_in_header (any_fixed id_len versions) bytes ≡ (0, 0)

-- ---- what is reported

-- a packet that is cut off, and a Retry that isn't complete, stand for themselves
clash : (outcome other : Result ℕ Failure) (p : Part) → part_of outcome ≡ p → outcome ≡ other → part_of other ≡ p
clash outcome other p part is = sym (ap part_of is) ∙ part

abbrev IsRead : ℕ → List ℕ → List ℕ → Type 0
IsRead id_len versions packet =
    (h : ProtectedHeader) × (rest : List ℕ) × HeaderAt (any_fixed id_len versions) (length packet) packet h rest

header_there : (flags id_len : ℕ) (versions packet : List ℕ) (read : Result HeaderPlaces ReadError)
    (outcome : Result ℕ Failure) → ReadAnswer (any_fixed id_len versions) packet (seen_in packet read)
    → outcome ≡ outcome_of flags read (length packet) → (part_of outcome ≡ parts.Whole → ⊥) → IsRead id_len versions packet
header_there flags id_len versions packet (Ok x) outcome right is part =
    (header_in packet x, drop x.header_end packet, right)
header_there flags id_len versions packet (Err (error.UnsupportedVersion version dst_len src_len)) outcome right is part =
    absurd (part (ap part_of is))
header_there flags id_len versions packet (Err error.UnexpectedEnd) outcome right is part =
    absurd (part (ap part_of is))
header_there flags id_len versions packet (Err error.SmallPacket) outcome right is part =
    absurd (part (ap part_of is))
header_there flags id_len versions packet (Err error.MalformedCid) outcome right is part =
    absurd (part (ap part_of is))
header_there flags id_len versions packet (Err error.TokenOutOfBounds) outcome right is part =
    absurd (part (ap part_of is))

-- a packet that isn't complete has a header with spans
pub spans_there : (flags id_len : ℕ) (versions packet : List ℕ) (before after : CHeader) (outcome : Result ℕ Failure)
    → HaveSpans → Reported flags id_len versions packet before outcome after → (part_of outcome ≡ parts.Whole → ⊥)
    → (h : ProtectedHeader) × (spans : List Span) × (rest : List ℕ)
    × IsHeaderAt (any_fixed id_len versions) (length packet) packet h spans rest
spans_there flags id_len versions packet before after outcome have t part =
    let there = header_there flags id_len versions packet t.read outcome t.right t.outcome_is part in
    let found = have id_len versions (length packet) packet there.0 there.1 there.2 in
    (there.0, found.0, there.1, found.1)

complete : (partial : Bool) (end : Option ℕ) (outcome : Result ℕ Failure)
    → outcome ≡ (if partial then Err failure.PacketRetry else option_map_or (λ (q : ℕ). Ok q) end (Err failure.PacketCut))
    → part_of outcome ≡ parts.Whole → (q : ℕ) × (outcome ≡ Ok q)
complete true end outcome is part =
    (let no : parts.Retry ≡ parts.Whole = clash outcome (Err failure.PacketRetry) parts.Whole part is in absurd cc)
complete false None outcome is part =
    (let no : parts.Cut ≡ parts.Whole = clash outcome (Err failure.PacketCut) parts.Whole part is in absurd cc)
complete false (Some q) outcome is part = (q, is)

-- the spans of a packet's header, and what follows it
abbrev pub HasHeaderSpans : ℕ → List ℕ → List ℕ → Type 0
HasHeaderSpans id_len versions packet =
    (h : ProtectedHeader) × (spans : List Span) × (rest : List ℕ)
    × IsHeaderAt (any_fixed id_len versions) (length packet) packet h spans rest

pub cut_stored : (id_len : ℕ) (versions packet : List ℕ) (old new : List Span) (out : Reach) (outcome : Result ℕ Failure)
    → part_of outcome ≡ parts.Cut
    → HasPart (any_fixed id_len versions) packet (λ spans rest. but_last spans) old new out
    → AreFields id_len versions packet old new out outcome
cut_stored id_len versions packet old new out (Err failure.PacketCut) part has = has
cut_stored id_len versions packet old new out (Err failure.PacketRetry) part has = absurd cc
cut_stored id_len versions packet old new out _ part has = absurd cc

pub retry_stored : (id_len : ℕ) (versions packet : List ℕ) (old new : List Span) (out : Reach) (outcome : Result ℕ Failure)
    → part_of outcome ≡ parts.Retry
    → HasPart (any_fixed id_len versions) packet (λ spans rest. partial_spans spans out.end (length rest)) old new out
    → AreFields id_len versions packet old new out outcome
retry_stored id_len versions packet old new out (Err failure.PacketCut) part has = absurd cc
retry_stored id_len versions packet old new out (Err failure.PacketRetry) part has = has
retry_stored id_len versions packet old new out _ part has = absurd cc

refusal_same : (e f : Refusal) → (let r : Read = Err e in r) ≡ Err f → e ≡ f
refusal_same e f is = cc

-- ---- what is stored

abbrev Lacks : ℕ → List ℕ → List ℕ → List Span → List Span → Reach → Refusal → Type 0
Lacks id_len versions packet old new out e =
    LacksHeader (any_fixed id_len versions) packet old new out.count out.end e
    × ((out.inside, out.numbers) ≡ stop_in_header (any_fixed id_len versions) packet)

refused_stored : (flags id_len : ℕ) (versions packet : List ℕ) (old new : List Span) (out : Reach) (e : ReadError)
    (reason : Refusal) (outcome : Result ℕ Failure) → Lacks id_len versions packet old new out reason
    → reason ≡ refusal_in packet e → outcome ≡ outcome_of flags (Err e) (length packet)
    → AreFields id_len versions packet old new out outcome
refused_stored flags id_len versions packet old new out (error.UnsupportedVersion version dst_len src_len) reason outcome l same is =
    subst (AreFields id_len versions packet old new out) (sym is) (reason, l.0, (version, _, _, ap Unread same), l.1)
refused_stored flags id_len versions packet old new out error.UnexpectedEnd reason outcome l same is =
    subst (AreFields id_len versions packet old new out) (sym is) (reason, l.0, ap Unread same, l.1)
refused_stored flags id_len versions packet old new out error.SmallPacket reason outcome l same is =
    subst (AreFields id_len versions packet old new out) (sym is) (reason, l.0, ap Unread same, l.1)
refused_stored flags id_len versions packet old new out error.MalformedCid reason outcome l same is =
    subst (AreFields id_len versions packet old new out) (sym is) (reason, l.0, ap Unread same, l.1)
refused_stored flags id_len versions packet old new out error.TokenOutOfBounds reason outcome l same is =
    subst (AreFields id_len versions packet old new out) (sym is) (reason, l.0, ap Unread same, l.1)

walk_stored : (flags id_len : ℕ) (versions packet : List ℕ) (old new : List Span) (out : Reach)
    (fault : Option ReadError) (read : Result HeaderPlaces ReadError) (outcome : Result ℕ Failure)
    → OneReading → AreHeaders → AreRefused → NeverStops → AreBytes packet
    → ReadAnswer (any_fixed id_len versions) packet (seen_in packet read)
    → outcome ≡ outcome_of flags read (length packet) → part_of outcome ≡ parts.Whole
    → (fault ≡ None → HasFields (any_fixed id_len versions) packet old new out.count out.end)
    → IfSome fault (λ reason. LacksHeader (any_fixed id_len versions) packet old new out.count out.end
    (refusal_in packet reason))
    → (out.inside, out.numbers) ≡ stop_in_header (any_fixed id_len versions) packet
    → AreFields id_len versions packet old new out outcome
walk_stored flags id_len versions packet old new out None (Ok x) outcome one heads refused never fits right is part ok err stop =
    let c = complete (is_partial flags x (length packet)) (ends_at x (length packet)) outcome is part in
    let has = ok refl in
    let none = stop ∙ never id_len versions (length packet) packet has.header has.spans has.rest has.here in
    subst (AreFields id_len versions packet old new out) (sym c.1)
    (has, ap (λ (p : ℕ × ℕ). p.0) none, ap (λ (p : ℕ × ℕ). p.1) none)
walk_stored flags id_len versions packet old new out (Some r) (Ok x) outcome one heads refused never fits right is part ok err stop =
    let other = refused id_len versions packet err.spans out.count (refusal_in packet r) fits err.no_header in
    let same = one id_len versions packet (seen_in packet (Ok x)) (Err (refusal_in packet r)) fits right other in
    absurd cc
walk_stored flags id_len versions packet old new out None (Err e) outcome one heads refused never fits right is part ok err stop =
    let has = ok refl in
    let other = heads id_len versions (length packet) packet has.header has.spans has.rest has.here in
    let same = one id_len versions packet (Ok (has.header, has.rest)) (Err (refusal_in packet e)) fits other right in
    absurd cc
walk_stored flags id_len versions packet old new out (Some r) (Err e) outcome one heads refused never fits right is part ok err stop =
    let other = refused id_len versions packet err.spans out.count (refusal_in packet r) fits err.no_header in
    let same = one id_len versions packet (Err (refusal_in packet r)) (Err (refusal_in packet e)) fits other right in
    refused_stored flags id_len versions packet old new out e (refusal_in packet r) outcome (err, stop)
    (refusal_same (refusal_in packet r) (refusal_in packet e) same) is

pub others_stored : (flags id_len : ℕ) (versions packet : List ℕ) (before after : CHeader) (old new : List Span)
    (out : Reach) (fault : Option ReadError) (outcome : Result ℕ Failure)
    → OneReading → AreHeaders → AreRefused → NeverStops → AreBytes packet
    → Reported flags id_len versions packet before outcome after → part_of outcome ≡ parts.Whole
    → (fault ≡ None → HasFields (any_fixed id_len versions) packet old new out.count out.end)
    → IfSome fault (λ reason. LacksHeader (any_fixed id_len versions) packet old new out.count out.end
    (refusal_in packet reason))
    → (out.inside, out.numbers) ≡ stop_in_header (any_fixed id_len versions) packet
    → AreFields id_len versions packet old new out outcome
others_stored flags id_len versions packet before after old new out fault outcome one heads refused never fits t part ok err stop =
    walk_stored flags id_len versions packet old new out fault t.read outcome one heads refused never fits t.right t.outcome_is
    part ok err stop

-- ---- what is returned

-- what was read is reported, whatever the fields were before
pub reported_of : (flags id_len : ℕ) (versions packet : List ℕ) (read : Result HeaderPlaces ReadError) (head : CHeader)
    (outcome : Result ℕ Failure) → ReadAnswer (any_fixed id_len versions) packet (seen_in packet read)
    → IsSeen read (length packet) → IfOk read (λ x. x.first ≡ slice_index packet 0)
    → outcome ≡ outcome_of flags read (length packet)
    → Reported flags id_len versions packet head outcome (header_words flags packet read head)
reported_of flags id_len versions packet read head outcome right seen first is = record {
  read = read;
  right = right;
  stored = seen;
  first = first;
  outcome_is = is;
  words = refl;
}

-- one outcome is reported, whatever the fields were before
pub one_outcome : (flags id_len : ℕ) (versions packet : List ℕ) (before after old words : CHeader)
    (outcome other : Result ℕ Failure) → OneReading → AreBytes packet
    → Reported flags id_len versions packet before outcome after
    → Reported flags id_len versions packet old other words → outcome ≡ other
one_outcome flags id_len versions packet before after old words outcome other law fits t u =
    let same = reported_of flags id_len versions packet u.read before other u.right u.stored u.first u.outcome_is in
    (one_answer flags id_len versions packet before after (header_words flags packet u.read before) outcome other law fits t same).0
