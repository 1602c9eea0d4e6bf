-- Headers with the spans of their fields, and bytes with one field at fault.
use Rattle.std.specs.Prelude.{◌⊎◌}
use Rattle.std.proofs.Common.{◌≡◌, ℕ, ◌+◌, true, List, [], ◌∷◌, ◌++◌, length, take, Ok, Err, Result, suc, refl, sym, ap, subst, ◌∙◌, inl, inr, length-append, arith}
use Rattle.quic_base.specs.Number.{AreBytes, num}
use Rattle.quic_fields.specs.declared.field.Span.{Span}
use Rattle.quic_fields.specs.Spans.{AreInRow, AreNumbered}
use Rattle.quic_fields.specs.Walk.{stored, last_end}
use Rattle.quic_header_decode.specs.declared.protected.ProtectedHeader.{ProtectedHeader}
use Rattle.quic_header_decode.specs.Grammar.{HeaderValue, header_row_of, HeaderAt, Refused}
use Rattle.quic_header_decode.specs.Places.{any_fixed, IsUnknownVersion, ReadAnswer}
use Rattle.quic_header_decode.specs.Reading.{DecodeOptions, TakesWithin, header_at}
use Rattle.quic_header_decode.specs.Refusal.{Refusal, Unsupported, Invalid, NoMemory}
use Rattle.quic_header_decode.proofs.Headers.{header_again, refused_again}
use Rattle.quic_header_decode.specs.Fields.{Taken}
use Rattle.quic_header_decode.proofs.Wide.{Read, read_answer, read_sole, takes}
use Rattle.quic_header_fields.specs.Spans.{first_span, is_known, IsHeaderAt, IsNoHeaderAt}
use Rattle.quic_header_fields.specs.Walk.{Walked, header_walk, walk_at, HasHeader, LacksHeader}
use Rattle.quic_header_fields.proofs.Readings.{walk_refuses, walk_finds}
use Rattle.quic_header_fields.proofs.Walks.{fields_with_spans, fields_without, fields_any, fields_in_row, walk_again, walk_stops, walk_stops_again, walk_in_row, last_in_row}

-- ---- headers

pub header_with_spans : (options : DecodeOptions) (whole : ℕ) (bytes : List ℕ) (h : ProtectedHeader) (rest : List ℕ)
    → HeaderAt options whole bytes h rest → (spans : List Span) × IsHeaderAt options whole bytes h spans rest
header_with_spans options whole bytes h rest (first, text, values, split, fixed, fields, is) =
    let w = fields_with_spans options 1 1 (header_row_of first (num (take 4 text))) [] values text rest fields in
    (first_span first ∷ w.0, (first, text, values, w.0, split, refl, w.1, is))

pub header_without : (id_len : ℕ) (versions : List ℕ) (whole : ℕ) (bytes : List ℕ) (h : ProtectedHeader)
    (spans : List Span) (rest : List ℕ) → IsHeaderAt (any_fixed id_len versions) whole bytes h spans rest
    → HeaderAt (any_fixed id_len versions) whole bytes h rest
header_without id_len versions whole bytes h spans rest (first, text, values, others, split, all, fields, is) = (
  first,
  text,
  values,
  split,
  refl,
  fields_without (any_fixed id_len versions) 1 1 (header_row_of first (num (take 4 text))) [] others values text rest fields,
  is,
)

pub header_walk_again : (options : DecodeOptions) (whole : ℕ) (bytes : List ℕ) (h : ProtectedHeader) (spans : List Span)
    (rest : List ℕ) → IsHeaderAt options whole bytes h spans rest
    → (values : List HeaderValue) × (header_walk options bytes ≡ (spans, Ok (values, rest)))
header_walk_again options whole bytes h spans rest (first, text, values, others, split, all, fields, is) =
    let version = num (take 4 text) in
    let known = is_known options version in
    let row = header_row_of first version in
    let any = fields_any known options 1 1 row [] others values text rest fields in
    let walked = walk_again known options 1 1 row [] others values text rest any in
    (values, rw (split, all) (ap (λ (w : Walked). (first_span first ∷ w.0, w.1)) walked))

pub one_list : (id_len : ℕ) (versions : List ℕ) (whole : ℕ) (bytes : List ℕ) (h other : ProtectedHeader)
    (spans others : List Span) (rest left : List ℕ)
    → IsHeaderAt (any_fixed id_len versions) whole bytes h spans rest
    → IsHeaderAt (any_fixed id_len versions) whole bytes other others left
    → (spans ≡ others) × (h ≡ other) × (rest ≡ left)
one_list id_len versions whole bytes h other spans others rest left s t =
    let options = any_fixed id_len versions in
    let a = header_walk_again options whole bytes h spans rest s in
    let b = header_walk_again options whole bytes other others left t in
    let one = header_again options whole bytes h rest (header_without id_len versions whole bytes h spans rest s) in
    let two = header_again options whole bytes other left (header_without id_len versions whole bytes other others left t) in
    let same : (let r : Read = Ok (h, rest) in r) ≡ Ok (other, left) = sym one ∙ two in
    let pair : (let p : ProtectedHeader × List ℕ = (h, rest) in p) ≡ (other, left) = cc in (
      ap (λ (w : Walked). w.0) (sym a.1 ∙ b.1),
      ap (λ (p : ProtectedHeader × List ℕ). p.0) pair,
      ap (λ (p : ProtectedHeader × List ℕ). p.1) pair,
    )

pub header_in_row : (options : DecodeOptions) (whole : ℕ) (bytes : List ℕ) (h : ProtectedHeader) (spans : List Span)
    (rest : List ℕ) → IsHeaderAt options whole bytes h spans rest
    → (front : List ℕ) × (bytes ≡ front ++ rest) × AreInRow 0 spans (length front) × AreNumbered 0 spans
header_in_row options whole bytes h spans rest (first, text, values, others, split, all, fields, is) =
    let row = fields_in_row true options 1 1 (header_row_of first (num (take 4 text))) [] others values text rest fields in
    let end : 1 + length row.0 ≡ length (first ∷ row.0) = omega arith in (
      first ∷ row.0,
      split ∙ ap (λ (xs : List ℕ). first ∷ xs) row.1,
      rw (all) (refl, omega arith, subst (AreInRow 1 others) end row.2),
      rw (all) (refl, row.3),
    )

-- ---- no header

no_header_again : (options : DecodeOptions) (bytes : List ℕ) (spans : List Span) (at : ℕ) (e : Refusal) → AreBytes bytes
    → TakesWithin options → IsNoHeaderAt options bytes spans at e
    → (header_walk options bytes ≡ (spans, Err e)) × (at ≡ length spans)
no_header_again options [] spans at e fits takes s = (rw (s.0, s.2) refl, rw (s.0, s.1) refl)
no_header_again options (first ∷ text) spans at e fits takes s =
    let version = num (take 4 text) in
    let again = walk_stops_again (is_known options version) options 1 1 (header_row_of first version) [] s.0 text at e
    (λ i. fits (suc i)) takes s.2 in (
      rw (s.1) (ap (λ (w : Walked). (first_span first ∷ w.0, w.1)) again.0),
      omega (arith, again.1, ap length s.1),
    )

no_header_stops : (options : DecodeOptions) (bytes : List ℕ) (e : Refusal) (at : ℕ) → AreBytes bytes
    → TakesWithin options → at ≡ length (header_walk options bytes).0 → (header_walk options bytes).1 ≡ Err e
    → IsNoHeaderAt options bytes (header_walk options bytes).0 at e
no_header_stops options [] e at fits within here h = (refl, here, cc)
no_header_stops options (first ∷ text) e at fits within here h =
    let version = num (take 4 text) in
    let known = is_known options version in
    let row = header_row_of first version in
    ((walk_at known options 1 1 row [] text).0, refl, walk_stops known options 1 1 row [] text e at (λ i. fits (suc i)) within (omega (arith, here)) h)

pub one_stop : (id_len : ℕ) (versions bytes : List ℕ) (spans others : List Span) (at other : ℕ) (e d : Refusal)
    → AreBytes bytes → IsNoHeaderAt (any_fixed id_len versions) bytes spans at e
    → IsNoHeaderAt (any_fixed id_len versions) bytes others other d
    → (spans ≡ others) × (at ≡ other) × (e ≡ d)
one_stop id_len versions bytes spans others at other e d fits s t =
    let options = any_fixed id_len versions in
    let a = no_header_again options bytes spans at e fits (takes id_len versions) s in
    let b = no_header_again options bytes others other d fits (takes id_len versions) t in
    let same : spans ≡ others = ap (λ (w : Walked). w.0) (sym a.0 ∙ b.0) in
    let failed : (let r : Result Taken Refusal = Err e in r) ≡ Err d = ap (λ (w : Walked). w.1) (sym a.0 ∙ b.0) in
    (same, a.1 ∙ ap length same ∙ sym b.1, cc)

pub no_header_read : (id_len : ℕ) (versions bytes : List ℕ) (spans : List Span) (at : ℕ) (e : Refusal) → AreBytes bytes
    → IsNoHeaderAt (any_fixed id_len versions) bytes spans at e → ReadAnswer (any_fixed id_len versions) bytes (Err e)
no_header_read id_len versions bytes spans at e fits s =
    let again = no_header_again (any_fixed id_len versions) bytes spans at e fits (takes id_len versions) s in
    read_answer id_len versions bytes fits (Err e)
    (walk_refuses id_len versions bytes e fits (ap (λ (w : Walked). w.1) again.0))

-- the bytes begin with a header, or with none
pub data Either (options : DecodeOptions) (bytes : List ℕ) : Type 0 where
  header : (h : ProtectedHeader) (spans : List Span) (rest : List ℕ)
      → IsHeaderAt options (length bytes) bytes h spans rest → Either options bytes
  none : (spans : List Span) (at : ℕ) (e : Refusal) → IsNoHeaderAt options bytes spans at e → Either options bytes

either_with : (id_len : ℕ) (versions bytes : List ℕ) (r : Result Taken Refusal) → AreBytes bytes
    → (header_walk (any_fixed id_len versions) bytes).1 ≡ r → Either (any_fixed id_len versions) bytes
either_with id_len versions bytes (Ok x) fits h =
    let found = walk_finds id_len versions bytes x fits h in
    let at = read_answer id_len versions bytes fits (Ok (found.0, x.1)) found.1 in
    let s = header_with_spans (any_fixed id_len versions) (length bytes) bytes found.0 x.1 at in
    header found.0 s.0 x.1 s.1
either_with id_len versions bytes (Err e) fits h =
    let options = any_fixed id_len versions in
    let spans = (header_walk options bytes).0 in
    none spans (length spans) e (no_header_stops options bytes e (length spans) fits (takes id_len versions) refl h)

pub either : (id_len : ℕ) (versions bytes : List ℕ) → AreBytes bytes → Either (any_fixed id_len versions) bytes
either id_len versions bytes fits =
    either_with id_len versions bytes (header_walk (any_fixed id_len versions) bytes).1 fits refl

-- ---- what reading returns

stopped_with : (id_len : ℕ) (versions bytes : List ℕ) (e : Refusal) → AreBytes bytes
    → ReadAnswer (any_fixed id_len versions) bytes (Err e) → Either (any_fixed id_len versions) bytes
    → (spans : List Span) × (at : ℕ) × IsNoHeaderAt (any_fixed id_len versions) bytes spans at e
stopped_with id_len versions bytes e fits answer (header h spans rest s) =
    let at = header_without id_len versions (length bytes) bytes h spans rest s in
    let clash : (let r : Read = Ok (h, rest) in r) ≡ Err e =
    read_sole id_len versions bytes (Ok (h, rest)) (Err e) fits at answer in
    absurd cc
stopped_with id_len versions bytes e fits answer (none spans at d s) =
    let same : (let r : Read = Err d in r) ≡ Err e =
    read_sole id_len versions bytes (Err d) (Err e) fits (no_header_read id_len versions bytes spans at d fits s) answer in
    (spans, at, subst (IsNoHeaderAt (any_fixed id_len versions) bytes spans at) (let is : d ≡ e = cc in is) s)

pub no_header_with_spans : (id_len : ℕ) (versions bytes : List ℕ) (e : Refusal) → AreBytes bytes
    → ReadAnswer (any_fixed id_len versions) bytes (Err e)
    → (spans : List Span) × (at : ℕ) × IsNoHeaderAt (any_fixed id_len versions) bytes spans at e
no_header_with_spans id_len versions bytes e fits answer =
    stopped_with id_len versions bytes e fits answer (either id_len versions bytes fits)

-- ---- the contract of the call

header_walk_row : (options : DecodeOptions) (bytes : List ℕ)
    → AreInRow 0 (header_walk options bytes).0 (last_end 0 (header_walk options bytes).0)
header_walk_row options [] = refl
header_walk_row options (first ∷ text) =
    let version = num (take 4 text) in
    (refl, omega arith, walk_in_row (is_known options version) options 1 1 (header_row_of first version) [] text)

pub has_header : (options : DecodeOptions) (bytes : List ℕ) (old new : List Span) (count end : ℕ) (h : ProtectedHeader)
    (rest : List ℕ) → HeaderAt options (length bytes) bytes h rest
    → new ≡ stored 0 (header_walk options bytes).0 old → count ≡ length (header_walk options bytes).0
    → end ≡ last_end 0 (header_walk options bytes).0 → HasHeader options bytes old new count end
has_header options bytes old new count end h rest at there counted ended =
    let s = header_with_spans options (length bytes) bytes h rest at in
    let again = header_walk_again options (length bytes) bytes h s.0 rest s.1 in
    let same : (header_walk options bytes).0 ≡ s.0 = ap (λ (w : Walked). w.0) again.1 in
    let row = header_in_row options (length bytes) bytes h s.0 rest s.1 in
    let stop : last_end 0 s.0 ≡ length row.0 = last_in_row 0 (length row.0) s.0 row.2 in
    record {
      header = h;
      spans = s.0;
      rest = rest;
      here = s.1;
      room = there ∙ ap (λ (spans : List Span). stored 0 spans old) same;
      all = counted ∙ ap length same;
      stop = omega (arith, ended, ap (last_end 0) same, stop, ap length row.1, length-append row.0 rest);
    }

pub lacks_header : (id_len : ℕ) (versions bytes : List ℕ) (old new : List Span) (count end : ℕ) (e : Refusal)
    → AreBytes bytes → ReadAnswer (any_fixed id_len versions) bytes (Err e)
    → new ≡ stored 0 (header_walk (any_fixed id_len versions) bytes).0 old
    → count ≡ length (header_walk (any_fixed id_len versions) bytes).0
    → end ≡ last_end 0 (header_walk (any_fixed id_len versions) bytes).0
    → LacksHeader (any_fixed id_len versions) bytes old new count end e
lacks_header id_len versions bytes old new count end e fits answer there counted ended =
    let options = any_fixed id_len versions in
    let s = no_header_with_spans id_len versions bytes e fits answer in
    let again = no_header_again options bytes s.0 s.1 e fits (takes id_len versions) s.2 in
    let same : (header_walk options bytes).0 ≡ s.0 = ap (λ (w : Walked). w.0) again.0 in
    let here : s.1 ≡ count = again.1 ∙ sym (counted ∙ ap length same) in
    record {
      spans = s.0;
      no_header = subst (λ (n : ℕ). IsNoHeaderAt options bytes s.0 n e) here s.2;
      room = there ∙ ap (λ (spans : List Span). stored 0 spans old) same;
      all = counted ∙ ap length same;
      stop = subst (λ (spans : List Span). AreInRow 0 spans end) same
          (subst (AreInRow 0 (header_walk options bytes).0) (sym ended) (header_walk_row options bytes));
    }

-- ---- one field at fault

none_with : (id_len : ℕ) (versions bytes : List ℕ) → Either (any_fixed id_len versions) bytes
    → ((h : ProtectedHeader) (rest : List ℕ) → HeaderAt (any_fixed id_len versions) (length bytes) bytes h rest → ⊥)
    → (spans : List Span) × (at : ℕ) × (e : Refusal) × IsNoHeaderAt (any_fixed id_len versions) bytes spans at e
none_with id_len versions bytes (header h spans rest s) missing =
    absurd (missing h rest (header_without id_len versions (length bytes) bytes h spans rest s))
none_with id_len versions bytes (none spans at e s) missing = (spans, at, e, s)

pub no_header_somewhere : (id_len : ℕ) (versions bytes : List ℕ) → AreBytes bytes
    → ((h : ProtectedHeader) (rest : List ℕ) → HeaderAt (any_fixed id_len versions) (length bytes) bytes h rest → ⊥)
    → (spans : List Span) × (at : ℕ) × (e : Refusal) × IsNoHeaderAt (any_fixed id_len versions) bytes spans at e
no_header_somewhere id_len versions bytes fits missing = none_with id_len versions bytes (either id_len versions bytes fits) missing

pub never_both : (id_len : ℕ) (versions bytes : List ℕ) (whole : ℕ) (h : ProtectedHeader) (rest : List ℕ)
    (spans : List Span) (at : ℕ) (e : Refusal) → AreBytes bytes
    → HeaderAt (any_fixed id_len versions) whole bytes h rest
    → IsNoHeaderAt (any_fixed id_len versions) bytes spans at e → ⊥
never_both id_len versions bytes whole h rest spans at e fits s t =
    let options = any_fixed id_len versions in
    let with_spans = header_with_spans options whole bytes h rest s in
    let a = header_walk_again options whole bytes h with_spans.0 rest with_spans.1 in
    let b = no_header_again options bytes spans at e fits (takes id_len versions) t in
    let clash : (let r : Result Taken Refusal = Ok (a.0, rest) in r) ≡ Err e = ap (λ (w : Walked). w.1) (sym a.1 ∙ b.0) in
    cc

-- the error is the grammar's, or that of a version that isn't known
abbrev pub IsSame : DecodeOptions → List ℕ → Refusal → Refusal → Type 0
IsSame options bytes e d =
    (d ≡ e) ⊎ ((version : ℕ) × (dst src : List ℕ) × (d ≡ Unsupported src dst version)
    × IsUnknownVersion options bytes version dst src)

same_with : (id_len : ℕ) (versions bytes : List ℕ) (e d : Refusal) → AreBytes bytes
    → Refused (any_fixed id_len versions) bytes e → ReadAnswer (any_fixed id_len versions) bytes (Err d)
    → IsSame (any_fixed id_len versions) bytes e d
same_with id_len versions bytes e (Unsupported src dst version) fits refused answer =
    inr (version, dst, src, refl, answer)
same_with id_len versions bytes e (Invalid text) fits refused answer =
    let options = any_fixed id_len versions in
    let one : header_at options (length bytes) bytes ≡ Err e = refused_again options (length bytes) bytes e fits refused in
    let two : header_at options (length bytes) bytes ≡ Err (Invalid text) =
    refused_again options (length bytes) bytes (Invalid text) fits answer.0 in
    let same : (let r : Read = Err (Invalid text) in r) ≡ Err e = sym two ∙ one in
    inl cc
same_with id_len versions bytes e NoMemory fits refused answer =
    let options = any_fixed id_len versions in
    let one : header_at options (length bytes) bytes ≡ Err e = refused_again options (length bytes) bytes e fits refused in
    let two : header_at options (length bytes) bytes ≡ Err NoMemory =
    refused_again options (length bytes) bytes NoMemory fits answer.0 in
    let same : (let r : Read = Err NoMemory in r) ≡ Err e = sym two ∙ one in
    inl cc

pub refused_somewhere : (id_len : ℕ) (versions bytes : List ℕ) (e : Refusal) → AreBytes bytes
    → Refused (any_fixed id_len versions) bytes e
    → (spans : List Span) × (at : ℕ) × (d : Refusal) × IsNoHeaderAt (any_fixed id_len versions) bytes spans at d
    × IsSame (any_fixed id_len versions) bytes e d
refused_somewhere id_len versions bytes e fits refused =
    let options = any_fixed id_len versions in
    let none : (h : ProtectedHeader) (rest : List ℕ) → HeaderAt options (length bytes) bytes h rest → ⊥ =
    λ h rest at. (let clash : (let r : Read = Ok (h, rest) in r) ≡ Err e =
    sym (header_again options (length bytes) bytes h rest at) ∙ refused_again options (length bytes) bytes e fits refused in cc) in
    let s = no_header_somewhere id_len versions bytes fits none in
    (s.0, s.1, s.2, s.3, same_with id_len versions bytes e s.2 fits refused (no_header_read id_len versions bytes s.0 s.1 s.2 fits s.3))
