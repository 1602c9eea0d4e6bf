-- A field that is read is the first of a walk.
use Rattle.std.proofs.Common.{◌≡◌, ℕ, ◌+◌, ◌-◌, Bool, List, [], ◌∷◌, ◌++◌, length, slice_set, Ok, Err, Result, Some, None, refl, sym, ap, subst, arith}
use Rattle.quic_header_decode.specs.Fields.{Taken}
use Rattle.quic_header_decode.proofs.Steps.{some_same}
use Rattle.quic_header_decode.specs.Grammar.{HeaderField, HeaderValue}
use Rattle.quic_header_decode.specs.Reading.{DecodeOptions}
use Rattle.quic_header_decode.specs.Refusal.{Refusal}
use Rattle.quic_fields.specs.declared.field.Span.{Span}
use Rattle.quic_fields.specs.Walk.{stored, last_end}
use Rattle.quic_header_fields.specs.declared.field.Seen.{Seen}
use Rattle.quic_header_fields.specs.Inside.{inside, stop_after, stop_at}
use Rattle.quic_header_fields.specs.Spans.{number_of}
use Rattle.quic_header_fields.specs.Walk.{Walked, after_field, field_in, seen_of, seen_after, walk_at}

abbrev pub span_of : ℕ → ℕ → ℕ → ℕ → Span
span_of index start end number = record { field = index; start = start; end = end; number = number }

-- what reading the fields after one does
abbrev pub others_of : Bool → DecodeOptions → ℕ → List HeaderField → List HeaderValue → ℕ → List HeaderValue → List ℕ
    → Walked
others_of known options index fields before =
    λ end values left. walk_at known options (index + 1) end fields (before ++ values) left

abbrev pub stops_of : Bool → DecodeOptions → List HeaderField → List HeaderValue → List HeaderValue → List ℕ → ℕ × ℕ
stops_of known options fields before = λ values left. stop_at known options fields (before ++ values) left

-- the rest of a walk after a field with these values
pub record Steps (known : Bool) (options : DecodeOptions) (index start : ℕ) (fields : List HeaderField)
    (before : List HeaderValue) (bytes : List ℕ) (n : ℕ) (s : Seen) (rest : List ℕ) (walked : Walked) (stopped : ℕ × ℕ) : Type 0 where
  pub values : List HeaderValue
  pub seen : s ≡ seen_of (before ++ values)
  pub stops : stopped ≡ stop_at known options fields (before ++ values) rest
  pub spans : walked.0 ≡ span_of index start (start + (length bytes - length rest)) n
      ∷ (walk_at known options (index + 1) (start + (length bytes - length rest)) fields (before ++ values) rest).0

step_with : (known : Bool) (options : DecodeOptions) (index start : ℕ) (field : HeaderField) (fields : List HeaderField)
    (before : List HeaderValue) (bytes : List ℕ) (n : ℕ) (s : Seen) (rest : List ℕ) (r : Result Taken Refusal)
    → seen_after field before (length bytes) r ≡ Some (n, s, rest)
    → Steps known options index start fields before bytes n s rest
    (after_field index start field (length bytes) (others_of known options index fields before) r)
    (stop_after known field bytes (stops_of known options fields before) r)
step_with known options index start field fields before bytes n s rest (Err d) e = absurd cc
step_with known options index start field fields before bytes n s rest (Ok x) e =
    let same : (number_of field x.0 (length bytes - length x.1), seen_of (before ++ x.0), x.1) ≡ (n, s, rest) = some_same e in
    let left : x.1 ≡ rest = ap (λ (p : ℕ × Seen × List ℕ). p.2) same in
    let seen : seen_of (before ++ x.0) ≡ s = ap (λ (p : ℕ × Seen × List ℕ). p.1) same in
    let number : number_of field x.0 (length bytes - length x.1) ≡ n = ap (λ (p : ℕ × Seen × List ℕ). p.0) same in
    record {
      values = x.0;
      seen = sym seen;
      stops = ap (λ (l : List ℕ). stop_at known options fields (before ++ x.0) l) left;
      spans = rw (number, left) refl;
    }

pub step_found : (known : Bool) (options : DecodeOptions) (index start : ℕ) (field : HeaderField)
    (fields : List HeaderField) (before : List HeaderValue) (bytes : List ℕ) (n : ℕ) (s : Seen) (rest : List ℕ)
    → seen_after field before (length bytes) (field_in known options field before bytes) ≡ Some (n, s, rest)
    → Steps known options index start fields before bytes n s rest (walk_at known options index start (field ∷ fields) before bytes)
    (stop_at known options (field ∷ fields) before bytes)
step_found known options index start field fields before bytes n s rest e =
    step_with known options index start field fields before bytes n s rest (field_in known options field before bytes) e

stop_with : (known : Bool) (options : DecodeOptions) (index start : ℕ) (field : HeaderField) (fields : List HeaderField)
    (before : List HeaderValue) (bytes : List ℕ) (r : Result Taken Refusal)
    → seen_after field before (length bytes) r ≡ None
    → (after_field index start field (length bytes) (others_of known options index fields before) r).0 ≡ []
stop_with known options index start field fields before bytes (Err d) e = refl
stop_with known options index start field fields before bytes (Ok x) e = absurd cc

pub step_none : (known : Bool) (options : DecodeOptions) (index start : ℕ) (field : HeaderField)
    (fields : List HeaderField) (before : List HeaderValue) (bytes : List ℕ)
    → seen_after field before (length bytes) (field_in known options field before bytes) ≡ None
    → (walk_at known options index start (field ∷ fields) before bytes).0 ≡ []
step_none known options index start field fields before bytes e =
    stop_with known options index start field fields before bytes (field_in known options field before bytes) e

-- ---- what the call stores and returns

pub all_stored : (known : Bool) (options : DecodeOptions) (index start : ℕ) (fields : List HeaderField)
    (before : List HeaderValue) (bytes : List ℕ) (n : ℕ) (s : Seen) (rest : List ℕ) (walked : Walked) (stopped : ℕ × ℕ)
    (width : ℕ) (old mid new : List Span) (step : Steps known options index start fields before bytes n s rest walked stopped)
    → width ≡ length bytes - length rest
    → mid ≡ slice_set old index (span_of index start (start + width) n)
    → new ≡ stored (index + 1) (walk_at known options (index + 1) (start + width) fields (before ++ step.values) rest).0 mid
    → new ≡ stored index walked.0 old
all_stored known options index start fields before bytes n s rest walked stopped width old mid new step wide one others =
    let spans = (walk_at known options (index + 1) (start + width) fields (before ++ step.values) rest).0 in
    rw (step.spans, ← wide) (subst (λ (m : List Span). new ≡ stored (index + 1) spans m) one others)

pub all_counted : (known : Bool) (options : DecodeOptions) (index start : ℕ) (fields : List HeaderField)
    (before : List HeaderValue) (bytes : List ℕ) (n : ℕ) (s : Seen) (rest : List ℕ) (walked : Walked) (stopped : ℕ × ℕ)
    (width count : ℕ) (step : Steps known options index start fields before bytes n s rest walked stopped)
    → width ≡ length bytes - length rest
    → count ≡ index + 1 + length (walk_at known options (index + 1) (start + width) fields (before ++ step.values) rest).0
    → count ≡ index + length walked.0
all_counted known options index start fields before bytes n s rest walked stopped width count step wide others =
    rw (step.spans, ← wide) (omega (arith, others))

pub all_ended : (known : Bool) (options : DecodeOptions) (index start : ℕ) (fields : List HeaderField)
    (before : List HeaderValue) (bytes : List ℕ) (n : ℕ) (s : Seen) (rest : List ℕ) (walked : Walked) (stopped : ℕ × ℕ)
    (width end : ℕ) (step : Steps known options index start fields before bytes n s rest walked stopped)
    → width ≡ length bytes - length rest
    → end ≡ last_end (start + width) (walk_at known options (index + 1) (start + width) fields (before ++ step.values) rest).0
    → end ≡ last_end start walked.0
all_ended known options index start fields before bytes n s rest walked stopped width end step wide others =
    rw (step.spans, ← wide) others

-- ---- where reading stops inside a field

none_with : (known : Bool) (options : DecodeOptions) (field : HeaderField) (fields : List HeaderField)
    (before : List HeaderValue) (bytes : List ℕ) (r : Result Taken Refusal)
    → seen_after field before (length bytes) r ≡ None
    → stop_after known field bytes (stops_of known options fields before) r ≡ inside known field bytes
none_with known options field fields before bytes (Err d) e = refl
none_with known options field fields before bytes (Ok x) e = absurd cc

pub stop_none : (known : Bool) (options : DecodeOptions) (field : HeaderField) (fields : List HeaderField)
    (before : List HeaderValue) (bytes : List ℕ)
    → seen_after field before (length bytes) (field_in known options field before bytes) ≡ None
    → stop_at known options (field ∷ fields) before bytes ≡ inside known field bytes
stop_none known options field fields before bytes e =
    none_with known options field fields before bytes (field_in known options field before bytes) e
