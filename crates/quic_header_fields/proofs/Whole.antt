-- The walk over a header: its first byte, and then the row.
use Rattle.std.proofs.Common.{◌≡◌, ℕ, ◌+◌, Bool, true, false, List, [], ◌∷◌, length, take, slice_set, Some, refl, ap, subst, ◌∙◌, arith}
use Rattle.quic_base.specs.Number.{num}
use Rattle.quic_fields.specs.declared.field.Span.{Span}
use Rattle.quic_fields.specs.Walk.{stored, last_end}
use Rattle.quic_header_decode.specs.Grammar.{HeaderField, ShortId, header_row_of, is_long}
use Rattle.quic_header_decode.specs.Reading.{DecodeOptions, word_at}
use Rattle.quic_header_decode.proofs.Headers.{word_says}
use Rattle.quic_header_fields.specs.Inside.{stop_at, stop_in_header}
use Rattle.quic_header_fields.specs.Spans.{first_span, is_known}
use Rattle.quic_header_fields.specs.Walk.{Walked, header_walk, walk_at}

short_known : (known : Bool) (options : DecodeOptions) (text : List ℕ)
    → walk_at known options 1 1 (ShortId ∷ []) [] text ≡ walk_at true options 1 1 (ShortId ∷ []) [] text
short_known true options text = refl
short_known false options text = refl

pub short_whole : (options : DecodeOptions) (first : ℕ) (text bytes : List ℕ) (fields : List HeaderField)
    → bytes ≡ first ∷ text → is_long first ≡ false → fields ≡ header_row_of first 0
    → (header_walk options bytes).0 ≡ first_span first ∷ (walk_at true options 1 1 fields [] text).0
short_whole options first text bytes fields split short row =
    let known = is_known options (num (take 4 text)) in
    let walked : walk_at known options 1 1 (ShortId ∷ []) [] text ≡ walk_at true options 1 1 (ShortId ∷ []) [] text =
    short_known known options text in
    rw (split, row, short) (ap (λ (w : Walked). first_span first ∷ w.0) walked)

pub long_whole : (options : DecodeOptions) (first version : ℕ) (known : Bool) (text rest bytes : List ℕ)
    (fields : List HeaderField)
    → bytes ≡ first ∷ text → word_at text ≡ Some (version, rest) → known ≡ is_known options version
    → fields ≡ header_row_of first version
    → (header_walk options bytes).0 ≡ first_span first ∷ (walk_at known options 1 1 fields [] text).0
long_whole options first version known text rest bytes fields split word is row =
    let same : num (take 4 text) ≡ version = word_says text (version, rest) word in
    rw (split, same, is, row) refl

pub whole_stored : (first : ℕ) (spans walked : List Span) (old mid new : List Span) (number : ℕ)
    → walked ≡ first_span first ∷ spans → number ≡ first
    → mid ≡ slice_set old 0 (record { field = 0; start = 0; end = 1; number = number })
    → new ≡ stored 1 spans mid → new ≡ stored 0 walked old
whole_stored first spans walked old mid new number whole same one others =
    let one_is : mid ≡ slice_set old 0 (first_span first) =
    one ∙ ap (λ (n : ℕ). slice_set old 0 (record { field = 0; start = 0; end = 1; number = n })) same in
    rw (whole) (subst (λ (m : List Span). new ≡ stored 1 spans m) one_is others)

pub whole_counted : (first : ℕ) (spans walked : List Span) (count : ℕ) → walked ≡ first_span first ∷ spans
    → count ≡ 1 + length spans → count ≡ length walked
whole_counted first spans walked count whole counted = omega (arith, ap length whole, counted)

pub whole_ended : (first : ℕ) (spans walked : List Span) (end : ℕ) → walked ≡ first_span first ∷ spans
    → end ≡ last_end 1 spans → end ≡ last_end 0 walked
whole_ended first spans walked end whole ended = rw (whole) ended

-- ---- where reading stops inside a field

short_stop_known : (known : Bool) (options : DecodeOptions) (text : List ℕ)
    → stop_at known options (ShortId ∷ []) [] text ≡ stop_at true options (ShortId ∷ []) [] text
short_stop_known true options text = refl
short_stop_known false options text = refl

pub short_stop : (options : DecodeOptions) (first : ℕ) (text bytes : List ℕ) (fields : List HeaderField)
    → bytes ≡ first ∷ text → is_long first ≡ false → fields ≡ header_row_of first 0
    → stop_in_header options bytes ≡ stop_at true options fields [] text
short_stop options first text bytes fields split short row =
    let known = is_known options (num (take 4 text)) in
    let same : stop_at known options (ShortId ∷ []) [] text ≡ stop_at true options (ShortId ∷ []) [] text =
    short_stop_known known options text in
    rw (split, row, short) same

pub long_stop : (options : DecodeOptions) (first version : ℕ) (known : Bool) (text rest bytes : List ℕ)
    (fields : List HeaderField)
    → bytes ≡ first ∷ text → word_at text ≡ Some (version, rest) → known ≡ is_known options version
    → fields ≡ header_row_of first version
    → stop_in_header options bytes ≡ stop_at known options fields [] text
long_stop options first version known text rest bytes fields split word is row =
    let same : num (take 4 text) ≡ version = word_says text (version, rest) word in
    rw (split, same, is, row) refl
