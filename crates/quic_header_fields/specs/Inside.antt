-- Where reading stops inside a field that can't be read: how many of its bytes come before the number or the bytes at
-- fault, and how many numbers these are. Only an id has a number before its bytes, its length.
use Rattle.std.specs.Prelude.{◌≡◌, ℕ, ◌<◌, ◌≤◌, ◌⊎◌, Bool, true, List, [], ◌∷◌, ◌++◌, length, take, Result, Ok, Err, nat_lt, ◌&&◌, if◌then◌else◌}
use Rattle.quic_base.specs.Number.{num}
use Rattle.quic_header_decode.specs.Fields.{Taken}
use Rattle.quic_header_decode.specs.Grammar.{HeaderField, DestinationId, SourceId, HeaderValue, header_row_of}
use Rattle.quic_header_decode.specs.Reading.{DecodeOptions}
use Rattle.quic_header_decode.specs.Refusal.{Refusal}
use Rattle.quic_header_fields.specs.Spans.{is_known}
use Rattle.quic_header_fields.specs.Walk.{field_in}

-- Where it stops in an id: the length is missing, or is above 20 in a version that is known; or that many bytes aren't
-- there.
abbrev pub StopsInId : Bool → List ℕ → ℕ × ℕ → Type 0
StopsInId known [] at = at ≡ (0, 0)
StopsInId known (n ∷ bytes) at =
    ((known ≡ true) × (20 < n) × (at ≡ (0, 0)))
    ⊎ ((known ≡ true → n ≤ 20) × (length bytes < n) × (at ≡ (1, 1)))

-- the same of a field of any kind
abbrev pub StopsInside : Bool → HeaderField → List ℕ → ℕ × ℕ → Type 0
StopsInside known DestinationId bytes at = StopsInId known bytes at
StopsInside known SourceId bytes at = StopsInId known bytes at
StopsInside known field bytes at = at ≡ (0, 0)

-- ---- as functions: what the code computes

abbrev pub inside_id : Bool → List ℕ → ℕ × ℕ
inside_id known [] = (0, 0)
inside_id known (n ∷ bytes) = if known && nat_lt 20 n then (0, 0) else (1, 1)

abbrev pub inside : Bool → HeaderField → List ℕ → ℕ × ℕ
inside known DestinationId bytes = inside_id known bytes
inside known SourceId bytes = inside_id known bytes
inside known field bytes = (0, 0)

abbrev pub stop_after : Bool → HeaderField → List ℕ → (List HeaderValue → List ℕ → ℕ × ℕ) → Result Taken Refusal
    → ℕ × ℕ
stop_after known field bytes others (Err e) = inside known field bytes
stop_after known field bytes others (Ok x) = others x.0 x.1

-- the same of the first of these fields that can't be read; none, if all can
abbrev pub stop_at : Bool → DecodeOptions → List HeaderField → List HeaderValue → List ℕ → ℕ × ℕ
stop_at known options [] before bytes = (0, 0)
stop_at known options (field ∷ fields) before bytes = stop_after known field bytes
    (λ values left. stop_at known options fields (before ++ values) left) (field_in known options field before bytes)

-- the same of the header at the front
abbrev pub stop_in_header : DecodeOptions → List ℕ → ℕ × ℕ
stop_in_header options [] = (0, 0)
stop_in_header options (first ∷ text) =
    let version = num (take 4 text) in
    stop_at (is_known options version) options (header_row_of first version) [] text
