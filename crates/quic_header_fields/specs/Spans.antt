-- Where the fields of a header are in its bytes (RFC 9000, section 17; RFC 8999, section 5.1).
use Rattle.std.specs.Prelude.{◌≡◌, ℕ, ◌+◌, ◌⊎◌, Bool, true, false, List, [], ◌∷◌, ◌++◌, length, take, codes, ◌==◌, ◌||◌}
use Rattle.std.specs.List.{list_any}
use Rattle.quic_base.specs.ConnectionId.{long_id}
use Rattle.quic_base.specs.Number.{num}
use Rattle.quic_fields.specs.declared.field.Span.{Span}
use Rattle.quic_header_decode.specs.declared.protected.ProtectedHeader.{ProtectedHeader}
use Rattle.quic_header_decode.specs.Grammar.{HeaderField, DestinationId, SourceId, Token, HeaderValue, Number, Bytes, header_row_of, IsHeaderField, IsRefusal, IsHeader}
use Rattle.quic_header_decode.specs.Reading.{DecodeOptions}
use Rattle.quic_header_decode.specs.Refusal.{Refusal, Invalid}

-- ---- spans

-- the number of a value: itself; of bytes, how many
abbrev pub number_in : List HeaderValue → ℕ
number_in [] = 0
number_in (Number n ∷ values) = n
number_in (Bytes bytes ∷ values) = length bytes

-- the number of a field in n bytes: its value's; of a token, how many bytes it has
abbrev pub number_of : HeaderField → List HeaderValue → ℕ → ℕ
number_of Token values n = n
number_of field values n = number_in values

-- the field with this index, which begins at an offset and has these values in n bytes
abbrev pub span : ℕ → ℕ → HeaderField → List HeaderValue → ℕ → Span
span index start field values n =
    record { field = index; start = start; end = start + n; number = number_of field values n }

-- the first byte
abbrev pub first_span : ℕ → Span
first_span first = record { field = 0; start = 0; end = 1; number = first }

-- ---- fields of versions that are known, and of others

-- The version is 0, that of a version negotiation, or one of those that are known (RFC 9000, section 6.1).
abbrev pub is_known : DecodeOptions → ℕ → Bool
is_known options version = (version == 0) || list_any (λ known. known == version) options.versions

-- an id of any length that a byte can say (RFC 8999, section 5.1)
abbrev pub IsAnyId : List HeaderValue → List ℕ → Type 0
IsAnyId values bytes = (id : List ℕ) × (values ≡ Bytes id ∷ []) × (bytes ≡ long_id id)

-- After fields with the values in before, and in front of rest, the bytes are a field of this kind, with these values:
-- as RFC 9000 says if the version is known, and else with ids of any length.
abbrev pub IsFieldIn : Bool → DecodeOptions → HeaderField → List HeaderValue → List HeaderValue → List ℕ → List ℕ
    → Type 0
IsFieldIn true options field before values bytes rest = IsHeaderField options field before values bytes rest
IsFieldIn false options DestinationId before values bytes rest = IsAnyId values bytes
IsFieldIn false options SourceId before values bytes rest = IsAnyId values bytes
IsFieldIn false options field before values bytes rest = IsHeaderField options field before values bytes rest

-- The bytes don't begin with such a field, and why.
pub record StopsAt (known : Bool) (options : DecodeOptions) (field : HeaderField) (before : List HeaderValue)
    (bytes : List ℕ) (e : Refusal) : Type 0 where
  pub none : (values : List HeaderValue) (front rest : List ℕ) → bytes ≡ front ++ rest
      → IsFieldIn known options field before values front rest → ⊥
  pub why : IsRefusal options field before bytes e

-- ---- rows

-- The bytes, which start at an offset, are the fields of a row, and then rest; these are their spans: each field begins
-- where the one before it ends. The first has the given index. The values grow from before to after.
abbrev pub AreFieldsAt : Bool → DecodeOptions → ℕ → ℕ → List HeaderField → List HeaderValue → List Span
    → List HeaderValue → List ℕ → List ℕ → Type 0
AreFieldsAt known options index start [] before spans after bytes rest =
    (spans ≡ []) × (after ≡ before) × (bytes ≡ rest)
AreFieldsAt known options index start (field ∷ fields) before spans after bytes rest =
    (values : List HeaderValue) × (front left : List ℕ) × (others : List Span) × (bytes ≡ front ++ left)
    × IsFieldIn known options field before values front left
    × (spans ≡ span index start field values (length front) ∷ others)
    × AreFieldsAt known options (index + 1) (start + length front) fields (before ++ values) others after left rest

-- The first fields of a row are there, and these are their spans; the next one, which has this index, is not.
abbrev pub StopsWithinAt : Bool → DecodeOptions → ℕ → ℕ → List HeaderField → List HeaderValue → List Span → List ℕ
    → ℕ → Refusal → Type 0
StopsWithinAt known options index start [] before spans bytes at e = ⊥
StopsWithinAt known options index start (field ∷ fields) before spans bytes at e =
    (spans ≡ []) × (at ≡ index) × StopsAt known options field before bytes e
    ⊎ ((values : List HeaderValue) × (front left : List ℕ) × (others : List Span) × (bytes ≡ front ++ left)
    × IsFieldIn known options field before values front left
    × (spans ≡ span index start field values (length front) ∷ others)
    × StopsWithinAt known options (index + 1) (start + length front) fields (before ++ values) others left at e)

-- ---- headers

-- The bytes begin with this header, which rest follows, and these are the spans of its fields: the first byte, and then
-- those of its row.
abbrev pub IsHeaderAt : DecodeOptions → ℕ → List ℕ → ProtectedHeader → List Span → List ℕ → Type 0
IsHeaderAt options datagram_len bytes h spans rest =
    (first : ℕ) × (text : List ℕ) × (values : List HeaderValue) × (others : List Span) × (bytes ≡ first ∷ text)
    × (spans ≡ first_span first ∷ others)
    × AreFieldsAt true options 1 1 (header_row_of first (num (take 4 text))) [] others values text rest
    × IsHeader datagram_len first values h

-- The bytes begin with no header, and this is the error: there is no first byte; or the field with this index in the
-- row is not there, and these are the spans of those before it.
abbrev pub IsNoHeaderAt : DecodeOptions → List ℕ → List Span → ℕ → Refusal → Type 0
IsNoHeaderAt options [] spans at e = (spans ≡ []) × (at ≡ 0) × (e ≡ Invalid (codes "unexpected end of packet"))
IsNoHeaderAt options (first ∷ text) spans at e =
    let version = num (take 4 text) in
    (others : List Span) × (spans ≡ first_span first ∷ others)
    × StopsWithinAt (is_known options version) options 1 1 (header_row_of first version) [] others text at e
