-- The field of a header to be written that can't have its value (RFC 9000, section 17).
use Rattle.std.specs.Prelude.{◌≡◌, ℕ, ◌+◌, ◌<◌, ◌^◌, ◌==◌, ◌&&◌, ◌||◌, ◌⊎◌, List, [], ◌∷◌, ◌++◌, length, map, nat_lt, nat_le, Bool, true, not, Option, Some, None, is_some, if◌then◌else◌}
use Rattle.std.specs.Option.{option_map_or}
use Rattle.quic_header_decode.specs.Grammar.{HeaderField, Version, DestinationId, SourceId, Supported, TokenLength, Length, Token, ShortId, typed_row}
use Rattle.quic_header_encode.specs.declared.long_type.HeaderKind.{HeaderKind}
use Rattle.quic_header_encode.specs.Kinds.{row}
use Rattle.quic_c_headers.specs.declared.words.HeaderFields.{HeaderFields}
use Rattle.quic_c_headers.specs.Headers.{word_of}
use Rattle.quic_results.specs.Faults.{first_false}

-- whether a varint can have that many bytes (section 16)
abbrev pub is_width : ℕ → Bool
is_width len = (len == 1) || (len == 2) || (len == 4) || (len == 8)

-- whether the field can have its value, by how many bytes the ids and the token have. Of a type of header the version
-- isn't 0, which means a version negotiation (section 17.2.1); the length isn't known yet, only how many bytes it has.
abbrev pub can_have : HeaderKind → HeaderFields → ℕ → ℕ → ℕ → HeaderField → Bool
can_have kind words dst src token Version = not (is_some (row kind).type) || nat_lt 0 words.version
can_have kind words dst src token DestinationId = nat_le dst 20
can_have kind words dst src token SourceId = nat_le src 20
can_have kind words dst src token (Supported version) = true
can_have kind words dst src token TokenLength = nat_lt token (2 ^ 62)
can_have kind words dst src token Token = true
can_have kind words dst src token Length = is_width words.length_len
can_have kind words dst src token ShortId = nat_le dst 20

-- whether the packet number, which follows a header's other fields, can be written
abbrev pub can_have_number : HeaderFields → Bool
can_have_number words = nat_lt 0 words.number_len && nat_le words.number_len 4 && nat_lt words.number (2 ^ 62)

-- the fields of a kind of header after the first byte, as a reader has them (`header_row_of`)
abbrev pub fields_in : HeaderKind → ℕ → List HeaderField
fields_in kind version =
    option_map_or (λ ty. Version ∷ DestinationId ∷ SourceId ∷ Supported version ∷ typed_row ty) (row kind).type
    (if (row kind).is_long then Version ∷ DestinationId ∷ SourceId ∷ [] else ShortId ∷ [])

-- for each field after the first byte whether it can have its value
abbrev pub all_can : HeaderKind → HeaderFields → ℕ → ℕ → ℕ → List Bool
all_can kind words dst src token =
    map (can_have kind words dst src token) (fields_in kind words.version)
    ++ (if (row kind).has_number then can_have_number words ∷ [] else [])

-- What is found is the index of the first field that can't have its value, if there is one; 0, the first byte's, if
-- there is no such kind of header.
abbrev pub IsWriteFault : HeaderFields → ℕ → ℕ → ℕ → Option ℕ → Type 0
IsWriteFault words dst src token found =
    (5 < words.kind) × (found ≡ Some 0)
    ⊎ ((kind : HeaderKind) × (word_of (row kind) ≡ words.kind)
    × (found ≡ first_false 1 (all_can kind words dst src token)))

-- ids and a token, and how many bytes they have
pub record AreLengths (dst src token : List ℕ) (dst_len src_len token_len : ℕ) : Type 0 where
  pub dst_is : length dst ≡ dst_len
  pub src_is : length src ≡ src_len
  pub token_is : length token ≡ token_len
