-- Which field is at fault in a packet that isn't complete although its header is (RFC 9000, sections 17.2 and 17.2.5).
use Rattle.std.specs.Prelude.{◌≡◌, ℕ, List, [], ◌∷◌, ◌++◌, length, take, nat_lt, if◌then◌else◌}
use Rattle.quic_base.specs.Number.{num}
use Rattle.quic_fields.specs.declared.field.Span.{Span}
use Rattle.quic_fields.specs.Spans.{AreInRow}
use Rattle.quic_fields.specs.Walk.{stored}
use Rattle.quic_header_decode.specs.Grammar.{header_row_of}
use Rattle.quic_header_decode.specs.Reading.{DecodeOptions}
use Rattle.quic_header_fields.specs.After.{bytes_span}
use Rattle.quic_header_fields.specs.Spans.{first_span, is_known}
use Rattle.quic_header_fields.specs.Walk.{walk_at}

abbrev pub but_last : {X : Type 0} → List X → List X
but_last [] = []
but_last (x ∷ []) = []
but_last (x ∷ y ∷ xs) = x ∷ but_last (y ∷ xs)

-- The spans are in the room, as far as it reaches; this is how many they are, and so the index of the field at fault;
-- and that field begins at this offset.
pub record AreStored (spans old new : List Span) (count end : ℕ) : Type 0 where
  pub room : new ≡ stored 0 spans old
  pub all : count ≡ length spans
  pub stop : AreInRow 0 spans end

-- The fields of a Retry before the one at fault, if so many bytes follow its header: fewer than a tag has, so that the
-- tag is at fault, after a token without bytes; or as many, so that the token is.
abbrev pub partial_spans : List Span → ℕ → ℕ → List Span
partial_spans spans end count = if nat_lt count 16 then spans ++ bytes_span (length spans) end 0 0 ∷ [] else spans

-- the fields of the header at the front before the last one in its row: what the code computes
abbrev pub cut_walk : DecodeOptions → List ℕ → List Span
cut_walk options [] = []
cut_walk options (first ∷ text) =
    let version = num (take 4 text) in
    first_span first
    ∷ (walk_at (is_known options version) options 1 1 (but_last (header_row_of first version)) [] text).0
