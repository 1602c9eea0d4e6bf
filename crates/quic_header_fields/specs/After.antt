-- The fields that follow the header of a packet without a number, up to its end (RFC 9000, sections 17.2.1 and 17.2.5).
use Rattle.std.specs.Prelude.{◌≡◌, ℕ, ◌+◌, ◌-◌, ◌*◌, ◌/◌, ◌%◌, ◌<◌, ◌⊎◌, List, [], ◌∷◌, ◌++◌, length, nat_lt, nat_eq, if◌then◌else◌}
use Rattle.quic_fields.specs.declared.field.Span.{Span}
use Rattle.quic_fields.specs.Spans.{AreInRow}
use Rattle.quic_fields.specs.Walk.{stored}
use Rattle.quic_header_encode.specs.declared.long_type.HeaderKind.{HeaderKind}
use Rattle.quic_header_encode.specs.declared.long_type.HeaderKind.TheVariants as kind
use Rattle.quic_header_decode.specs.declared.protected.ProtectedHeader.{ProtectedHeader}
use Rattle.quic_header_decode.specs.declared.protected.ProtectedHeader.TheVariants as protected
use Rattle.quic_header_decode.specs.Reading.{DecodeOptions}
use Rattle.quic_header_fields.specs.Spans.{IsHeaderAt}

-- n bytes at an offset, with this index and this number
abbrev pub bytes_span : ℕ → ℕ → ℕ → ℕ → Span
bytes_span index start n number = record { field = index; start = start; end = start + n; number = number }

-- The spans of what follows a header, from an offset on. In a version negotiation these are the versions that the
-- server supports, four bytes each: one span, whose number is how many they are; none if the bytes aren't whole
-- versions. In a Retry they are a token and a tag of 16 bytes; none if there are fewer. No other packet has such
-- fields.
abbrev pub AreAfter : ProtectedHeader → ℕ → ℕ → List ℕ → List Span → Type 0
AreAfter (protected.VersionNegotiate random dst src) index start rest spans =
    ((n : ℕ) × (length rest ≡ n * 4) × (spans ≡ bytes_span index start (length rest) n ∷ []))
    ⊎ (((n : ℕ) → length rest ≡ n * 4 → ⊥) × (spans ≡ []))
AreAfter (protected.Retry dst src version) index start rest spans =
    ((token tag : List ℕ) × (rest ≡ token ++ tag) × (length tag ≡ 16)
    × (spans ≡ bytes_span index start (length token) (length token)
    ∷ bytes_span (index + 1) (start + length token) 16 16 ∷ []))
    ⊎ ((length rest < 16) × (spans ≡ []))
AreAfter h index start rest spans = spans ≡ []

-- the same by the kind of the header and by how many bytes follow it: what the code computes
abbrev pub after_at : HeaderKind → ℕ → ℕ → ℕ → List Span
after_at kind.VersionNegotiate index start n =
    if nat_eq (n % 4) 0 then bytes_span index start n (n / 4) ∷ [] else []
after_at kind.Retry index start n =
    if nat_lt n 16 then []
    else bytes_span index start (n - 16) (n - 16) ∷ bytes_span (index + 1) (start + (n - 16)) 16 16 ∷ []
after_at _ index start n = []

-- The packet at the front has a header with these spans, and then fields with others. They are in the room, as far as
-- it reaches; this is how many they are, and where the last one ends.
pub record HasFields (options : DecodeOptions) (bytes : List ℕ) (old new : List Span) (count end : ℕ) : Type 0 where
  pub header : ProtectedHeader
  pub spans : List Span
  pub others : List Span
  pub start : ℕ
  pub rest : List ℕ
  pub here : IsHeaderAt options (length bytes) bytes header spans rest
  pub ends : start + length rest ≡ length bytes
  pub after : AreAfter header (length spans) start rest others
  pub room : new ≡ stored 0 (spans ++ others) old
  pub all : count ≡ length (spans ++ others)
  pub stop : AreInRow 0 (spans ++ others) end
