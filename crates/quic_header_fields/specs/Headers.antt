-- The spans of each kind of header (RFC 9000, sections 17.2 and 17.3; RFC 8999, section 5.1).
use Rattle.std.specs.Prelude.{ℕ, ◌+◌, ◌-◌, List, [], ◌∷◌, length}
use Rattle.quic_fields.specs.declared.field.Span.{Span}
use Rattle.quic_header_decode.specs.declared.protected.ProtectedHeader.{ProtectedHeader}
use Rattle.quic_header_decode.specs.declared.protected.ProtectedHeader.TheVariants as protected

-- a field from one offset to another
abbrev pub from_to : ℕ → ℕ → ℕ → ℕ → Span
from_to index start end number = record { field = index; start = start; end = end; number = number }

-- how far the ids of a long header reach
abbrev pub ids_end : List ℕ → List ℕ → ℕ
ids_end dst src = 7 + length dst + length src

-- a long header's first byte, its version, both ids with their length bytes, and what is behind them
abbrev pub long_spans : ℕ → ℕ → List ℕ → List ℕ → List Span → List Span
long_spans first version dst src behind =
    from_to 0 0 1 first ∷ from_to 1 1 5 version ∷ from_to 2 5 (6 + length dst) (length dst)
    ∷ from_to 3 (6 + length dst) (ids_end dst src) (length src)
    ∷ behind

-- the same of a version that is known, for which index 4 stands
abbrev pub typed_spans : ℕ → ℕ → List ℕ → List ℕ → List Span → List Span
typed_spans first version dst src behind =
    long_spans first version dst src (from_to 4 (ids_end dst src) (ids_end dst src) 0 ∷ behind)

-- the spans of a header with this first byte, which ends at this offset
abbrev pub spans_in : ℕ → ℕ → ProtectedHeader → List Span
spans_in first end (protected.Short spin dst) = from_to 0 0 1 first ∷ from_to 1 1 end (length dst) ∷ []
spans_in first end (protected.VersionNegotiate random dst src) = long_spans first 0 dst src []
spans_in first end (protected.Retry dst src version) = typed_spans first version dst src []
spans_in first end (protected.Long ty dst src len version) =
    typed_spans first version dst src (from_to 5 (ids_end dst src) end len ∷ [])
spans_in first end (protected.Initial h) = typed_spans first h.version h.dst_cid h.src_cid
    (from_to 5 (ids_end h.dst_cid h.src_cid) h.token_pos.start (h.token_pos.end - h.token_pos.start)
    ∷ from_to 6 h.token_pos.start h.token_pos.end (h.token_pos.end - h.token_pos.start)
    ∷ from_to 7 h.token_pos.end end h.len
    ∷ [])
