-- What the call that says where a packet's fields are stores and returns, by what is reported for the packet (Reading).
use Rattle.std.specs.Prelude.{◌≡◌, ℕ, ℤ, pos, List, length, Result, Ok, Err}
use Rattle.quic_fields.specs.declared.field.Reach.{Reach}
use Rattle.quic_fields.specs.declared.field.Span.{Span}
use Rattle.quic_header_decode.specs.declared.protected.ProtectedHeader.{ProtectedHeader}
use Rattle.quic_header_decode.specs.Places.{any_fixed}
use Rattle.quic_header_decode.specs.Reading.{DecodeOptions}
use Rattle.quic_header_decode.specs.Refusal.{Refusal}
use Rattle.quic_header_decode.specs.Rfc.{Unread}
use Rattle.quic_header_fields.specs.After.{HasFields}
use Rattle.quic_header_fields.specs.Fault.{but_last, partial_spans, AreStored}
use Rattle.quic_header_fields.specs.Inside.{stop_in_header}
use Rattle.quic_header_fields.specs.Spans.{IsHeaderAt}
use Rattle.quic_header_fields.specs.Walk.{LacksHeader}
use Rattle.quic_c_headers.specs.Packets.{StandsFor}
use Rattle.quic_c_headers.specs.Reading.{Reported}
use Rattle.quic_c_headers.specs.declared.fields.Part.{Part}
use Rattle.quic_c_headers.specs.declared.fields.Part.TheVariants as parts
use Rattle.quic_c_headers.specs.declared.words.CHeader.{CHeader}
use Rattle.quic_results.specs.declared.results.Failure.{Failure}
use Rattle.quic_results.specs.declared.results.Failure.TheVariants as failure
use Rattle.quic_results.specs.Results.{failed}

-- no field was read
abbrev pub no_fields : Reach
no_fields = record { count = 0; end = 0; inside = 0; numbers = 0 }

-- 1 is returned for a packet, and the number of a failure for what is none
abbrev pub found_or : Result ℕ Failure → ℤ
found_or (Ok end) = pos 1
found_or (Err why) = failed why

-- The packet begins with a header that has spans. Those before the field at fault, which follow from them and from the
-- bytes after the header, are stored, as far as there is room; of that field nothing was read.
pub record HasPart (options : DecodeOptions) (packet : List ℕ) (part : List Span → List ℕ → List Span)
    (old new : List Span) (out : Reach) : Type 0 where
  pub header : ProtectedHeader
  pub spans : List Span
  pub rest : List ℕ
  pub here : IsHeaderAt options (length packet) packet header spans rest
  pub before : AreStored (part spans rest) old new out.count out.end
  pub inside : out.inside ≡ 0
  pub numbers : out.numbers ≡ 0

-- Which spans are stored for what is reported. For a packet they are all. If it is cut off they are all of its header
-- except the last, the Length. If a Retry lacks its token or its tag they are those of its header, and before a missing
-- tag that of a token without bytes. If no header is there they are those before the field at fault.
abbrev pub AreFields : ℕ → List ℕ → List ℕ → List Span → List Span → Reach → Result ℕ Failure → Type 0
AreFields id_len versions packet old new out (Ok end) =
    HasFields (any_fixed id_len versions) packet old new out.count out.end × (out.inside ≡ 0) × (out.numbers ≡ 0)
AreFields id_len versions packet old new out (Err failure.PacketCut) =
    HasPart (any_fixed id_len versions) packet (λ spans rest. but_last spans) old new out
AreFields id_len versions packet old new out (Err failure.PacketRetry) =
    HasPart (any_fixed id_len versions) packet (λ spans rest. partial_spans spans out.end (length rest)) old new out
AreFields id_len versions packet old new out (Err why) =
    (e : Refusal) × LacksHeader (any_fixed id_len versions) packet old new out.count out.end e × StandsFor why (Unread e)
    × ((out.inside, out.numbers) ≡ stop_in_header (any_fixed id_len versions) packet)

-- This is reported for the packet, returned and stored.
pub record IsStored (flags id_len : ℕ) (versions packet : List ℕ) (old new : List Span) (out : Reach) (result : ℤ)
    : Type 0 where
  pub outcome : Result ℕ Failure
  pub before : CHeader
  pub after : CHeader
  pub reported : Reported flags id_len versions packet before outcome after
  pub returned : result ≡ found_or outcome
  pub fields : AreFields id_len versions packet old new out outcome

-- ---- No public clause cites what follows: which of these cases it is.

abbrev pub part_of : Result ℕ Failure → Part
part_of (Err failure.PacketCut) = parts.Cut
part_of (Err failure.PacketRetry) = parts.Retry
part_of _ = parts.Whole
