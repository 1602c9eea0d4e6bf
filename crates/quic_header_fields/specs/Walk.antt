-- Reading fields from left to right, as functions: what the code computes. The grammar is in `Spans`.
use Rattle.std.specs.Prelude.{◌≡◌, ℕ, ◌+◌, ◌-◌, Bool, true, false, List, [], ◌∷◌, ◌++◌, length, take, Option, Some, None, Result, Ok, Err}
use Rattle.std.specs.Option.{ok_or}
use Rattle.quic_base.specs.Number.{num}
use Rattle.quic_base.specs.Reading.{◌>>=◌}
use Rattle.quic_fields.specs.declared.field.Span.{Span}
use Rattle.quic_fields.specs.Spans.{AreInRow}
use Rattle.quic_fields.specs.Walk.{stored}
use Rattle.quic_header_decode.specs.declared.protected.ProtectedHeader.{ProtectedHeader}
use Rattle.quic_header_decode.specs.Grammar.{HeaderField, DestinationId, SourceId, HeaderValue, Number, Bytes, header_row_of}
use Rattle.quic_header_decode.specs.Reading.{DecodeOptions, at_end, bad_id, wide_id_at}
use Rattle.quic_header_decode.specs.Refusal.{Refusal}
use Rattle.quic_header_decode.specs.Fields.{Taken, field_at}
use Rattle.quic_header_fields.specs.declared.field.Seen.{Seen}
use Rattle.quic_header_fields.specs.declared.field.Seen.TheVariants as seen
use Rattle.quic_header_fields.specs.Spans.{span, first_span, number_of, is_known, IsHeaderAt, IsNoHeaderAt}

-- what a call found, seen through view, is what there is to read
abbrev pub FindsIn : {X Y : Type 0} → (X → Y) → Option X → Option Y → Type 0
FindsIn view (Some x) read = read ≡ Some (view x)
FindsIn view None read = read ≡ None

-- ---- a field

abbrev pub any_id_next : List ℕ → Result Taken Refusal
any_id_next bytes = ok_or (wide_id_at bytes) bad_id >>= λ x. Ok (Bytes x.0 ∷ [], x.1)

-- a field of a known version, or of another one
abbrev pub field_in : Bool → DecodeOptions → HeaderField → List HeaderValue → List ℕ → Result Taken Refusal
field_in true options field before bytes = field_at options field before bytes
field_in false options DestinationId before bytes = any_id_next bytes
field_in false options SourceId before bytes = any_id_next bytes
field_in false options field before bytes = field_at options field before bytes

-- what later fields need of the values before them: how many these are, and the fourth, which is a token's length
abbrev pub seen_of : List HeaderValue → Seen
seen_of [] = seen.Nothing
seen_of (a ∷ []) = seen.One
seen_of (a ∷ b ∷ []) = seen.Two
seen_of (a ∷ b ∷ c ∷ []) = seen.Three
seen_of (a ∷ b ∷ c ∷ Number n ∷ []) = seen.Four n
seen_of (a ∷ b ∷ c ∷ d ∷ values) = seen.More

-- the same after one more value, a number or not
abbrev pub with_value : Seen → Option ℕ → Seen
with_value seen.Nothing value = seen.One
with_value seen.One value = seen.Two
with_value seen.Two value = seen.Three
with_value seen.Three (Some n) = seen.Four n
with_value seen.Three None = seen.More
with_value (seen.Four n) value = seen.More
with_value seen.More value = seen.More

-- what reading a field returns: its number, what later fields need, and the bytes after it
abbrev pub seen_after : HeaderField → List HeaderValue → ℕ → Result Taken Refusal → Option (ℕ × Seen × List ℕ)
seen_after field before total (Ok x) =
    Some (number_of field x.0 (total - length x.1), seen_of (before ++ x.0), x.1)
seen_after field before total (Err e) = None

-- ---- a row

-- the spans of fields, and what follows them or why one can't be read
abbrev pub Walked : Type 0
Walked = List Span × Result Taken Refusal

abbrev pub after_field : ℕ → ℕ → HeaderField → ℕ → (ℕ → List HeaderValue → List ℕ → Walked) → Result Taken Refusal
    → Walked
after_field index start field total others (Err e) = ([], Err e)
after_field index start field total others (Ok x) =
    let n = total - length x.1 in
    let w = others (start + n) x.0 x.1 in (span index start field x.0 n ∷ w.0, w.1)

-- the fields in a row, the first with this index and at this offset
abbrev pub walk_at : Bool → DecodeOptions → ℕ → ℕ → List HeaderField → List HeaderValue → List ℕ → Walked
walk_at known options index start [] before bytes = ([], Ok (before, bytes))
walk_at known options index start (field ∷ fields) before bytes = after_field index start field (length bytes)
    (λ end values left. walk_at known options (index + 1) end fields (before ++ values) left)
    (field_in known options field before bytes)

-- the header at the front, its first byte first
abbrev pub header_walk : DecodeOptions → List ℕ → Walked
header_walk options [] = ([], Err at_end)
header_walk options (first ∷ text) =
    let version = num (take 4 text) in
    let w = walk_at (is_known options version) options 1 1 (header_row_of first version) [] text in
    (first_span first ∷ w.0, w.1)

-- The header at the front has these spans. They are in the room, as far as it reaches, and this is how many they are
-- and where the header ends.
pub record HasHeader (options : DecodeOptions) (bytes : List ℕ) (old new : List Span) (count end : ℕ) : Type 0 where
  pub header : ProtectedHeader
  pub spans : List Span
  pub rest : List ℕ
  pub here : IsHeaderAt options (length bytes) bytes header spans rest
  pub room : new ≡ stored 0 spans old
  pub all : count ≡ length spans
  pub stop : end + length rest ≡ length bytes

-- No header begins the bytes, and this is the error. The spans of the fields before the one at fault are in the room,
-- as far as it reaches; this is how many they are, and so the index of the field at fault; and that field begins at
-- this offset.
pub record LacksHeader (options : DecodeOptions) (bytes : List ℕ) (old new : List Span) (count end : ℕ) (e : Refusal)
    : Type 0 where
  pub spans : List Span
  pub no_header : IsNoHeaderAt options bytes spans count e
  pub room : new ≡ stored 0 spans old
  pub all : count ≡ length spans
  pub stop : AreInRow 0 spans end
