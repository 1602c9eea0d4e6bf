-- Where the fields of a transport parameter's entry are (RFC 9000, section 18).
use Rattle.std.specs.Prelude.{◌≡◌, ℕ, List, [], ◌∷◌, ◌++◌, length}
use Rattle.quic_frame_fields.specs.declared.frame.fault.Fault.{Fault}
use Rattle.quic_frame_fields.specs.Field.{Field, Varint, Counted, Number, Bytes}
use Rattle.quic_fields.specs.declared.field.Span.{Span}
use Rattle.quic_fields.specs.Inside.{stop_at}
use Rattle.quic_fields.specs.Spans.{AreFieldsAt, StopsWithinAt, AreInRow}
use Rattle.quic_fields.specs.Walk.{Walked, walk_at, stored}

-- Parameter ID; Parameter Value after its length
abbrev pub entry_row : List Field
entry_row = Varint ∷ Counted ∷ []

-- The bytes are an entry with this number and this value, and these are the spans of its fields.
abbrev pub IsEntryAt : ℕ → List ℕ → List Span → List ℕ → Type 0
IsEntryAt number value spans bytes = AreFieldsAt 0 0 entry_row [] spans (Number number ∷ Bytes value ∷ []) bytes

abbrev pub entry_walk : List ℕ → Walked
entry_walk bytes = walk_at 0 0 entry_row [] bytes

abbrev pub stop_in_entry : List ℕ → ℕ × ℕ
stop_in_entry bytes = stop_at entry_row [] bytes

-- The entry at the front of the list has these spans: they are in the room, as far as it reaches.
pub record HasEntry (list : List ℕ) (old new : List Span) (count end : ℕ) : Type 0 where
  pub number : ℕ
  pub value : List ℕ
  pub spans : List Span
  pub front : List ℕ
  pub back : List ℕ
  pub parts : list ≡ front ++ back
  pub entry : IsEntryAt number value spans front
  pub room : new ≡ stored 0 spans old
  pub all : count ≡ length spans
  pub stop : end ≡ length front

-- No entry begins the list: the field with the index count can't be read, and begins at this offset.
pub record LacksEntry (list : List ℕ) (old new : List Span) (count end : ℕ) (reason : Fault) : Type 0 where
  pub spans : List Span
  pub no_entry : StopsWithinAt 0 0 entry_row [] spans list count reason
  pub room : new ≡ stored 0 spans old
  pub all : count ≡ length spans
  pub stop : AreInRow 0 spans end
