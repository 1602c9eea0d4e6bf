-- The body of a frame: its fields, behind its type (RFC 9000, section 12.4).
use Rattle.std.specs.Prelude.{◌≡◌, ℕ, List, ◌++◌, Bool}
use Rattle.quic_base.specs.Varint.{shortest_varint}
use Rattle.quic_frame_fields.specs.Reading.{Invalid}
use Rattle.quic_frames.specs.declared.frame.Frame.{Frame}
use Rattle.quic_frames.specs.IterState.{IterState}
use Rattle.quic_frames.specs.Walk.{Finds, LacksFrame, first_of, rest_of}

-- a type in its shortest encoding, and these bytes behind it
abbrev pub with_type : ℕ → List ℕ → List ℕ
with_type type body = shortest_varint type ++ body

-- The bytes begin with the body of this frame: behind the type, they are a payload that begins with it. The rest is
-- what that payload has behind the frame.
pub record ReadsBody (strict : Bool) (type : ℕ) (body : List ℕ) (frame : Frame) (rest : List ℕ) : Type 0 where
  pub next : IterState
  pub finds : Finds (first_of strict (with_type type body)) frame next
  pub same : finds.found.type ≡ type
  pub left : rest ≡ rest_of next
  pub fields : List ℕ
  pub parts : body ≡ fields ++ rest

-- The bytes don't begin with the body of a frame of this type: behind the type, they are a payload that doesn't begin
-- with a frame, and this is reported.
abbrev pub LacksBody : Bool → ℕ → List ℕ → Invalid → Type 0
LacksBody strict type body reported = LacksFrame (first_of strict (with_type type body)) reported
