-- Frames with their offsets in a payload.
use Rattle.std.specs.Prelude.{◌≡◌, ℕ, ◌+◌, List, [], ◌∷◌, ◌++◌, Option, None, Bool, true, length, map}
use Rattle.quic_frame_fields.specs.declared.frame.fault.Fault.{Fault}
use Rattle.quic_frame_fields.specs.Payload.{TypedFrame, IsFrame, AreClosed, IsNoFrame, last_type}
use Rattle.quic_frame_fields.specs.Reading.{Item, Whole}
use Rattle.quic_frame_fields.specs.Table.{is_open}

-- a frame, and where it begins and ends
pub record Placed : Type 0 where
  pub start : ℕ
  pub stop : ℕ
  pub found : TypedFrame

abbrev pub found_in : Placed → TypedFrame
found_in p = p.found

-- as the iterator returns it
abbrev pub whole : Placed → Item
whole p = Whole p.start p.stop p.found

-- The bytes that begin at start are these frames, one after another, and only the last may be open. The first argument
-- says whether a type must be in its shortest encoding.
abbrev pub ArePlaced : Bool → ℕ → List Placed → List ℕ → Type 0
ArePlaced strict start [] bytes = bytes ≡ []
ArePlaced strict start (p ∷ ps) bytes =
    (front back : List ℕ) × (bytes ≡ front ++ back) × IsFrame strict p.found front
    × (is_open p.found.type ≡ true → back ≡ [])
    × (p.start ≡ start) × (p.stop ≡ start + length front) × ArePlaced strict p.stop ps back

-- The bytes are these frames, and then something that isn't a frame.
pub record IsPlacedBroken (strict : Bool) (ps : List Placed) (bytes : List ℕ) (type : Option ℕ)
    (reason : Fault) : Type 0 where
  pub front : List ℕ
  pub back : List ℕ
  pub parts : bytes ≡ front ++ back
  pub frames : ArePlaced strict 0 ps front
  pub closed : AreClosed (map found_in ps)
  pub no_frame : IsNoFrame strict (last_type None (map found_in ps)) back type reason
