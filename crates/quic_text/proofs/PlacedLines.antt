-- The lines of frames at their offsets, by the items that these are.
use Rattle.std.proofs.Common.{◌≡◌, ◌≢◌, ℕ, Bool, List, [], ◌∷◌, ◌++◌, None, Option, map, refl, ap, ◌∙◌}
use Rattle.quic_base.specs.Number.{AreBytes}
use Rattle.quic_frame_fields.specs.declared.frame.fault.Fault.{Fault}
use Rattle.quic_frame_fields.specs.Reading.{Item, Broken, invalid, items_of}
use Rattle.quic_frames.specs.Placed.{Placed, ArePlaced, IsPlacedBroken, whole}
use Rattle.quic_text.specs.Printed.{Printed}
use Rattle.quic_text.specs.FrameText.{item_line, frame_lines}

-- the lines of items, one after the other
lines_of_whole : (ps : List Placed) (others : List Item)
    → map item_line (map whole ps ++ others) ≡ map (λ p. item_line (whole p)) ps ++ map item_line others
lines_of_whole [] others = refl
lines_of_whole (p ∷ ps) others = ap (λ (l : List Printed). item_line (whole p) ∷ l) (lines_of_whole ps others)

lines_of_all : (ps : List Placed) → map item_line (map whole ps) ≡ map (λ p. item_line (whole p)) ps
lines_of_all [] = refl
lines_of_all (p ∷ ps) = ap (λ (l : List Printed). item_line (whole p) ∷ l) (lines_of_all ps)

pub lines_some : (strict : Bool) (bytes : List ℕ) → bytes ≢ []
    → frame_lines strict bytes ≡ map item_line (items_of strict 0 None bytes)
lines_some strict [] some = absurd (some refl)
lines_some strict (b ∷ bytes) some = refl

-- by the law of items in place
pub placed_printed : (strict : Bool) (ps : List Placed) (bytes : List ℕ)
    → (ArePlaced strict 0 ps bytes → items_of strict 0 None bytes ≡ map whole ps)
    → bytes ≢ [] → ArePlaced strict 0 ps bytes
    → frame_lines strict bytes ≡ map (λ p. item_line (whole p)) ps
placed_printed strict ps bytes items some placed =
    lines_some strict bytes some ∙ ap (map item_line) (items placed) ∙ lines_of_all ps

pub broken_printed : (strict : Bool) (ps : List Placed) (bytes : List ℕ) (type : Option ℕ) (reason : Fault)
    → (AreBytes bytes → IsPlacedBroken strict ps bytes type reason
    → items_of strict 0 None bytes ≡ map whole ps ++ Broken (invalid type reason) ∷ [])
    → bytes ≢ [] → AreBytes bytes
    → IsPlacedBroken strict ps bytes type reason
    → frame_lines strict bytes ≡ map (λ p. item_line (whole p)) ps ++ item_line (Broken (invalid type reason)) ∷ []
broken_printed strict ps bytes type reason items some fits broken =
    lines_some strict bytes some ∙ ap (map item_line) (items fits broken)
    ∙ lines_of_whole ps (Broken (invalid type reason) ∷ [])
