-- The line of a frame, and the lines of those that follow it.
use Rattle.std.proofs.Common.{◌≡◌, ℕ, ◌++◌, ◌∷◌, List, map, sym, ap, ◌∙◌, append_assoc}
use Rattle.std.specs.List.{flat_map, list_all}
use Rattle.quic_frames.specs.declared.frame.Frame.{Frame}
use Rattle.quic_frames.specs.Meaning.{meaning_of, type_of}
use Rattle.quic_frames.specs.Payload.{Meaning}
use Rattle.quic_frames.specs.IterState.{IterState}
use Rattle.quic_frames.specs.Walk.{left, Finds}
use Rattle.quic_frames.proofs.Turns.{finds_left}
use Rattle.quic_text.specs.Printed.{Printed, line_bytes, is_plain}
use Rattle.quic_text.specs.FrameText.{frame_line, item_line}

pub first_line : (old new : IterState) (frame : Frame) → Finds old frame new
    → map item_line (left old) ≡ frame_line old.offset new.offset (type_of (meaning_of frame)) ∷ map item_line (left new)
first_line old new frame f =
    ap (map item_line) (finds_left old new frame f)
    ∙ ap (λ (m : Meaning). frame_line old.offset new.offset (type_of m) ∷ map item_line (left new)) f.says

-- what was printed so far, the line and what is left
pub text_more : (old new : IterState) (frame : Frame) (text text' all : List ℕ) → Finds old frame new
    → text' ≡ text ++ line_bytes (frame_line old.offset new.offset (type_of (meaning_of frame)))
    → text ++ flat_map line_bytes (map item_line (left old)) ≡ all
    → text' ++ flat_map line_bytes (map item_line (left new)) ≡ all
text_more old new frame text text' all f e so_far =
    let line = line_bytes (frame_line old.offset new.offset (type_of (meaning_of frame))) in
    let others = flat_map line_bytes (map item_line (left new)) in
    ap (λ (l : List ℕ). l ++ others) e ∙ append_assoc text line others
    ∙ ap (λ (ls : List Printed). text ++ flat_map line_bytes ls) (sym (first_line old new frame f)) ∙ so_far

pub clean_more : (old new : IterState) (frame : Frame) → Finds old frame new
    → list_all is_plain (map item_line (left old)) ≡ list_all is_plain (map item_line (left new))
clean_more old new frame f = ap (list_all is_plain) (first_line old new frame f)
