-- What the program prints of a payload in its shortest form.
use Rattle.std.specs.Prelude.{ℕ, false, List, [], ◌∷◌, None, Result, Ok, Err}
use Rattle.hex.specs.Hex.{encode_lower}
use Rattle.quic_frame_fields.specs.Payload.{Meaning}
use Rattle.quic_frame_fields.specs.Reading.{Invalid, Item, Whole, Broken, items_of}
use Rattle.quic_frames.specs.Least.{shortest_frames}
use Rattle.quic_text.specs.Printed.{Printed, Plain}
use Rattle.quic_text.specs.FrameText.{item_line, empty_line}

abbrev pub after_frame : Meaning → Result (List Meaning) Invalid → Result (List Meaning) Invalid
after_frame frame (Ok frames) = Ok (frame ∷ frames)
after_frame frame (Err i) = Err i

-- the frames of items, or the error of the invalid one
abbrev pub frames_in : List Item → Result (List Meaning) Invalid
frames_in [] = Ok []
frames_in (Whole start stop found ∷ items) = after_frame found.frame (frames_in items)
frames_in (Broken i ∷ items) = Err i

-- the digits of the shortest payload of frames, or the `error` line of `frames` for an invalid payload
abbrev pub canon_line : Result (List Meaning) Invalid → Printed
canon_line (Ok frames) = Plain (encode_lower (shortest_frames frames))
canon_line (Err i) = item_line (Broken i)

-- what is printed for a payload by `canon`
abbrev pub canon_lines : List ℕ → List Printed
canon_lines [] = empty_line ∷ []
canon_lines (byte ∷ bytes) = canon_line (frames_in (items_of false 0 None (byte ∷ bytes))) ∷ []
