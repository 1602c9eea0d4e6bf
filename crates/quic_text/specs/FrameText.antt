-- What the program prints of a payload's frames.
use Rattle.std.specs.Prelude.{ℕ, Bool, List, [], ◌∷◌, ◌++◌, None, codes, map}
use Rattle.std.specs.Fmt.{decimal}
use Rattle.quic_frames.specs.Names.{name_of, in_type}
use Rattle.quic_frames.specs.Meaning.{type_of}
use Rattle.quic_frames.specs.Reading.{Item, Whole, Broken, items_of}
use Rattle.quic_text.specs.Printed.{Printed, Plain, Error}

-- `START..END TYPE`
abbrev pub frame_line : ℕ → ℕ → ℕ → Printed
frame_line start stop ty = Plain (decimal start ++ codes ".." ++ decimal stop ++ codes " " ++ name_of ty)

-- the line of a frame, and an `error` line for an invalid one
abbrev pub item_line : Item → Printed
item_line (Whole start stop found) = frame_line start stop (type_of found.frame)
item_line (Broken i) = Error (i.reason ++ in_type i.type)

-- what is printed for no payload at all
abbrev pub empty_line : Printed
empty_line = Error (codes "packet payload is empty")

-- what `frames` prints for a payload, and `strict`, which wants each type in its shortest encoding
abbrev pub frame_lines : Bool → List ℕ → List Printed
frame_lines strict [] = empty_line ∷ []
frame_lines strict (byte ∷ bytes) = map item_line (items_of strict 0 None (byte ∷ bytes))
