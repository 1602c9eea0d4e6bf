-- What the program prints, as a function of its mode and its input.
use Rattle.std.specs.Prelude.{Bool, true, false, ℕ, List, [], ◌∷◌, Result, Ok, Err, codes}
use Rattle.std.specs.List.{flat_map, list_all}
use Rattle.hex.specs.Hex.{decode_of}
use Rattle.hex.specs.declared.error.FromHexError.{FromHexError}
use Rattle.quic_text.specs.declared.mode.Mode.{Mode}
use Rattle.quic_text.specs.declared.mode.Mode.TheVariants.{Frames, Strict, Canon, Datagram, Params}
use Rattle.quic_text.specs.Lines.{lines_of, without_return}
use Rattle.quic_text.specs.Printed.{Printed, Error, line_bytes, is_plain}
use Rattle.quic_text.specs.FrameText.{frame_lines}
use Rattle.quic_text.specs.CanonText.{canon_lines}
use Rattle.quic_text.specs.DatagramText.{datagram_lines}
use Rattle.quic_text.specs.IdLens.{count}
use Rattle.quic_text.specs.ParameterText.{parameter_lines}

-- what is printed for the bytes that a line encodes
abbrev pub payload_lines : Mode → List ℕ → List Printed
payload_lines Frames payload = frame_lines false payload
payload_lines Strict payload = frame_lines true payload
payload_lines Canon payload = canon_lines payload
payload_lines (Datagram len) payload = datagram_lines (count len) payload
payload_lines (Params side) payload = parameter_lines side payload

-- the same, if the line encodes any bytes
abbrev pub decoded_lines : Mode → Result (List ℕ) FromHexError → List Printed
decoded_lines mode (Ok payload) = payload_lines mode payload
decoded_lines mode (Err e) = Error (codes "not hexadecimal") ∷ []

-- what is printed for a line of the input
abbrev pub line_lines : Mode → List ℕ → List Printed
line_lines mode line = decoded_lines mode (decode_of (without_return line))

-- all that is printed
abbrev pub printed : Mode → List ℕ → List Printed
printed mode input = flat_map (line_lines mode) (lines_of input)

-- its bytes
abbrev pub text_of : Mode → List ℕ → List ℕ
text_of mode input = flat_map line_bytes (printed mode input)

-- whether it has no `error` line
abbrev pub is_clean : Mode → List ℕ → Bool
is_clean mode input = list_all is_plain (printed mode input)
