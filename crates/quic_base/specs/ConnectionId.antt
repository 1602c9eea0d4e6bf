-- Connection ids: RFC 9000, sections 5.1 and 17.2. A connection id is a list of at most 20 bytes. Proofs are here
-- because an implementation proves its trait's laws only from definitions.
use Rattle.std.specs.Prelude.{◌≡◌, ℕ, ◌-◌, ◌/◌, ◌%◌, ◌≤◌, false, List, [], ◌∷◌, ◌++◌, take, drop, length, replicate}
use Rattle.std.specs.List.{flat_map}
use Rattle.std.specs.Fmt.{digit_glyph}
use Rattle.std.proofs.Common.{arith, sym, ◌∙◌, ap, length-take, take-append-drop}
use Rattle.quic_base.specs.Number.{AreBytes}

-- as a packet with a long header has it: the byte of its length, and the id
abbrev pub long_id : List ℕ → List ℕ
long_id id = length id ∷ id

-- b is the byte of the id's length, and then the id
pub record IsLongId (id b : List ℕ) : Type 0 where
  pub bytes : AreBytes id
  pub short : length id ≤ 20
  pub value : b ≡ long_id id

-- the text of an id: two lower-case hexadecimal digits per byte
abbrev pub hex_pair : ℕ → List ℕ
hex_pair byte = digit_glyph false (byte / 16) ∷ digit_glyph false (byte % 16) ∷ []

abbrev pub id_text : List ℕ → List ℕ
id_text id = flat_map hex_pair id

-- how an array holds an id: its bytes, and then zeros
pub record IsPadded (len : ℕ) (bytes : List ℕ) : Type 0 where
  pub short : len ≤ 20
  pub width : length bytes ≡ 20
  pub zeros : drop len bytes ≡ replicate (20 - len) 0

-- the parts of such an array, by which a copy of an id is that id
pub length_taken : (len : ℕ) (bytes : List ℕ) → IsPadded len bytes → length (take len bytes) ≡ len
length_taken len bytes h = omega (arith, length-take len bytes, h.short, h.width)

pub padded_whole : (len : ℕ) (bytes : List ℕ) → IsPadded len bytes → take len bytes ++ replicate (20 - len) 0 ≡ bytes
padded_whole len bytes h = ap (λ r. take len bytes ++ r) (sym h.zeros) ∙ take-append-drop len bytes
