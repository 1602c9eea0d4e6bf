-- Which words a kind of frame has.
use Rattle.std.specs.Prelude.{◌≡◌, ℕ, ◌+◌, ◌<◌, ◌≤◌, ◌^◌, ◌==◌, ◌&&◌, ◌||◌, ◌⊎◌, List, [], ◌∷◌, length, take, drop, slice_index_or, Bool, false, Option, None, Some, if◌then◌else◌}
use Rattle.std.specs.List.{list_any}
use Rattle.quic_frame_fields.specs.Numbers.{AreNumeric}
use Rattle.quic_frame_fields.specs.Table.{Row}
use Rattle.quic_frames.specs.declared.frame.Frame.{Frame}
use Rattle.quic_frames.specs.InRange.{IsNoAck, InRange}
use Rattle.quic_c_words.specs.declared.words.CFrame.{CFrame}
use Rattle.quic_c_words.specs.Slots.{Slot, slots_of, row_of_kind, is_nth, is_data}
use Rattle.quic_c_words.specs.Shown.{frame_kind_of, flags_of, frame_numbers_of, data_of, tail_of}
use Rattle.quic_c_write.specs.Written.{token_of}

-- the words of a kind, except ACK
abbrev pub slots_in : Option Row → Option (List Slot)
slots_in None = None
slots_in (Some r) = Some (slots_of r.name)

abbrev pub shape_of : ℕ → Option (List Slot)
shape_of kind = slots_in (row_of_kind kind)

abbrev pub shows_data : Option (List Slot) → Bool
shows_data None = false
shows_data (Some slots) = list_any is_data slots

-- The words describe no data, or a kind that has none.
abbrev pub LacksData : CFrame → Type 0
LacksData words = (words.data_len ≡ 0) ⊎ (shows_data (shape_of words.kind) ≡ false)

abbrev pub kept_number : List Slot → List ℕ → ℕ → ℕ
kept_number slots numbers i = if list_any (is_nth i) slots then slice_index_or numbers i 0 else 0

-- the five numbers, with 0 for those that a kind lacks
abbrev pub kept_by : List Slot → List ℕ → List ℕ
kept_by slots numbers =
    kept_number slots numbers 0 ∷ kept_number slots numbers 1 ∷ kept_number slots numbers 2 ∷ kept_number slots numbers 3
    ∷ kept_number slots numbers 4 ∷ []

abbrev pub kept_numbers : Option (List Slot) → List ℕ → List ℕ
kept_numbers None numbers = []
kept_numbers (Some slots) numbers = kept_by slots numbers

abbrev pub kept_data : Option (List Slot) → List ℕ → List ℕ
kept_data None bytes = []
kept_data (Some slots) bytes = if list_any is_data slots then bytes else []

abbrev pub is_path : ℕ → Bool
is_path kind = kind == 0x1a || kind == 0x1b

abbrev pub is_open_kind : ℕ → Bool
is_open_kind kind = kind == 0x08 || kind == 0x30

abbrev pub IsOrdered : List ℕ → Type 0
IsOrdered (sequence ∷ retire ∷ ns) = retire ≤ sequence
IsOrdered ns = ⊥

-- A frame of the kind can have these numbers and this length: what is written as a varint is below 2^62, and an id has
-- 1 to 20 bytes and a sequence number that isn't below its `retire_prior_to`.
pub record IsSound (kind : ℕ) (numbers : List ℕ) (len : ℕ) : Type 0 where
  pub numeric : is_path kind ≡ false → AreNumeric numbers
  pub counted : is_open_kind kind ≡ false → len < 2 ^ 62
  pub ordered : kind ≡ 0x18 → IsOrdered numbers
  pub some : kind ≡ 0x18 → 0 < len
  pub few : kind ≡ 0x18 → len ≤ 20

-- how many bytes of a token follow the data
abbrev pub token_room : ℕ → ℕ
token_room kind = if kind == 0x18 then 16 else 0

abbrev pub kept_token : ℕ → List ℕ → List ℕ
kept_token kind token = if kind == 0x18 then token else []

-- The frame is of the kind and in range, and has those of the words that the kind has.
pub record FillsShape (type : ℕ) (is_fin : Bool) (given bytes behind : List ℕ) (frame : Frame) : Type 0 where
  pub kind : frame_kind_of frame ≡ type
  pub flags : flags_of frame ≡ (if type == 0x08 && is_fin then 1 else 0)
  pub numbers : frame_numbers_of frame ≡ kept_numbers (shape_of type) given
  pub content : data_of frame ≡ kept_data (shape_of type) bytes
  pub tail : tail_of frame ≡ token_room type
  pub token : token_of frame ≡ kept_token type behind
  pub no_ack : IsNoAck frame
  pub in_range : InRange frame

-- The bytes and the token are at the place in the words; if there are neither, that may be any place.
pub record AreDataAndToken (words : CFrame) (payload bytes behind : List ℕ) : Type 0 where
  pub within : 0 < words.data_len + token_room words.kind
      → words.data_offset + words.data_len + token_room words.kind ≤ length payload
  pub content : bytes ≡ take words.data_len (drop words.data_offset payload)
  pub width : length bytes ≡ words.data_len
  pub room : length behind ≡ token_room words.kind
  pub token : kept_token words.kind behind
      ≡ take (token_room words.kind) (drop words.data_len (drop words.data_offset payload))

-- The words describe data or a token, and the payload ends before these do.
pub record LacksDataOrToken (words : CFrame) (payload : List ℕ) : Type 0 where
  pub some : 0 < words.data_len + token_room words.kind
  pub past : length payload < words.data_offset + words.data_len + token_room words.kind

-- The frame has the flags, the numbers and the length in the words.
pub record IsShown (words : CFrame) (frame : Frame) : Type 0 where
  pub flags : flags_of frame ≡ words.flags
  pub count : length (data_of frame) ≡ words.data_len
  pub numbers : frame_numbers_of frame ≡ words.numbers
