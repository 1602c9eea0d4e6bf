-- Frames and iterators over a payload as C sees them.
use Rattle.std.specs.Prelude.{ℕ, ◌-◌, ◌^◌, List, [], ◌∷◌, length, nat_lt, Option, Some, None, not, ◌==◌, Bool, if◌then◌else◌}
use Rattle.quic_frames.specs.declared.frame.Frame.{Frame}
use Rattle.quic_frames.specs.declared.frame.Frame.TheVariants as frames
pub use Rattle.quic_frames.specs.Flags.{has_flag, rules_in}
use Rattle.quic_frame_fields.specs.declared.frame.ack.EcnCounts.{EcnCounts}
use Rattle.quic_frame_fields.specs.Acks.{ranges_acked}
use Rattle.quic_frames.specs.IterState.{IterState}
use Rattle.quic_frames.specs.Meaning.{meaning_of}
use Rattle.quic_c_words.specs.declared.words.CFrameIter.{CFrameIter}
use Rattle.quic_c_words.specs.declared.words.CFrame.{CFrame}
use Rattle.quic_c_words.specs.Slots.{slots_of, kind_of, numbers_in, data_in}

-- 1: a frame that is written is the last of its payload
abbrev pub is_last : ℕ → Bool
is_last flags = has_flag 0x001 flags

-- the word of a type
abbrev pub type_word : Option ℕ → ℕ
type_word None = 2 ^ 64 - 1
type_word (Some n) = n

-- the words at the front of a payload, with these flags
abbrev pub at_front : ℕ → CFrameIter
at_front flags = record { offset = 0; last_type = 2 ^ 64 - 1; ended = 0; flags = flags }

-- a type in a word: every word from 2^62 on means none
abbrev pub type_in : ℕ → Option ℕ
type_in n = if nat_lt n (2 ^ 62) then Some n else None

-- how far an iterator has come over a payload, by the words that the caller keeps
abbrev pub state_of : CFrameIter → List ℕ → IterState
state_of f payload = record {
  strict = has_flag 0x001 f.flags;
  payload = payload;
  offset = f.offset;
  last = type_in f.last_type;
  is_broken = not (f.ended == 0);
}

-- the kind of a frame: its type, 8 for every STREAM, 2 for every ACK and 0x30 for every DATAGRAM
abbrev pub frame_kind_of : Frame → ℕ
frame_kind_of frame = kind_of (meaning_of frame)

abbrev pub counts_numbers : Option EcnCounts → List ℕ
counts_numbers None = 0 ∷ 0 ∷ 0 ∷ []
counts_numbers (Some e) = e.ect0 ∷ e.ect1 ∷ e.ce ∷ []

-- its five numbers, with 0 for those that it lacks
abbrev pub frame_numbers_of : Frame → List ℕ
frame_numbers_of (frames.Ack a) = a.largest ∷ a.delay ∷ counts_numbers a.ecn
frame_numbers_of frame = let m = meaning_of frame in numbers_in (slots_of m.name) m.values

abbrev pub counts_flag : Option EcnCounts → ℕ
counts_flag None = 0
counts_flag (Some e) = 2

-- 1: a STREAM ends its stream (FIN); 2: an ACK has counts
abbrev pub flags_of : Frame → ℕ
flags_of (frames.Stream s) = if s.fin then 1 else 0
flags_of (frames.Ack a) = counts_flag a.ecn
flags_of frame = 0

-- how many bytes of a frame follow its data: none, but sixteen, the token, follow the id of a NEW_CONNECTION_ID
abbrev pub tail_of : Frame → ℕ
tail_of (frames.NewConnectionId n) = 16
tail_of frame = 0

abbrev pub data_of : Frame → List ℕ
data_of frame = let m = meaning_of frame in data_in (slots_of m.name) m.values

-- the length of the first of these ranges, less one: First ACK Range (RFC 9000, section 19.3)
abbrev pub first_length : List (ℕ × ℕ) → ℕ
first_length [] = 0
first_length (range ∷ ranges) = range.1 - range.0

-- the word for the length of data: of an ACK, which has none, its first range, less one
abbrev pub data_len_of : Frame → ℕ
data_len_of (frames.Ack a) = first_length (ranges_acked a)
data_len_of frame = length (data_of frame)

-- the word for the place of data in a payload, of a frame that ends at stop: of an ACK 0, as none of its gaps was
-- written
abbrev pub data_offset_of : ℕ → Frame → ℕ
data_offset_of stop (frames.Ack a) = 0
data_offset_of stop frame = stop - tail_of frame - length (data_of frame)

-- the words of a frame that goes from start to stop in a payload and begins with this type
abbrev pub frame_words : ℕ → ℕ → ℕ → Frame → CFrame
frame_words start stop type frame = record {
  kind = frame_kind_of frame;
  ty = type;
  flags = flags_of frame;
  begin = start;
  end = stop;
  data_offset = data_offset_of stop frame;
  data_len = data_len_of frame;
  numbers = frame_numbers_of frame;
}

-- the words for an error, with the last type, at the end of the last frame
abbrev pub invalid_words : ℕ → ℕ → CFrame
invalid_words start ty = record {
  kind = 2 ^ 16 - 1;
  ty = 0;
  flags = 0;
  begin = start;
  end = start;
  data_offset = start;
  data_len = 0;
  numbers = ty ∷ 0 ∷ 0 ∷ 0 ∷ 0 ∷ [];
}

-- how far data end before a frame; of an ACK, whose words have no place, further than any payload goes
abbrev pub back_of : Frame → ℕ
back_of (frames.Ack a) = 2 ^ 64 - 1
back_of frame = tail_of frame
