-- The bytes of a frame up to its data.
use Rattle.std.specs.Prelude.{◌≡◌, ◌≢◌, ℕ, ◌+◌, ◌<◌, ◌^◌, ◌==◌, ◌&&◌, ◌||◌, ◌⊎◌, ℤ, pos, List, [], ◌∷◌, ◌++◌, length, drop, nat_lt, not, Bool, true, false, None, Some, if◌then◌else◌}
use Rattle.quic_base.specs.Codec.{NoFront}
use Rattle.quic_frame_fields.specs.Field.{NoNumber}
use Rattle.quic_frame_fields.specs.Numbers.{AreEncoded, AreNumeric, shortest_varints}
use Rattle.quic_frame_fields.specs.Payload.{BeginsWithType, HasLongType, IsType}
use Rattle.quic_frame_fields.specs.Shortest.{stream_header}
use Rattle.quic_frame_fields.specs.Table.{row_of}
use Rattle.quic_frames.specs.Rules.{ends_past}
use Rattle.quic_frames.specs.declared.frame.rules.Rules.{Rules}
use Rattle.quic_c_words.specs.declared.words.CFrame.{CFrame}
use Rattle.quic_c_words.specs.Shown.{has_flag}
use Rattle.quic_results.specs.declared.results.Failure.{Failure}
use Rattle.quic_results.specs.declared.results.Failure.TheVariants as failure
use Rattle.quic_results.specs.Results.{failed}

-- CRYPTO, STREAM and DATAGRAM
abbrev pub IsHeaded : ℕ → Type 0
IsHeaded kind = (kind ≡ 0x06) ⊎ (kind ≡ 0x08) ⊎ (kind ≡ 0x30)

-- the length of the data is written: always for CRYPTO, otherwise if the frame isn't the last
abbrev pub IsCounted : ℕ → Bool → Type 0
IsCounted kind last = (kind ≡ 0x06) ⊎ (last ≡ false)

-- Of the five numbers only the first, the id of a STREAM, and the second, the offset of a STREAM or CRYPTO, may differ
-- from 0.
abbrev pub AreTwo : List ℕ → Type 0
AreTwo (a ∷ b ∷ c ∷ d ∷ e ∷ []) = (c ≡ 0) × (d ≡ 0) × (e ≡ 0)
AreTwo numbers = ⊥

abbrev pub first_in : List ℕ → ℕ
first_in (a ∷ numbers) = a
first_in numbers = 0

abbrev pub second_in : List ℕ → ℕ
second_in (a ∷ b ∷ numbers) = b
second_in numbers = 0

-- The words describe such a frame, which can be written as the last of its payload or not; where its data are doesn't
-- matter.
pub record HasHeader (words : CFrame) (last : Bool) : Type 0 where
  pub kind : IsHeaded words.kind
  pub two : AreTwo words.numbers
  pub numeric : AreNumeric words.numbers
  pub counted : IsCounted words.kind last → words.data_len < 2 ^ 62
  pub id : words.kind ≡ 0x08 ⊎ first_in words.numbers ≡ 0
  pub offset : words.kind ≡ 0x30 → second_in words.numbers ≡ 0
  pub flags : words.flags ≡ 0 ⊎ (words.kind ≡ 0x08) × (words.flags ≡ 1)

-- its shortest encoding, without its data
abbrev pub data_header_by : (kind flags : ℕ) (numbers : List ℕ) (len : ℕ) (last : Bool) → List ℕ
data_header_by kind flags numbers len last =
    if kind == 0x06 then shortest_varints (0x06 ∷ second_in numbers ∷ len ∷ [])
    else if kind == 0x08
    then stream_header (first_in numbers) (second_in numbers) (flags == 1) (if last then None else Some len)
    else if last then shortest_varints (0x30 ∷ []) else shortest_varints (0x31 ∷ len ∷ [])

abbrev pub data_header_bytes : CFrame → Bool → List ℕ
data_header_bytes words last = data_header_by words.kind words.flags words.numbers words.data_len last

-- These bytes are at the front, the bytes after them didn't change, and they are counted.
pub record WroteHeader (words : CFrame) (last : Bool) (old new : List ℕ) (written : ℕ) : Type 0 where
  pub can : HasHeader words last
  pub count : written ≡ length (data_header_bytes words last)
  pub front : new ≡ data_header_bytes words last ++ drop written old

-- The data of a CRYPTO or STREAM end past 2^62 - 1, and these flags forbid that.
abbrev pub breaks_flags : ℕ → CFrame → Bool
breaks_flags flags words =
    has_flag 0x002 flags && (not (words.kind == 0x30) && ends_past (second_in words.numbers) words.data_len)

-- There is less room than they need, and how much they need was reported.
pub record HeaderNeedsMore (words : CFrame) (last : Bool) (old : List ℕ) (needed : ℕ) : Type 0 where
  pub can : HasHeader words last
  pub count : needed ≡ length (data_header_bytes words last)
  pub full : length old < needed

-- ---- reading

-- what a header says: the type, the id of a STREAM, the offset of a STREAM or CRYPTO, and the length of the data
pub record Header : Type 0 where
  pub type : ℕ
  pub id : ℕ
  pub offset : ℕ
  pub len : ℕ

-- the types of STREAM (RFC 9000, section 19.8)
abbrev pub is_stream : ℕ → Bool
is_stream type = nat_lt 0x07 type && nat_lt type 0x10

-- the kind of a type
abbrev pub header_kind : ℕ → ℕ
header_kind type = if is_stream type then 0x08 else if type == 0x31 then 0x30 else type

-- An offset is written: in a CRYPTO, and in a STREAM whose type has the bit OFF (RFC 9000, sections 19.6 and 19.8).
abbrev pub has_offset : ℕ → Bool
has_offset type = type == 0x06 || (is_stream type && has_flag 0x04 type)

-- The length of the data is written: in a CRYPTO, in a STREAM whose type has the bit LEN, and in a DATAGRAM of the type
-- 0x31 (RFC 9221, section 4).
abbrev pub has_length : ℕ → Bool
has_length type = type == 0x06 || (type == 0x31 || (is_stream type && has_flag 0x02 type))

-- The stream ends with the data: the type of the STREAM has the bit FIN.
abbrev pub has_fin : ℕ → Bool
has_fin type = is_stream type && has_flag 0x01 type

abbrev pub number_if : Bool → ℕ → List ℕ
number_if is_written n = if is_written then n ∷ [] else []

-- the numbers between the type and the data
abbrev pub header_numbers : (type id offset len : ℕ) → List ℕ
header_numbers type id offset len =
    number_if (is_stream type) id ++ (number_if (has_offset type) offset ++ number_if (has_length type) len)

-- The bytes begin with this header, which has so many bytes: the type and then its numbers, these in any widths. What
-- isn't written is 0, except the length: then all bytes that follow are data.
pub record BeginsWithHeader (short : Bool) (bytes : List ℕ) (h : Header) (count : ℕ) : Type 0 where
  pub type_bytes : List ℕ
  pub number_bytes : List ℕ
  pub behind : List ℕ
  pub parts : bytes ≡ type_bytes ++ (number_bytes ++ behind)
  pub type_encoded : IsType short h.type type_bytes
  pub kind : IsHeaded (header_kind h.type)
  pub encoded : AreEncoded (header_numbers h.type h.id h.offset h.len) number_bytes
  pub no_id : is_stream h.type ≡ false → h.id ≡ 0
  pub no_offset : has_offset h.type ≡ false → h.offset ≡ 0
  pub no_length : has_length h.type ≡ false → h.len ≡ length behind
  pub counted : count ≡ length type_bytes + length number_bytes

-- The data of a CRYPTO or STREAM end past 2^62 - 1, and the rules forbid that.
abbrev pub breaks_limit : Rules → Header → Bool
breaks_limit rules h = rules.data_limit && (not (header_kind h.type == 0x30) && ends_past h.offset h.len)

-- the words of a header of so many bytes, after which the data begin: they are those of the whole frame
abbrev pub header_words : Header → ℕ → CFrame
header_words h count = record {
  kind = header_kind h.type;
  ty = h.type;
  flags = if has_fin h.type then 1 else 0;
  begin = 0;
  end = count + h.len;
  data_offset = count;
  data_len = h.len;
  numbers = h.id ∷ h.offset ∷ 0 ∷ 0 ∷ 0 ∷ [];
}

-- The bytes begin with a header that breaks no rule, its length is returned, and its words are given.
pub record GivesHeader (rules : Rules) (bytes : List ℕ) (result : ℤ) (words : CFrame) : Type 0 where
  pub header : Header
  pub count : ℕ
  pub begins : BeginsWithHeader rules.short_types bytes header count
  pub kept : breaks_limit rules header ≡ false
  pub counted : result ≡ pos count
  pub shown : words ≡ header_words header count

-- The bytes behind a type of one of the three kinds end within its numbers.
abbrev pub EndsInNumbers : ℕ → List ℕ → Type 0
EndsInNumbers type back = IsHeaded (header_kind type)
    × ((id offset len : ℕ) → NoFront (AreEncoded (header_numbers type id offset len)) back)

-- The bytes begin with a header whose data end too far.
pub record BreaksLimit (rules : Rules) (bytes : List ℕ) : Type 0 where
  pub header : Header
  pub count : ℕ
  pub begins : BeginsWithHeader rules.short_types bytes header count
  pub broken : breaks_limit rules header ≡ true

-- Why a type has no header: it is that of another kind of frame, or unknown.
abbrev pub RefusesType : ℕ → Failure → Type 0
RefusesType type failure.Kind = (row_of type ≢ None) × (IsHeaded (header_kind type) → ⊥)
RefusesType type failure.FrameType = row_of type ≡ None
RefusesType type other = ⊥

-- Why no header is given: there is no byte; the bytes end within the type or the numbers; the type must be in its
-- shortest encoding and isn't; it is unknown, or that of another kind; data end too far.
abbrev pub RefusesHeader : Rules → List ℕ → Failure → Type 0
RefusesHeader rules bytes failure.PayloadEmpty = bytes ≡ []
RefusesHeader rules bytes failure.FrameEnd = ((bytes ≢ []) × NoNumber bytes)
    ⊎ ((type : ℕ) × BeginsWithType rules.short_types bytes type (EndsInNumbers type))
RefusesHeader rules bytes failure.FrameLongType = (type : ℕ) × HasLongType rules.short_types bytes type
RefusesHeader rules bytes failure.FrameType =
    (type : ℕ) × BeginsWithType rules.short_types bytes type (λ back. RefusesType type failure.FrameType)
RefusesHeader rules bytes failure.Kind =
    (type : ℕ) × BeginsWithType rules.short_types bytes type (λ back. RefusesType type failure.Kind)
RefusesHeader rules bytes failure.FrameLimit = BreaksLimit rules bytes
RefusesHeader rules bytes other = ⊥

-- What a call for the header at the front returns and leaves: its length, with its words; or why there is none, and
-- nothing changes.
abbrev pub AnswersHeader : Rules → List ℕ → CFrame → ℤ → CFrame → Type 0
AnswersHeader rules bytes before result after = GivesHeader rules bytes result after
    ⊎ ((reason : Failure) × (result ≡ failed reason) × RefusesHeader rules bytes reason × (after ≡ before))

-- how many bytes of data a header that was written describes, with these bytes behind it
abbrev pub len_behind : CFrame → Bool → List ℕ → ℕ
len_behind words last behind = if words.kind == 0x06 || not last then words.data_len else length behind

-- The data of a CRYPTO or STREAM don't end past 2^62 - 1, or the rules don't forbid that.
abbrev pub StaysWithin : Rules → CFrame → Bool → List ℕ → Type 0
StaysWithin rules words last behind = rules.data_limit ≡ true → words.kind ≢ 0x30
    → second_in words.numbers + len_behind words last behind < 2 ^ 62

-- The header was read as it was written.
pub record IsReadBack (words : CFrame) (last : Bool) (behind : List ℕ) (result : ℤ) (read : CFrame) : Type 0 where
  pub counted : result ≡ pos (length (data_header_bytes words last))
  pub place : read.data_offset ≡ length (data_header_bytes words last)
  pub kind : read.kind ≡ words.kind
  pub flags : read.flags ≡ words.flags
  pub numbers : read.numbers ≡ words.numbers
  pub len : read.data_len ≡ len_behind words last behind
