-- ACKs that words describe by gap and length (RFC 9000, section 19.3).
use Rattle.std.specs.Prelude.{◌≡◌, ⊤, ℕ, ◌+◌, ◌-◌, ◌<◌, ◌≤◌, ◌^◌, ◌⊎◌, List, [], ◌∷◌, ◌++◌, length, slice_index, Option, Some, None, ◌==◌, if◌then◌else◌}
use Rattle.quic_frame_fields.specs.declared.frame.ack.EcnCounts.{EcnCounts}
use Rattle.quic_frame_fields.specs.Field.{Number, Ranges}
use Rattle.quic_frame_fields.specs.Numbers.{AreNumeric, shortest_varints}
use Rattle.quic_frame_fields.specs.Parts.{counts_of, frame_of}
use Rattle.quic_frame_fields.specs.Payload.{Meaning}
use Rattle.quic_frame_fields.specs.Table.{Ack}
use Rattle.quic_c_words.specs.declared.words.CFrame.{CFrame}
use Rattle.quic_c_words.specs.declared.words.CGap.{CGap}
use Rattle.quic_c_words.specs.Gaps.{gaps_below}

-- the greatest number and the delay
abbrev pub greatest_of_words : CFrame → ℕ
greatest_of_words words = slice_index words.numbers 0

abbrev pub delay_in : CFrame → ℕ
delay_in words = slice_index words.numbers 1

-- the counts of ECT(0), ECT(1) and ECN-CE, with flag 2
abbrev pub counts_list : CFrame → List ℕ
counts_list words =
    if words.flags == 2
    then slice_index words.numbers 2 ∷ slice_index words.numbers 3 ∷ slice_index words.numbers 4 ∷ []
    else []

abbrev pub counts_described : List ℕ → Option EcnCounts
counts_described (ect0 ∷ ect1 ∷ ce ∷ []) = Some (record { ect0 = ect0; ect1 = ect1; ce = ce })
counts_described counts = None

-- ranges one below the other, and all below one whose least number is low: at least one number is between two of them
abbrev pub AreUnder : ℕ → List (ℕ × ℕ) → Type 0
AreUnder low [] = ⊤
AreUnder low (range ∷ ranges) = (range.0 ≤ range.1) × (range.1 + 2 ≤ low) × AreUnder range.0 ranges

-- The words and the gaps describe an ACK, whose first range goes down to low, and whose other ranges are below it.
pub record DescribesAck (words : CFrame) (gaps : List CGap) (low : ℕ) (below : List (ℕ × ℕ)) : Type 0 where
  pub kind : words.kind ≡ 0x02
  pub flags : (words.flags ≡ 0) ⊎ (words.flags ≡ 2)
  pub first : low + words.data_len ≡ greatest_of_words words
  pub under : AreUnder low below
  pub gaps_are : gaps ≡ gaps_below low below
  pub greatest : greatest_of_words words < 2 ^ 62
  pub delay : delay_in words < 2 ^ 62
  pub counts : AreNumeric (counts_list words)

-- the ACK
abbrev pub ack_described : CFrame → ℕ → List (ℕ × ℕ) → Meaning
ack_described words low below =
    frame_of Ack (Number (greatest_of_words words) ∷ Number (delay_in words)
    ∷ Ranges ((low, greatest_of_words words) ∷ below) ∷ counts_of (counts_described (counts_list words)))

-- ---- No public clause cites what follows.

-- the numbers of gaps, as they are encoded
abbrev pub gap_numbers : List CGap → List ℕ
gap_numbers [] = []
gap_numbers (g ∷ gaps) = g.gap ∷ g.len ∷ gap_numbers gaps

-- the ranges below one whose least number is low don't go below 0
abbrev pub Fit : ℕ → List CGap → Type 0
Fit low [] = ⊤
Fit low (g ∷ gaps) = (g.gap + 2 + g.len ≤ low) × Fit (low - 2 - g.gap - g.len) gaps

-- Such words and gaps describe an ACK.
pub record IsAck (words : CFrame) (gaps : List CGap) : Type 0 where
  pub kind : words.kind ≡ 0x02
  pub flags : (words.flags ≡ 0) ⊎ (words.flags ≡ 2)
  pub first : words.data_len ≤ greatest_of_words words
  pub fit : Fit (greatest_of_words words - words.data_len) gaps
  pub greatest : greatest_of_words words < 2 ^ 62
  pub delay : delay_in words < 2 ^ 62
  pub counts : AreNumeric (counts_list words)

-- their numbers before the gaps, after the type
abbrev pub behind_type : CFrame → List CGap → List ℕ
behind_type words gaps = greatest_of_words words ∷ delay_in words ∷ length gaps ∷ words.data_len ∷ []

-- these with the type
abbrev pub front_numbers : CFrame → List CGap → List ℕ
front_numbers words gaps = (if words.flags == 2 then 0x03 else 0x02) ∷ behind_type words gaps

-- the bytes that are written
abbrev pub ack_bytes : CFrame → List CGap → List ℕ
ack_bytes words gaps = shortest_varints (front_numbers words gaps)
    ++ (shortest_varints (gap_numbers gaps) ++ shortest_varints (counts_list words))
