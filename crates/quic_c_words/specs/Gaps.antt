-- The ranges of an ACK as gap and length (RFC 9000, section 19.3.1).
use Rattle.std.specs.Prelude.{ℕ, ◌+◌, ◌-◌, List, [], ◌∷◌}
use Rattle.quic_c_words.specs.declared.words.CGap.{CGap}

-- a range, by its least and its greatest number, below one whose least number is low: the count of numbers between the
-- two, less one, and the count of its own, less one (RFC 9000, section 19.3.1)
abbrev pub gap_of : ℕ → ℕ × ℕ → CGap
gap_of low range = record { gap = low - (range.1 + 2); len = range.1 - range.0 }

-- the same for ranges, each of which is below the one before it
abbrev pub gaps_below : ℕ → List (ℕ × ℕ) → List CGap
gaps_below low [] = []
gaps_below low (range ∷ ranges) = gap_of low range ∷ gaps_below range.0 ranges
