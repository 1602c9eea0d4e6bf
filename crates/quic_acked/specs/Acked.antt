-- Which numbers of a set an ACK acknowledges (RFC 9000, section 19.3).
use Rattle.std.specs.Prelude.{ℕ, Bool, List, ◌&&◌}
use Rattle.std.specs.declared.ops.Range.{Range}
use Rattle.quic_frame_fields.specs.Sets.{is_in}
use Rattle.quic_ranges.specs.Runs.{member}

-- n is in the set with these runs, and in one of the ranges of an ACK
abbrev pub is_acked : List (Range ℕ) → List (ℕ × ℕ) → ℕ → Bool
is_acked runs ranges n = member runs n && is_in ranges n
