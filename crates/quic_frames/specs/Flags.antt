-- Rules as flags, by which the libraries for C name them.
use Rattle.std.specs.Prelude.{ℕ, bit_and, Bool, not, ◌==◌}
use Rattle.quic_frames.specs.declared.frame.rules.Rules.{Rules}

-- A flag, one bit, is set.
abbrev pub has_flag : ℕ → ℕ → Bool
has_flag flag flags = not (bit_and flags flag == 0)

-- the rules of flags, whose other bits mean nothing here
abbrev pub rules_in : ℕ → Rules
rules_in flags = record {
  short_types = has_flag 0x001 flags;
  data_limit = has_flag 0x002 flags;
  stream_limit = has_flag 0x004 flags;
  tokens = has_flag 0x200 flags;
  no_ack_frequency = has_flag 0x008 flags;
}
