-- What modes hold.
use Rattle.std.specs.Prelude.{ℕ, Option, Some, None}
use Rattle.quic_text.specs.declared.mode.Mode.{Mode}
use Rattle.quic_text.specs.declared.mode.Mode.TheVariants.{Datagram}
use Rattle.quic_text.specs.IdLens.{count}

-- how long the ids of short headers are, if the mode is `datagram`
abbrev pub asked_len : Option Mode → Option ℕ
asked_len (Some (Datagram len)) = Some (count len)
asked_len (Some mode) = None
asked_len None = None
