-- What a Retry's tag protects (RFC 9001, section 5.8).
use Rattle.std.specs.Prelude.{ℕ, ◌-◌, List, ◌++◌, length, take}
use Rattle.quic_base.specs.ConnectionId.{long_id}

-- the pseudo-packet: the id of the client's first packet, after its length, and the Retry without its tag of 16 bytes
abbrev pub pseudo_packet : List ℕ → List ℕ → List ℕ
pseudo_packet original retry = long_id original ++ take (length retry - 16) retry
