-- What a connection id is once a loan of its bytes for writing has ended.
use Rattle.std.specs.Prelude.{ℕ, List, length}
use Rattle.std.specs.List.{refill}
use Rattle.std.specs.Borrow.{Lends, Fml, MutBor, Array, u8}
use Rattle.quic_base.specs.contracts.ids.connection_id.ConnectionId.{the_row}

-- once the borrow r ends, the id is the list that was last written through r; `refill` says that its length stays
abbrev pub LendsBytes : MutBor (List ℕ) → MutBor (List ℕ) → Fml
LendsBytes id r = Lends the_row (Array u8 0) id r (λ written. refill (length id.now) id.now written)
