-- Stateless resets (RFC 9000, section 10.3).
use Rattle.std.specs.Prelude.{◌≡◌, ℕ, ◌+◌, ◌-◌, ◌%◌, ◌<◌, ◌≤◌, List, [], ◌∷◌, ◌++◌, length, drop, slice_index}

-- A datagram is a stateless reset with this token: it has 21 bytes at least, which is the least of a packet with a
-- short header, and the token is its end.
pub record IsReset (token datagram : List ℕ) : Type 0 where
  pub long : 21 ≤ length datagram
  pub ends : drop (length datagram - 16) datagram ≡ token

-- Its two highest bits are 0 and 1, as those of a packet with a short header are (section 17.3).
pub record IsShortHeader (datagram : List ℕ) : Type 0 where
  pub form : slice_index datagram 0 < 0x80
  pub fixed : 0x40 ≤ slice_index datagram 0

-- the datagram that is made of bytes and a token: 38 bits or more of the bytes are kept, all except the two highest
abbrev pub reset_bytes : List ℕ → List ℕ → List ℕ
reset_bytes [] token = token
reset_bytes (first ∷ bytes) token = (0x40 + first % 0x40) ∷ (bytes ++ token)
