-- What an encoder does to the front of a slice.
use Rattle.std.specs.Prelude.{◌≡◌, ℕ, ◌+◌, ◌<◌, List, ◌++◌, length, take, drop, Result, IfOk, OnErr, IfErr}
use Rattle.quic_base.specs.Codec.{IsBegun, KeepsRoom}
use Rattle.quic_frame_fields.specs.Numbers.{AreEncoded, shortest_varints}

-- The bytes were written at the front, those after them didn't change, and the result is their count; or there was less
-- room, nothing changed, and the error is how much room they need.
pub record Puts (result : Result ℕ ℕ) (bytes old new : List ℕ) : Type 0 where
  pub count : IfOk result (λ n. n ≡ length bytes)
  pub front : IfOk result (λ n. new ≡ bytes ++ drop n old)
  pub needed : IfErr result (λ n. n ≡ length bytes)
  pub full : OnErr result (length old < length bytes)
  pub same : OnErr result (new ≡ old)

-- The bytes were written from an offset on, up to end; those before and after them didn't change.
pub record Stores (bytes : List ℕ) (at : ℕ) (old : List ℕ) (end : ℕ) (new : List ℕ) : Type 0 where
  pub count : end ≡ at + length bytes
  pub front : take end new ≡ take at old ++ bytes
  pub back : drop end new ≡ drop end old

-- ---- No public clause cites what follows.

-- The bytes encode numbers, and len is the length of their shortest encodings.
pub record Shortens (encoded : List ℕ) (len : ℕ) : Type 0 where
  pub numbers : List ℕ
  pub encodes : AreEncoded numbers encoded
  pub long : (ns : List ℕ) → AreEncoded ns encoded → len ≡ length (shortest_varints ns)

-- Of the bytes in a chunk up to an offset, a prefix was appended, and the rest are now at the chunk's front, up to the
-- result; or there was too little room.
pub record Flushes {E : Type 0} (result : Result ℕ E) (at : ℕ) (chunk written : List ℕ) (spare : ℕ) (written' : List ℕ)
    (spare' : ℕ) : Type 0 where
  pub begun : IsBegun written (take at chunk) written'
  pub left : IfOk result (λ n. take n chunk ≡ begun.left)
  pub full : OnErr result (spare < length (take at chunk))
  pub room : KeepsRoom written spare written' spare'
