-- A receiver: which numbers it expects, after any run of receptions (RFC 9000, sections 12.3 and 17.1).
use Rattle.std.specs.Prelude.{◌≡◌, ℕ, ◌+◌, ◌-◌, ◌≤◌, ◌^◌, ◌⊎◌, min, max, List, [], ◌∷◌, All, Any, Bool, is_ok, Option, Some, None, Result, Ok, Err, IsOkAnd}
use Rattle.std.specs.Option.{option_map_or}
use Rattle.bytes.specs.Filled.{Filled}
use Rattle.quic_base.specs.declared.ids.SpaceId.{SpaceId}
use Rattle.quic_base.specs.declared.ids.SpaceId.TheVariants as space
use Rattle.quic_header_encode.specs.Kinds.{space_in}
use Rattle.quic_levels.specs.declared.opening.LevelError.{LevelError}
use Rattle.quic_levels.specs.Opening.{LevelOpening, NextOutcome}
use Rattle.quic_packets.specs.declared.keys.Expected.{Expected}
use Rattle.quic_packets.specs.declared.opening.Opened.{Opened}

-- ---- one reception

-- nothing was opened yet
abbrev pub fresh : Expected
fresh = record { initial = 0; handshake = 0; app = 0 }

-- the number after this one; the greatest is 2^62 - 1 (RFC 9000, section 12.3)
abbrev pub one_more : ℕ → ℕ
one_more n = min (n + 1) (2 ^ 62 - 1)

-- at least this number is expected in the space, as before in the others
abbrev pub raised : Expected → SpaceId → ℕ → Expected
raised expected space.Initial n = record expected { initial = max expected.initial n }
raised expected space.Handshake n = record expected { handshake = max expected.handshake n }
raised expected space.Data n = record expected { app = max expected.app n }

-- Which numbers are expected after a call: after an opened packet, a number above its own in its space; the same as
-- before after an error, and after a packet without a number.
abbrev pub expected_after : Expected → Result Opened LevelError → Expected
expected_after expected (Ok opened) =
    option_map_or (λ n. raised expected (space_in opened.header) (one_more n)) opened.number expected
expected_after expected (Err e) = expected

-- the same, of a call that found a packet or none
abbrev pub expected_next : Expected → Option (Result Opened LevelError) → Expected
expected_next expected None = expected
expected_next expected (Some answer) = expected_after expected answer

-- ---- runs

-- a call: what it opened packets with, the bytes from the next packet on, what it returned, and what it left
pub record Reception : Type 0 where
  pub opening : LevelOpening
  pub bytes : List ℕ
  pub answer : Result Opened LevelError
  pub left : Option Filled

-- a receiver that expects the old numbers receives so, and then expects the new ones
pub record Receives (old : Expected) (reception : Reception) (new : Expected) : Type 0 where
  pub outcome : NextOutcome reception.opening old reception.bytes reception.answer reception.left
  pub moved : new ≡ expected_after old reception.answer

-- these receptions, one after another; keys and options may differ in each
abbrev pub Run : Expected → List Reception → Expected → Type 0
Run old [] new = new ≡ old
Run old (reception ∷ receptions) new =
    (mid : Expected) × Receives old reception mid × Run mid receptions new

-- the reception opened a packet with this number, in this space
abbrev pub OpenedIn : SpaceId → ℕ → Reception → Type 0
OpenedIn there n reception =
    IsOkAnd reception.answer (λ opened. (space_in opened.header ≡ there) × (opened.number ≡ Some n))

-- the number that is expected next in a space after receptions: one more than the greatest that was opened there, or 0
-- if none was
pub record IsExpectedNext (there : SpaceId) (receptions : List Reception) (next : ℕ) : Type 0 where
  pub above_all : All (λ reception. (n : ℕ) → OpenedIn there n reception → one_more n ≤ next) receptions
  pub is_next : (next ≡ 0) ⊎ Any (λ reception. (n : ℕ) × OpenedIn there n reception × (next ≡ one_more n)) receptions

-- the reception opened a packet
abbrev pub is_opened : Reception → Bool
is_opened reception = is_ok reception.answer
