-- A header key and a packet key as one value, for contracts, and keys and expected numbers by the space of a packet's
-- number (RFC 9000, section 12.3).
use Rattle.std.specs.Prelude.{◌≡◌, ℕ, ◌+◌, ◌<◌, ◌^◌, List, length, Option, Some}
use Rattle.quic_base.specs.Number.{AreBytes}
use Rattle.quic_base.specs.declared.ids.SpaceId.{SpaceId}
use Rattle.quic_base.specs.declared.ids.SpaceId.TheVariants as space
use Rattle.quic_crypto.specs.Keys.{HasSample, Protects}
use Rattle.quic_packets.specs.declared.keys.Keys.{Keys}
use Rattle.quic_packets.specs.declared.keys.SpaceKeys.{SpaceKeys}
use Rattle.quic_packets.specs.declared.keys.Expected.{Expected}

-- what a header key and a packet key do (RFC 9001, sections 5.3 and 5.4)
pub record KeyPair : Type 0 where
  -- how many bytes are sampled
  pub sample_len : ℕ
  -- how many bytes longer a sealed payload is
  pub tag_size : ℕ
  -- a packet whose number begins at an offset, with its header protected, and with that protection removed
  pub protected : ℕ → List ℕ → List ℕ
  pub unprotected : ℕ → List ℕ → List ℕ
  -- the sealed payload for a number, a header and a payload
  pub sealed : ℕ → List ℕ → List ℕ → List ℕ
  -- the payload for a number, a header and a sealed payload, if they belong together
  pub opened : ℕ → List ℕ → List ℕ → Option (List ℕ)

-- The laws of a pair of keys, as the traits of keys state them: protecting changes only a header's low bits and its
-- number, and can be undone; a sealed payload is longer by the tag, and opens with its number and header.
pub record IsLawful (keys : KeyPair) : Type 0 where
  pub protects : (at : ℕ) (packet : List ℕ) → AreBytes packet → HasSample keys.sample_len at packet
      → Protects at packet (keys.protected at packet)
  pub restores : (at : ℕ) (packet : List ℕ) → AreBytes packet → HasSample keys.sample_len at packet
      → keys.unprotected at (keys.protected at packet) ≡ packet
  pub sealed_len : (n : ℕ) (header payload : List ℕ) → n < 2 ^ 64 → AreBytes header → AreBytes payload
      → length (keys.sealed n header payload) ≡ length payload + keys.tag_size
  pub opens : (n : ℕ) (header payload : List ℕ) → n < 2 ^ 64 → AreBytes header → AreBytes payload
      → keys.opened n header (keys.sealed n header payload) ≡ Some payload

-- the keys of a space; 0-RTT packets and short packets share one
abbrev pub keys_in : {H P : Type 0} → SpaceKeys H P → SpaceId → Keys H P
keys_in keys space.Initial = keys.initial
keys_in keys space.Handshake = keys.handshake
keys_in keys space.Data = keys.app

-- the number that is expected next in a space
abbrev pub expected_in : Expected → SpaceId → ℕ
expected_in expected space.Initial = expected.initial
expected_in expected space.Handshake = expected.handshake
expected_in expected space.Data = expected.app
