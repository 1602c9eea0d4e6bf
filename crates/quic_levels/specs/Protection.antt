-- What keys do, and which of them protects a packet, by its level, key phase and number (RFC 9001, sections 4 to 6).
use Rattle.std.specs.Prelude.{ℕ, Bool, List, Option, Some, nat_lt, if◌then◌else◌}
use Rattle.std.specs.Bool.{beq}
use Rattle.std.specs.Option.{option_map, option_and_then}
use Rattle.quic_packets.specs.Pairs.{KeyPair}
use Rattle.quic_levels.specs.declared.keys.LevelKeys.{LevelKeys}
use Rattle.quic_levels.specs.declared.keys.OneRttKeys.{OneRttKeys}
use Rattle.quic_levels.specs.declared.levels.Level.{Level}
use Rattle.quic_levels.specs.declared.levels.Level.TheVariants as level

-- ---- what keys do

-- what a header key does (RFC 9001, section 5.4)
pub record HeaderProtection : Type 0 where
  -- how many bytes are sampled
  pub sample_len : ℕ
  -- a packet whose number begins at an offset, with its header protected, and with that protection removed
  pub protected : ℕ → List ℕ → List ℕ
  pub unprotected : ℕ → List ℕ → List ℕ

-- what a packet key does (RFC 9001, section 5.3)
pub record PacketProtection : Type 0 where
  -- how many bytes longer a sealed payload is
  pub tag_size : ℕ
  -- the sealed payload for a number, a header and a payload
  pub sealed : ℕ → List ℕ → List ℕ → List ℕ
  -- the payload for a number, a header and a sealed payload, if they belong together
  pub opened : ℕ → List ℕ → List ℕ → Option (List ℕ)

-- both
abbrev pub pair_of : HeaderProtection → PacketProtection → KeyPair
pair_of header packet = record {
  sample_len = header.sample_len;
  tag_size = packet.tag_size;
  protected = header.protected;
  unprotected = header.unprotected;
  sealed = packet.sealed;
  opened = packet.opened;
}

-- What the keys of each level do. A level may have none, since they aren't there yet or are discarded. Each level has
-- one header key; which packet key it has may depend on the key phase and on the packet's number.
pub record LevelProtection : Type 0 where
  pub header : Level → Option HeaderProtection
  pub packet : Level → Bool → ℕ → Option PacketProtection

-- ---- which keys

-- The packet key of a short packet, by its key phase bit and its whole number. In the current phase it is the current
-- key. A packet of the other phase has the former key if its number is below all those of the current phase, else the
-- next key (RFC 9001, section 6.5). Either may not be there (RFC 9001, sections 6.3 and 6.5).
abbrev pub phase_key : {H P : Type 0} → OneRttKeys H P → Bool → ℕ → Option P
phase_key keys phase n =
    if beq phase keys.phase then Some keys.current else (if nat_lt n keys.from then keys.former else keys.next)

-- the header key of a level, which key updates leave (RFC 9001, section 6.1)
abbrev pub header_key : {H P : Type 0} → LevelKeys H P → Level → Option H
header_key keys level.Initial = option_map (λ k. k.header) keys.initial
header_key keys level.ZeroRtt = option_map (λ k. k.header) keys.zero_rtt
header_key keys level.Handshake = option_map (λ k. k.header) keys.handshake
header_key keys level.OneRtt = option_map (λ k. k.header) keys.one_rtt

-- the packet key of a level, for a key phase and a number
abbrev pub packet_key : {H P : Type 0} → LevelKeys H P → Level → Bool → ℕ → Option P
packet_key keys level.Initial phase n = option_map (λ k. k.packet) keys.initial
packet_key keys level.ZeroRtt phase n = option_map (λ k. k.packet) keys.zero_rtt
packet_key keys level.Handshake phase n = option_map (λ k. k.packet) keys.handshake
packet_key keys level.OneRtt phase n = option_and_then (λ k. phase_key k phase n) keys.one_rtt
