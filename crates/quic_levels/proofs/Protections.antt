-- What the keys of all levels do, and that they are lawful.
use Rattle.std.specs.Prelude.{◌≡◌, ℕ, Bool, List, Option, Some, None}
use Rattle.std.specs.Option.{option_map}
use Rattle.std.proofs.Common.{subst}
use Rattle.std.proofs.lemmas.Option.{same_Some}
use Rattle.quic_crypto.specs.declared.crypto.HeaderKey as header_traits
use Rattle.quic_crypto.specs.declared.crypto.PacketKey as packet_traits
use Rattle.quic_header_decode.specs.declared.parser.ConnectionIdParser as id_parser
use Rattle.quic_header_decode.specs.Reading.{read_by}
use Rattle.quic_levels.specs.declared.keys.LevelKeys.{LevelKeys}
use Rattle.quic_levels.specs.declared.levels.Level.{Level}
use Rattle.quic_levels.specs.Opening.{LevelOpening}
use Rattle.quic_levels.specs.Protection.{HeaderProtection, LevelProtection, PacketProtection, header_key, packet_key, pair_of}
use Rattle.quic_packets.specs.Pairs.{IsLawful}

abbrev pub header_by : {H : Type 0} → header_traits.Ghosts H → H → HeaderProtection
header_by h key =
    record { sample_len = h.sample_len key; protected = h.protected key; unprotected = h.unprotected key }

abbrev pub packet_by : {P : Type 0} → packet_traits.Ghosts P → P → PacketProtection
packet_by p key = record { tag_size = p.tag_size key; sealed = p.sealed key; opened = p.opened key }

abbrev pub protection_of : {H P : Type 0} → header_traits.Ghosts H → packet_traits.Ghosts P → LevelKeys H P
    → LevelProtection
protection_of h p keys = record {
  header = λ level. option_map (header_by h) (header_key keys level);
  packet = λ level phase n. option_map (packet_by p) (packet_key keys level phase n);
}

abbrev pub opening_of : {H P C : Type 0} → header_traits.Ghosts H → packet_traits.Ghosts P → id_parser.Ghosts C
    → LevelKeys H P → C → List ℕ → Bool → LevelOpening
opening_of h p c keys parser versions grease = record {
  keys = protection_of h p keys;
  options = read_by (c.parsed parser) versions grease;
  takes_memory = c.takes_memory parser;
}

-- a level's header key and its packet key are a lawful pair
pub record AreLawful (keys : LevelProtection) : Type 0 where
  pub pair : (level : Level) (phase : Bool) (n : ℕ) (header : HeaderProtection) (packet : PacketProtection)
      → keys.header level ≡ Some header → keys.packet level phase n ≡ Some packet → IsLawful (pair_of header packet)

mapped : {X Y : Type 0} (f : X → Y) (o : Option X) (y : Y) → option_map f o ≡ Some y → (x : X) × (f x ≡ y)
mapped f None y e = absurd cc
mapped f (Some x) y e = (x, same_Some (f x) y e)

-- keys of which each pair is lawful
pub all_lawful : {H P : Type 0} (h : header_traits.Ghosts H) (p : packet_traits.Ghosts P) (keys : LevelKeys H P)
    → ((a : H) (b : P) → IsLawful (pair_of (header_by h a) (packet_by p b))) → AreLawful (protection_of h p keys)
all_lawful h p keys laws = record {
  pair = λ level phase n header packet has_header has_packet.
      let a = mapped (header_by h) (header_key keys level) header has_header in
      let b = mapped (packet_by p) (packet_key keys level phase n) packet has_packet in
      subst (λ (x : HeaderProtection). IsLawful (pair_of x packet)) a.1
      (subst (λ (x : PacketProtection). IsLawful (pair_of (header_by h a.0) x)) b.1 (laws a.0 b.0));
}
