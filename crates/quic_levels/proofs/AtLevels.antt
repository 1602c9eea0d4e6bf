-- The keys of a level open a packet, or don't, as the calls that remove its protection return.
use Rattle.std.specs.Prelude.{◌≡◌, ℕ, Option, Some, None, Result, Ok, Err, IfOk, IfErr}
use Rattle.std.specs.Borrow.{Bor}
use Rattle.std.specs.Option.{option_copied, option_map}
use Rattle.std.proofs.Common.{sym, ap, ◌∙◌, subst, inr}
use Rattle.quic_header_decode.specs.declared.packet.Packet.{Packet}
use Rattle.quic_header_decode.specs.Datagram.{CutPacket}
use Rattle.quic_header_encode.specs.Kinds.{phase_in}
use Rattle.quic_levels.specs.declared.levels.Level.{Level}
use Rattle.quic_levels.specs.declared.opening.LevelError.{LevelError}
use Rattle.quic_levels.specs.declared.opening.LevelError.TheVariants as error
use Rattle.quic_levels.specs.Opening.{IsUnlockRefused, OpensAt, RefusesAt, Unlocks, unlocked_of}
use Rattle.quic_levels.specs.Protection.{HeaderProtection, LevelProtection, PacketProtection}
use Rattle.quic_packets.specs.declared.opening.Opened.{Opened}
use Rattle.quic_packets.specs.Opening.{packet_of}

-- what a key does that a call returned, or that there is none
pub key_there : {X Y : Type 0} (f : X → Y) (o : Option X) (found : Option (Bor X)) (x : Bor X)
    → option_copied found ≡ o → found ≡ Some x → option_map f o ≡ Some (f x.now)
key_there {X} f o found x is some =
    ap (option_map f) (sym is ∙ ap (λ (m : Option (Bor X)). option_copied m) some)

pub no_key : {X Y : Type 0} (f : X → Y) (o : Option X) (found : Option (Bor X))
    → option_copied found ≡ o → found ≡ None → option_map f o ≡ None
no_key {X} f o found is none = ap (option_map f) (sym is ∙ ap (λ (m : Option (Bor X)). option_copied m) none)

-- the header key doesn't remove the protection
pub at_locked : (keys : LevelProtection) (expected : ℕ) (level : Level) (cut : CutPacket) (h : HeaderProtection)
    → keys.header level ≡ Some h → (e : LevelError) → IsUnlockRefused h.sample_len cut e → RefusesAt keys expected level cut e
at_locked keys expected level cut h has (error.Decode f) refused = (h, has, refused)
at_locked keys expected level cut h has error.NoKeys refused = absurd refused
at_locked keys expected level cut h has error.Unsealed refused = absurd refused
at_locked keys expected level cut h has error.OutOfMemory refused = tt

module _ (keys : LevelProtection) (expected : ℕ) (level : Level) (cut : CutPacket) (packet : Packet) (number : ℕ)
    (h : HeaderProtection) (has : keys.header level ≡ Some h) (unlocks : Unlocks h expected cut (unlocked_of packet number)) where
  -- there is no packet key
  pub at_keyless : keys.packet level (phase_in packet.header) number ≡ None → RefusesAt keys expected level cut error.NoKeys
  at_keyless none = inr (
    unlocked_of packet number,
    record { header_key = h; has_header_key = has; unlocks = unlocks; has_packet_key = none },
  )

  -- the packet key opens the payload
  pub at_opened : (p : PacketProtection) → keys.packet level (phase_in packet.header) number ≡ Some p
      → (result : Result Opened LevelError)
      → IfOk result (λ x. x.header ≡ packet.header) → IfOk result (λ x. x.header_data ≡ packet.header_data)
      → IfOk result (λ x. x.number ≡ Some number)
      → IfOk result (λ x. p.opened number packet.header_data packet.payload.items ≡ Some x.payload.items)
      → IfOk result (λ x. OpensAt keys expected level cut (packet_of x))
  at_opened p has_packet (Ok x) header header_bytes is_number payload = record {
    unlocked = unlocked_of packet number;
    packet_key = p;
    unlocks = record { header_key = h; has_header_key = has; unlocks = unlocks; has_packet_key = has_packet };
    header = header;
    header_bytes = header_bytes;
    number = is_number;
    payload = payload;
  }
  at_opened p has_packet (Err e) header header_bytes is_number payload = tt

  -- or it doesn't
  pub at_unsealed : (p : PacketProtection) → keys.packet level (phase_in packet.header) number ≡ Some p
      → (result : Result Opened LevelError) → IfErr result (λ e. e ≡ error.Unsealed)
      → IfErr result (λ _. p.opened number packet.header_data packet.payload.items ≡ None)
      → IfErr result (RefusesAt keys expected level cut)
  at_unsealed p has_packet (Ok x) is none = tt
  at_unsealed p has_packet (Err e) is none = subst (RefusesAt keys expected level cut) (sym is) (
    unlocked_of packet number,
    p,
    record { header_key = h; has_header_key = has; unlocks = unlocks; has_packet_key = has_packet },
    none,
  )
