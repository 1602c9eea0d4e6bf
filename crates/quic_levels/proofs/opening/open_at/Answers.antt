-- By the keys of the level, and what their calls return.
use Rattle.std.specs.Option.{option_map}
use Rattle.std.specs.Prelude.{◌≡◌, ℕ, Bool, Some}
use Rattle.std.proofs.Common.{sym, ap, ◌∙◌}
use Rattle.quic_header_decode.specs.declared.packet.Packet.{Packet}
use Rattle.quic_header_encode.specs.Kinds.{phase_in}
use Rattle.quic_levels.specs.Protection.{HeaderProtection, LevelProtection, PacketProtection}
use Rattle.quic_levels.proofs.AtLevels.{at_locked, at_opened, at_unsealed}
use Rattle.quic_levels.proofs.Protections.{header_by, packet_by, protection_of}
use Rattle.quic_levels.proofs.opening.open_at.Goals as goal

pub returns-in-Err-clause-refused : goal.returns-in-Err-clause-refused
returns-in-Err-clause-refused g c =
    let keys : LevelProtection = protection_of g.H.HeaderKey g.P.PacketKey c.args.keys.now in
    let h : HeaderProtection = header_by g.H.HeaderKey c.in-Some.header_key.now in
    let has : keys.header c.args.level ≡ Some h = ap (option_map (header_by g.H.HeaderKey)) (sym c.in-Some.ensures) in
    at_locked keys c.args.expected c.args.level c.args.partial h has c.in-Err.e c.in-Err.ensures.refused

pub returns-in-Some-packet-clause-opened : goal.returns-in-Some-packet-clause-opened
returns-in-Some-packet-clause-opened g c =
    let keys : LevelProtection = protection_of g.H.HeaderKey g.P.PacketKey c.args.keys.now in
    let packet : Packet = c.in-Ok.unlocked.0 in
    let number : ℕ = c.in-Ok.unlocked.1 in
    let h : HeaderProtection = header_by g.H.HeaderKey c.in-Some.header_key.now in
    let p : PacketProtection = packet_by g.P.PacketKey c.in-Some-packet.packet_key.now in
    let has : keys.header c.args.level ≡ Some h = ap (option_map (header_by g.H.HeaderKey)) (sym c.in-Some.ensures) in
    let has_packet : keys.packet c.args.level (phase_in packet.header) number ≡ Some p =
    ap (λ (phase : Bool). keys.packet c.args.level phase number) (sym c.key_phase.ensures)
    ∙ ap (option_map (packet_by g.P.PacketKey)) (sym c.in-Some-packet.ensures) in
    at_opened keys c.args.expected c.args.level c.args.partial packet number h has c.in-Ok.ensures.unlocked p has_packet
    c.unseal.result c.unseal.ensures.header c.unseal.ensures.header_data c.unseal.ensures.number c.unseal.ensures.payload

pub returns-in-Some-packet-clause-refused : goal.returns-in-Some-packet-clause-refused
returns-in-Some-packet-clause-refused g c =
    let keys : LevelProtection = protection_of g.H.HeaderKey g.P.PacketKey c.args.keys.now in
    let packet : Packet = c.in-Ok.unlocked.0 in
    let number : ℕ = c.in-Ok.unlocked.1 in
    let h : HeaderProtection = header_by g.H.HeaderKey c.in-Some.header_key.now in
    let p : PacketProtection = packet_by g.P.PacketKey c.in-Some-packet.packet_key.now in
    let has : keys.header c.args.level ≡ Some h = ap (option_map (header_by g.H.HeaderKey)) (sym c.in-Some.ensures) in
    let has_packet : keys.packet c.args.level (phase_in packet.header) number ≡ Some p =
    ap (λ (phase : Bool). keys.packet c.args.level phase number) (sym c.key_phase.ensures)
    ∙ ap (option_map (packet_by g.P.PacketKey)) (sym c.in-Some-packet.ensures) in
    at_unsealed keys c.args.expected c.args.level c.args.partial packet number h has c.in-Ok.ensures.unlocked p has_packet
    c.unseal.result c.unseal.ensures.refused c.unseal.ensures.unsealed
