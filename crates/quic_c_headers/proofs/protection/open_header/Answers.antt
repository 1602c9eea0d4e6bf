-- A number that was read is in range.
use Rattle.std.proofs.Common.{◌≡◌, ℕ, ◌^◌, List, length, ap, ◌∙◌, arith, refl}
use Rattle.quic_base.proofs.PublicLaws.{num_below}
use Rattle.quic_crypto.specs.declared.packet_number.PacketNumber.{PacketNumber}
use Rattle.quic_crypto.specs.declared.packet_number.PacketNumber.TheVariants.{U8, U16, U24, U32}
use Rattle.quic_crypto.specs.PacketNumbers.{IsInRange, NumberAt, number_size, window_of}
use Rattle.quic_c_headers.proofs.protection.open_header.Goals as goal

windows : (number : PacketNumber) → 256 ^ number_size number ≡ window_of number
windows (U8 x) = refl
windows (U16 x) = refl
windows (U24 x) = refl
windows (U32 x) = refl

in_range : (number : PacketNumber) (text : List ℕ) → NumberAt number text → IsInRange number
in_range number text is =
    let below = num_below text is.bytes in
    let window : 256 ^ length text ≡ window_of number = ap (λ (n : ℕ). 256 ^ n) is.width ∙ windows number in
    omega (arith, below, window, is.value)

pub expand-requires-clause-valid : goal.expand-requires-clause-valid
expand-requires-clause-valid c = in_range c.unmask-written.result _ c.unmask-written.ensures.stands.stands.is
