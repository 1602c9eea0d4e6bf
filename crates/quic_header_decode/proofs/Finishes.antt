-- The number that was read is at its offset.
use Rattle.std.specs.Prelude.{ℕ, ◌+◌, List, take, drop, slice_range}
use Rattle.std.proofs.Common.{sym, ap, subst, ◌∙◌}
use Rattle.std.proofs.lemmas.List.{drop-take}
use Rattle.std.proofs.lemmas.Slice.{between_is}
use Rattle.quic_base.specs.Codec.{Takes}
use Rattle.quic_crypto.specs.declared.packet_number.PacketNumber.{PacketNumber}
use Rattle.quic_crypto.specs.PacketNumbers.{NumberAt, number_size}
use Rattle.quic_header_decode.proofs.Steps.{take_front}

pub number_at_place : (number : PacketNumber) (at : ℕ) (packet new : List ℕ)
    → Takes (NumberAt number) (drop at packet) new
    → NumberAt number (slice_range packet at (at + number_size number))
number_at_place number at packet new t =
    subst (NumberAt number)
    (sym (between_is packet at (at + number_size number) ∙ drop-take at (number_size number) packet
    ∙ ap (take (number_size number)) t.split ∙ take_front t.front new (number_size number) t.is.width))
    t.is
