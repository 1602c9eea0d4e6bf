-- A sealed packet that was opened.
use Rattle.std.specs.Prelude.{◌≡◌, ℕ, List, Option, Result, Ok, Err, IfOk, MatchResult}
use Rattle.std.proofs.Common.{subst, sym}
use Rattle.bytes.specs.Filled.{Filled}
use Rattle.quic_header_encode.specs.Kinds.{space_in}
use Rattle.quic_packets.specs.declared.opening.OpenError.{OpenError}
use Rattle.quic_packets.specs.declared.opening.OpenError.TheVariants as error
use Rattle.quic_packets.specs.declared.opening.Opened.{Opened}
use Rattle.quic_packets.specs.Opening.{BeginsSealed, OpenedPacket, Opening, Opens, ReturnsSealed, packet_of, returned_by}
use Rattle.quic_packets.specs.Pairs.{IsLawful}
use Rattle.quic_packets.specs.Sealing.{PacketContents}

pub opens_again : (opening : Opening) (bytes : List ℕ) (result : Result (Opened × Option Filled) OpenError)
    → ((opening : Opening) (bytes : List ℕ) (contents : PacketContents) (rest : List ℕ)
    → IsLawful (opening.keys (space_in contents.header)) → BeginsSealed opening bytes contents rest
    → Opens opening bytes (returned_by opening contents) rest)
    → ((contents : PacketContents) (rest : List ℕ) → BeginsSealed opening bytes contents rest
    → MatchResult result (λ x. ReturnsSealed opening contents rest x.0 x.1) (λ e. e ≡ error.OutOfMemory))
    → IfOk result (λ x. (contents : PacketContents) (rest : List ℕ) → IsLawful (opening.keys (space_in contents.header))
    → BeginsSealed opening bytes contents rest → Opens opening bytes (packet_of x.0) rest)
opens_again opening bytes (Ok x) law sealed = λ contents rest lawful begins.
    subst (λ (packet : OpenedPacket). Opens opening bytes packet rest) (sym (sealed contents rest begins).packet)
    (law opening bytes contents rest lawful begins)
opens_again opening bytes (Err e) law sealed = tt
