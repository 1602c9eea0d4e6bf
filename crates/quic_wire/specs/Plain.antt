-- Headers of packets without protection that are read back (RFC 9000, sections 17.2.1 and 17.2.5).
use Rattle.std.specs.Prelude.{◌+◌, ◌<◌, ◌≤◌, ◌^◌, IsTrue, length}
use Rattle.quic_header_decode.specs.Grammar.{IsKnownVersion, is_fixed}
use Rattle.quic_header_decode.specs.Reading.{DecodeOptions}
use Rattle.quic_header_encode.specs.declared.header.Header.{Header}
use Rattle.quic_header_encode.specs.declared.header.Header.TheVariants as header

-- Ids have at most 20 bytes. A Retry has a known version. In a version negotiation the seven low bits of the first byte
-- are free, except for the fixed bit.
abbrev pub IsPlainInRange : DecodeOptions → Header → Type 0
IsPlainInRange options (header.Retry dst src version) =
    (version < 2 ^ 32) × IsKnownVersion options version × (length dst ≤ 20) × (length src ≤ 20)
IsPlainInRange options (header.VersionNegotiate random src dst) =
    (random < 128) × IsTrue (is_fixed options (128 + random)) × (length dst ≤ 20) × (length src ≤ 20)
IsPlainInRange options h = ⊥
