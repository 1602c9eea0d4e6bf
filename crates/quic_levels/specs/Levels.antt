-- The level of a packet's keys (RFC 9001, section 2.1), by its header (RFC 9001, section 4, table 1).
use Rattle.std.specs.Prelude.{Option, Some, None}
use Rattle.quic_base.specs.declared.ids.SpaceId.{SpaceId}
use Rattle.quic_base.specs.declared.ids.SpaceId.TheVariants as space
use Rattle.quic_header_decode.specs.declared.protected.ProtectedHeader.{ProtectedHeader}
use Rattle.quic_header_decode.specs.declared.protected.ProtectedHeader.TheVariants as protected
use Rattle.quic_header_encode.specs.declared.header.Header.{Header}
use Rattle.quic_header_encode.specs.declared.header.Header.TheVariants as header
use Rattle.quic_header_encode.specs.declared.long_type.LongType.{LongType}
use Rattle.quic_header_encode.specs.declared.long_type.LongType.TheVariants.{Handshake, ZeroRtt}
use Rattle.quic_levels.specs.declared.levels.Level.{Level}
use Rattle.quic_levels.specs.declared.levels.Level.TheVariants as level

abbrev pub long_level : LongType → Level
long_level Handshake = level.Handshake
long_level ZeroRtt = level.ZeroRtt

-- the level of a packet whose header is protected; Retry and version negotiation have none
abbrev pub level_of : ProtectedHeader → Option Level
level_of (protected.Initial h) = Some level.Initial
level_of (protected.Long ty dst src len version) = Some (long_level ty)
level_of (protected.Retry dst src version) = None
level_of (protected.Short spin dst) = Some level.OneRtt
level_of (protected.VersionNegotiate random dst src) = None

-- the level of a packet, by its header without protection
abbrev pub level_in : Header → Option Level
level_in (header.Initial h) = Some level.Initial
level_in (header.Long ty dst src number version) = Some (long_level ty)
level_in (header.Retry dst src version) = None
level_in (header.Short spin key_phase dst number) = Some level.OneRtt
level_in (header.VersionNegotiate random src dst) = None

-- the space of a level's packet numbers (RFC 9000, section 12.3)
abbrev pub space_at : Level → SpaceId
space_at level.Initial = space.Initial
space_at level.ZeroRtt = space.Data
space_at level.Handshake = space.Handshake
space_at level.OneRtt = space.Data
