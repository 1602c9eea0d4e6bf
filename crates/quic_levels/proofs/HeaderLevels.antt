-- Packets with a level are those that are protected.
use Rattle.std.specs.Prelude.{◌≡◌, IsTrue, false, Some, None}
use Rattle.std.proofs.Common.{refl}
use Rattle.std.proofs.lemmas.Option.{none-some}
use Rattle.quic_header_decode.specs.declared.protected.ProtectedHeader.{ProtectedHeader}
use Rattle.quic_header_decode.specs.declared.protected.ProtectedHeader.TheVariants as protected
use Rattle.quic_header_decode.specs.Headers.{is_protected}
use Rattle.quic_levels.specs.declared.levels.Level.{Level}
use Rattle.quic_levels.specs.Levels.{level_of}

pub level_protected : (h : ProtectedHeader) (l : Level) → level_of h ≡ Some l → IsTrue (is_protected h)
level_protected (protected.Initial i) l e = refl
level_protected (protected.Long ty dst src len version) l e = refl
level_protected (protected.Retry dst src version) l e = absurd (none-some l e)
level_protected (protected.Short spin dst) l e = refl
level_protected (protected.VersionNegotiate random dst src) l e = absurd (none-some l e)

pub level_plain : (h : ProtectedHeader) → level_of h ≡ None → is_protected h ≡ false
level_plain (protected.Initial i) e = absurd cc
level_plain (protected.Long ty dst src len version) e = absurd cc
level_plain (protected.Retry dst src version) e = refl
level_plain (protected.Short spin dst) e = absurd cc
level_plain (protected.VersionNegotiate random dst src) e = refl
