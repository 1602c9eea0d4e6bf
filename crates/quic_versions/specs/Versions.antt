-- What the transport parameter version_information has (RFC 9368, section 3).
use Rattle.std.specs.Prelude.{◌≡◌, ℕ, ◌<◌, List, [], ◌∷◌, ◌++◌, flat_map}
use Rattle.quic_base.specs.Number.{bytes_of, IsNumber}

-- The bytes are these versions, each in four bytes. None is 0, which no version has.
abbrev pub AreVersions : List ℕ → List ℕ → Type 0
AreVersions [] bytes = bytes ≡ []
AreVersions (version ∷ versions) bytes = (0 < version)
    × (front rest : List ℕ) × (bytes ≡ front ++ rest) × IsNumber 4 version front × AreVersions versions rest

-- The parameter's value: the chosen version, and behind it those that are available, the preferred ones first.
abbrev pub IsInformation : ℕ → List ℕ → List ℕ → Type 0
IsInformation chosen available value = AreVersions (chosen ∷ available) value

-- versions, in four bytes each
abbrev pub version_bytes : List ℕ → List ℕ
version_bytes = flat_map (bytes_of 4)
