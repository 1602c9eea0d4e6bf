use Rattle.std.proofs.Common.{ℕ, List, length}
use Rattle.quic_versions.specs.Versions.{AreVersions}
use Rattle.quic_versions.proofs.information.are_versions.Given as goal

-- All bytes are versions if those that are left are, and only then.
abbrev pub invariant-loop-version : goal.invariant-loop-version
invariant-loop-version l =
    ((versions : List ℕ) → AreVersions versions l.left → (all : List ℕ) × AreVersions all l.bytes)
    × ((all : List ℕ) → AreVersions all l.bytes → (versions : List ℕ) × AreVersions versions l.left)

abbrev pub decreases-loop-version : goal.decreases-loop-version
decreases-loop-version l = length l.left
