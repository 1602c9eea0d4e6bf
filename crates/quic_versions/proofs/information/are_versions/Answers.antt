use Rattle.std.proofs.Common.{◌<◌, ℕ, List, [], ◌∷◌, length, take, refl, sym, subst, ap, ◌∙◌, arith}
use Rattle.std.specs.Prelude.{◌==◌}
use Rattle.quic_base.specs.Number.{num}
use Rattle.quic_versions.specs.Versions.{AreVersions}
use Rattle.quic_versions.proofs.Lists.{behind, is_nil, none_is_0, short_is_empty, together}
use Rattle.quic_versions.proofs.information.are_versions.Goals as goal

pub returns-then-version-eq0 : goal.returns-then-version-eq0
returns-then-version-eq0 c = (
  λ wrong. absurd cc,
  λ given.
      let left = c.loop-version.invariant.1 given.0 given.1 in
      let found = c.in-Some.ensures.some in
      absurd (none_is_0 left.0 c.loop-version.left.now found.0 (omega (arith, found.1)) left.1),
)

pub loop-version-preserved : goal.loop-version-preserved
loop-version-preserved c =
    let found = c.in-Some.ensures.some in
    let left = c.loop-version.left.now in (
      λ versions others.
          c.loop-version.invariant.0 (num (take 4 left) ∷ versions) (together left versions c.are_bytes.ensures found.0 (omega (arith, found.1))
          (subst (AreVersions versions) found.2 others)),
      λ all s.
          let here = c.loop-version.invariant.1 all s in
          let t = behind here.0 left found.0 here.1 in (t.0, subst (AreVersions t.0) (sym found.2) t.1),
    )

pub returns : goal.returns
returns c =
    let left = c.loop-version.left.now in
    let short : length left < 4 = c.in_default.ensures.none refl in (
      λ empty. c.loop-version.invariant.0 [] (is_nil left (sym c.is_empty.ensures ∙ empty)),
      λ given.
          let here = c.loop-version.invariant.1 given.0 given.1 in
          c.is_empty.ensures ∙ ap (λ (bytes : List ℕ). length bytes == 0) (short_is_empty here.0 left short here.1),
    )
