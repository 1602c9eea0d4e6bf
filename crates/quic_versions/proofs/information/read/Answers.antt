use Rattle.std.proofs.Common.{◌≡◌, ◌∷◌, true}
use Rattle.quic_versions.proofs.Lists.{read_is}
use Rattle.quic_versions.proofs.information.read.Goals as goal

pub returns-then-are_versions-clause-some : goal.returns-then-are_versions-clause-some
returns-then-are_versions-clause-some c =
    let given = c.are_versions.ensures.0 c.if-are_versions.true in
    read_is given.0 c.args.value.now c.word.result given.1 c.word.ensures.some

pub returns-else-are_versions-clause-none : goal.returns-else-are_versions-clause-none
returns-else-are_versions-clause-none c = λ none chosen available s.
    let told : c.are_versions.result ≡ true = c.are_versions.ensures.1 (chosen ∷ available, s) in
    absurd (cc (told, c.if-are_versions.false))
