-- The other versions are behind the first four bytes.
use Rattle.std.proofs.Common.{ℕ, List, subst}
use Rattle.quic_versions.specs.Versions.{AreVersions}
use Rattle.quic_versions.proofs.Lists.{apart}
use Rattle.quic_c_layer.proofs.versions.quic_wire_version_split_.Goals as goal

pub returns-in-Some-clause-some : goal.returns-in-Some-clause-some
returns-in-Some-clause-some c = λ list s _.
    let bytes : List ℕ = c.args.versions.now in
    let found = c.in-Some.ensures.some list s in
    let all = subst (λ (l : List ℕ). AreVersions l bytes) found.1 s in
    (found.0, found.1, (apart c.in-Some.version found.0 bytes all).others)
