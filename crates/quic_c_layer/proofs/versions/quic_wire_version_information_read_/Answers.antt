-- The available versions are behind the first four bytes.
use Rattle.std.proofs.Common.{refl}
use Rattle.quic_versions.proofs.Lists.{apart}
use Rattle.quic_c_layer.proofs.versions.quic_wire_version_information_read_.Goals as goal

pub returns-in-Some-clause-read : goal.returns-in-Some-clause-read
returns-in-Some-clause-read c = λ _.
    let found = c.in-Some.ensures.some in
    (found.0, found.1, (apart c.in-Some.chosen found.0 c.args.value.now found.1).others)

pub returns-in-None-clause-none : goal.returns-in-None-clause-none
returns-in-None-clause-none c = λ _ chosen available s. c.in-None.ensures.none refl chosen available s
