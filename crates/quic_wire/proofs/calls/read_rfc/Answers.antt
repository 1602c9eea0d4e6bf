use Rattle.std.proofs.Common.{[], subst}
use Rattle.std.specs.Prelude.{◌≢◌}
use Rattle.quic_base.specs.One.{ReturnsOne}
use Rattle.quic_frames.specs.Rules.{IsCheckedOf}
use Rattle.quic_frames.specs.declared.frame.rules.Rules.{Rules}
use Rattle.quic_wire.specs.Reading.{IsReturnedUnder}
use Rattle.quic_wire.proofs.RfcReads.{read_by_rfc}
use Rattle.quic_wire.proofs.calls.read_rfc.Goals as goal

pub returns-clause-read : goal.returns-clause-read
returns-clause-read c =
    let some : c.args.payload.now ≢ [] = λ none. let told = c.in-Ok.ensures.empty.1 none in cc in
    read_by_rfc c.args.negotiated c.args.payload.now c.in-Ok.parts.0.items c.in-Ok.parts.1 some
    (subst (λ (r : Rules). ReturnsOne (IsCheckedOf r c.args.payload.now)
    (IsReturnedUnder c.in-Ok.parts.0.items c.in-Ok.parts.1)) c.rules_of.ensures c.in-Ok.ensures.one)
