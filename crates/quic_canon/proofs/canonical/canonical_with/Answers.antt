use Rattle.std.proofs.Common.{[], None, ap, rules, sym, ◌∙◌}
use Rattle.std.specs.Prelude.{◌≢◌, false}
use Rattle.quic_frames.specs.Walk.{reported_of}
use Rattle.quic_canon.proofs.ByRules.{refused_by}
use Rattle.quic_canon.proofs.canonical.canonical_with.Goals as goal

pub returns-in-None-clause-err : goal.returns-in-None-clause-err
returns-in-None-clause-err c =
    let found = c.first_error.ensures in
    let some : c.args.payload.now ≢ [] = search rules in
    refused_by c.args.rules c.args.payload.now found.one.it
    (c.one_reading.ensures.one false None c.args.payload.now c.are_bytes.ensures) c.one_reading.ensures.relaxed some
    found.one.is (sym found.returned ∙ ap reported_of c.in-None.is) c.canonical.result c.canonical.ensures.err
