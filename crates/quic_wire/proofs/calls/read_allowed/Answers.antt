use Rattle.std.specs.Prelude.{◌≡◌, None, Some, map}
use Rattle.std.proofs.Common.{sym, subst, ◌∙◌, Option}
use Rattle.quic_base.specs.One.{ReturnsOne}
use Rattle.quic_errors.specs.declared.invalid_frame.InvalidFrame.{InvalidFrame}
use Rattle.quic_frames.specs.Meaning.{meaning_of}
use Rattle.quic_frames.specs.Rules.{IsCheckedOf}
use Rattle.quic_frames.specs.declared.frame.rules.Rules.{Rules}
use Rattle.quic_wire.specs.Reading.{IsReturnedUnder}
use Rattle.quic_wire.proofs.Again.{only_memory, payload_some, some_meanings}
use Rattle.quic_wire.proofs.RfcReads.{read_again}
use Rattle.quic_wire.proofs.calls.read_allowed.Goals as goal

pub unreachable-requires : goal.unreachable-requires
unreachable-requires c =
    let frames = map meaning_of c.args.frames.now in
    let again =
    c.rfc_frames_again.ensures.written c.args.negotiated frames c.args.payload.now
    (some_meanings c.args.frames.now c.requires.some) c.requires.allowed c.requires.written in
    let one =
    subst (λ (r : Rules). ReturnsOne (IsCheckedOf r c.args.payload.now)
    (IsReturnedUnder c.in-Ok.parts.0.items c.in-Ok.parts.1)) c.rules_of.ensures c.in-Ok.ensures.one in
    let given =
    read_again c.args.negotiated c.args.payload.now frames c.in-Ok.parts.0.items c.in-Ok.parts.1 again one in
    let none : (let e : Option InvalidFrame = None in e) ≡ Some c.in-Some.field-0 = sym given.0 ∙ c.in-Some.is in
    cc

pub returns-clause-again : goal.returns-clause-again
returns-clause-again c =
    let frames = map meaning_of c.args.frames.now in
    let again =
    c.rfc_frames_again.ensures.written c.args.negotiated frames c.args.payload.now
    (some_meanings c.args.frames.now c.requires.some) c.requires.allowed c.requires.written in
    let one =
    subst (λ (r : Rules). ReturnsOne (IsCheckedOf r c.args.payload.now)
    (IsReturnedUnder c.in-Ok.parts.0.items c.in-Ok.parts.1)) c.rules_of.ensures c.in-Ok.ensures.one in
    (read_again c.args.negotiated c.args.payload.now frames c.in-Ok.parts.0.items c.in-Ok.parts.1 again one).1

pub returns-in-Err-clause-memory : goal.returns-in-Err-clause-memory
returns-in-Err-clause-memory c =
    let some = payload_some (map meaning_of c.args.frames.now) c.args.payload.now
    (some_meanings c.args.frames.now c.requires.some) c.requires.written in
    only_memory c.args.payload.now c.in-Err.e c.in-Err.ensures.empty some
