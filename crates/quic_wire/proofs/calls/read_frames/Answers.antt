use Rattle.std.specs.Prelude.{◌≡◌, None, Some, false, map}
use Rattle.std.proofs.Common.{sym, ◌∙◌, Option}
use Rattle.quic_errors.specs.declared.invalid_frame.InvalidFrame.{InvalidFrame}
use Rattle.quic_frames.specs.Meaning.{meaning_of}
use Rattle.quic_wire.proofs.Again.{given_again, only_memory, payload_some, some_meanings}
use Rattle.quic_wire.proofs.calls.read_frames.Goals as goal

pub unreachable-requires : goal.unreachable-requires
unreachable-requires c =
    let again =
    c.frames_again.ensures false (map meaning_of c.args.frames.now) c.args.payload.now
    (some_meanings c.args.frames.now c.requires.some) c.requires.written in
    let given = given_again c.args.frames.now c.in-Ok.parts.0.items c.in-Ok.parts.1 c.args.payload.now again c.in-Ok.ensures.one in
    let none : (let e : Option InvalidFrame = None in e) ≡ Some c.in-Some.field-0 = sym given.0 ∙ c.in-Some.is in
    cc

pub returns-clause-again : goal.returns-clause-again
returns-clause-again c =
    let again =
    c.frames_again.ensures false (map meaning_of c.args.frames.now) c.args.payload.now
    (some_meanings c.args.frames.now c.requires.some) c.requires.written in
    (given_again c.args.frames.now c.in-Ok.parts.0.items c.in-Ok.parts.1 c.args.payload.now again c.in-Ok.ensures.one).1

pub returns-in-Err-clause-memory : goal.returns-in-Err-clause-memory
returns-in-Err-clause-memory c =
    let some = payload_some (map meaning_of c.args.frames.now) c.args.payload.now
    (some_meanings c.args.frames.now c.requires.some) c.requires.written in
    only_memory c.args.payload.now c.in-Err.e c.in-Err.ensures.empty some
