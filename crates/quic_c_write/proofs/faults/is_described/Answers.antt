use Rattle.std.proofs.Common.{rules, sym, ◌∙◌}
use Rattle.std.specs.Prelude.{◌==◌}
use Rattle.quic_c_write.specs.Shapes.{AreDataAndToken, FillsShape, LacksDataOrToken}
use Rattle.quic_c_write.proofs.FirstFaults.{described, no_lack}
use Rattle.quic_c_write.proofs.faults.is_described.Goals as goal

pub returns-in_default : goal.returns-in_default
returns-in_default c = λ only.
    let sound = c.requires.sound only.only in
    let lacks : LacksDataOrToken c.args.words.now c.args.payload.now = search rules in
    absurd (no_lack c.args.words.now c.args.payload.now (λ h. sym c.requires.whole ∙ sound.data_there h)
    (λ h. sym (c.requires.token h) ∙ sound.token_there h) lacks)

pub returns : goal.returns
returns c = λ only.
    let words = c.args.words.now in
    let there : AreDataAndToken words c.args.payload.now c.in-Some.bytes.now c.in-Some.token.now = search rules in
    let fills : FillsShape words.kind (words.flags == 1) words.numbers c.in-Some.bytes.now c.in-Some.token.now
    c.in-Some-frame_of.frame =
    search rules in (
      c.in-Some-frame_of.frame,
      described words c.args.payload.now c.in-Some.bytes.now c.in-Some.token.now c.args.whole c.args.token c.args.last
          c.in-Some-frame_of.frame only (c.requires.sound only.only) there fills c.type_bounds-2.ensures,
    )
