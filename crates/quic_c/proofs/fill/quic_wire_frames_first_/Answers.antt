use Rattle.std.proofs.Common.{◌≡◌, ◌<◌, length, rules, subst, sym, to_z, of_z, w32}
use Rattle.std.specs.Prelude.{ℤ}
use Rattle.quic_c.specs.Filling.{AnswersFirst}
use Rattle.quic_c.proofs.FillSteps.{first_filled}
use Rattle.quic_c.proofs.fill.quic_wire_frames_first_.Goals as goal

pub returns : goal.returns
returns c =
    let f = c.fill in
    let some : 0 < length c.args.payload.now = search rules in
    let room : 0 < length c.args.out.now = search rules in
    let count : to_z w32 (of_z w32 f.result) ≡ f.result = search rules in
    let answers = first_filled c.args.flags c.args.payload.now c.args.frames.now c.args.out.now c.args.count.now f.result
    f.new.frames f.new.out f.new.count f.ensures some room in
    record {
      answers = subst (λ (z : ℤ). AnswersFirst c.args.flags c.args.payload.now c.args.frames.now c.args.out.now
          c.args.count.now z f.new.frames f.new.out f.new.count) (sym count) answers;
    }
