use Rattle.std.proofs.Common.{◌≤◌, ◌<◌, arith, sym, ap, subst}
use Rattle.quic_frame_fields.specs.Reading.{frame_at, in_row, row_at}
use Rattle.quic_frames.specs.Found.{GivesFrame}
use Rattle.quic_frame_fields.proofs.Rows.{row_of_stream}
use Rattle.std.proofs.lemmas.Grind.{common_steps}
use Rattle.quic_frames.proofs.frame.reading.read_frame.Goals as goal

pub returns-in-8-to-15 : goal.returns-in-8-to-15
unfolding frame_at
returns-in-8-to-15 c =
    let low : 8 ≤ c.args.ty = omega arith in
    let high : c.args.ty < 16 = omega arith in
    let e = sym (ap (λ r. in_row r c.args.bytes.now) (row_of_stream c.args.ty low high)) in
    subst (λ read. GivesFrame (λ rest. rest.now) c.args.bytes.now c.read_stream.result read) e c.read_stream.ensures

pub returns-in-2 : goal.returns-in-2
unfolding frame_at row_at
returns-in-2 c = grind (arith, common_steps)

pub returns-in-48 : goal.returns-in-48
unfolding frame_at row_at
returns-in-48 c = grind (arith, common_steps)
