use Rattle.std.proofs.Common.{◌+◌, ◌-◌, ◌≤◌, drop, arith}
use Rattle.std.proofs.lemmas.List.{length-take}
use Rattle.quic_c_runs.proofs.Moving.{made_at_front}
use Rattle.quic_c_runs.proofs.moves.make_at_front.Goals as goal

pub returns-clause-made : goal.returns-clause-made
returns-clause-made c =
    let in' = c.requires.fits.within in
    let set = c.args.set.now in
    let len = c.len-len.ensures.count in
    let room = c.requires.room in
    let some : c.args.change.to ≤ set.count = omega (arith, in', length-take set.count (drop set.first c.args.runs.now)) in
    made_at_front c.args.runs.now c.write.new.runs set c.args.change (set.first + c.args.change.to - c.len-len.result)
    (set.count - c.args.change.to + c.len-len.result) c.requires.within c.requires.fits c.requires.first
    (omega (arith, len, room)) (omega (arith, len, some)) c.write.ensures

pub returns-clause-end : goal.returns-clause-end
returns-clause-end c =
    let in' = c.requires.fits.within in
    let set = c.args.set.now in
    let len = c.len-len.ensures.count in
    let room = c.requires.room in
    let some : c.args.change.to ≤ set.count = omega (arith, in', length-take set.count (drop set.first c.args.runs.now)) in
    omega (arith, len, room, some)
