-- By the laws of what is written and of one least payload.
use Rattle.std.proofs.Common.{◌≡◌, ◌∙◌, map, true, refl}
use Rattle.quic_frames.specs.Meaning.{meaning_of}
use Rattle.quic_bench.proofs.RowOfOne.{are_some, canonical_same, reported_same}
use Rattle.quic_bench.proofs.sealed.is_canonical.Goals as goal

pub returns-in-Ok : goal.returns-in-Ok
returns-in-Ok c =
    let least =
    c.written_is_least.ensures (map meaning_of c.args.frames.now) c.args.payload.now
    (are_some c.args.frames.now c.requires.some) c.requires.written in
    let same =
    canonical_same c.args.payload.now c.in-Ok.canonical c.in-Ok.ensures.ok least c.one_least.ensures.unique in
    let reported : c.eq.result ≡ true = c.eq.ensures ∙ reported_same _ _ _ _ c.bytes.ensures refl same in
    cc

pub returns-in-Err : goal.returns-in-Err
returns-in-Err c =
    let least =
    c.written_is_least.ensures (map meaning_of c.args.frames.now) c.args.payload.now
    (are_some c.args.frames.now c.requires.some) c.requires.written in
    absurd (let never = c.in-Err.ensures.same least in cc)
