use Rattle.std.proofs.Common.{◌+◌, drop, refl, arith}
use Rattle.std.proofs.lemmas.List.{length-drop}
use Rattle.quic_frame_fields.proofs.Varints.{varint_found, varint_none}
use Rattle.quic_frame_fields.proofs.Encoded.{AreCounted, read_all, after_shorter, after_fits, after_least, drop_fits, read_behind, ones_counted, more_counted}
use Rattle.quic_frame_fields.proofs.frame.write.count_and_len.Goals as goal

pub returns-in_default-clause-count : goal.returns-in_default-clause-count
returns-in_default-clause-count c ns s =
    let i = c.loop-number.invariant in
    let n = c.ones-n.result in
    let rest = c.loop-number.rest.now in
    let r =
    ones_counted n rest c.loop-number.count c.loop-number.len (c.loop-number.count + n) (c.loop-number.len + n) ns
    i.fits c.ones-n.ensures.within c.ones-n.ensures.ones refl refl (i.read ns s) in
    (read_all (AreCounted (c.loop-number.count + n) (c.loop-number.len + n)) (drop n rest) ns _ r
    (read_behind n rest _ (varint_none _ c.in_default.ensures.found))).many

pub returns-in_default-clause-len : goal.returns-in_default-clause-len
returns-in_default-clause-len c ns s =
    let i = c.loop-number.invariant in
    let n = c.ones-n.result in
    let rest = c.loop-number.rest.now in
    let r =
    ones_counted n rest c.loop-number.count c.loop-number.len (c.loop-number.count + n) (c.loop-number.len + n) ns
    i.fits c.ones-n.ensures.within c.ones-n.ensures.ones refl refl (i.read ns s) in
    (read_all (AreCounted (c.loop-number.count + n) (c.loop-number.len + n)) (drop n rest) ns _ r
    (read_behind n rest _ (varint_none _ c.in_default.ensures.found))).long

pub loop-number-smaller : goal.loop-number-smaller
loop-number-smaller c =
    let n = c.ones-n.result in
    let rest = c.loop-number.rest.now in
    let lt =
    after_shorter (drop n rest) c.in-Ok.number c.in-Ok.after.now (drop_fits n rest c.loop-number.invariant.fits)
    (read_behind n rest _ (varint_found _ _ c.in-Ok.ensures.found)) in
    omega (arith, lt, length-drop n rest)

pub loop-number-preserved : goal.loop-number-preserved
loop-number-preserved c =
    let i = c.loop-number.invariant in
    let n = c.ones-n.result in
    let rest = c.loop-number.rest.now in
    let number = c.in-Ok.number in
    let after = c.in-Ok.after.now in
    let fits = drop_fits n rest i.fits in
    let gives = read_behind n rest _ (varint_found _ _ c.in-Ok.ensures.found) in
    let lt = after_shorter (drop n rest) number after fits gives in
    let least = after_least (drop n rest) number after fits gives in
    let within = c.ones-n.ensures.within in
    let more = c.var_size.ensures.value in
    record {
      read = λ ns s.
          let r =
          ones_counted n rest c.loop-number.count c.loop-number.len (c.loop-number.count + n)
          (c.loop-number.len + n) ns i.fits within c.ones-n.ensures.ones refl refl (i.read ns s) in
          more_counted (drop n rest) (c.loop-number.count + n) (c.loop-number.len + n) number c.var_size.result _ _ after
          ns fits gives more (omega arith) (omega arith) r;
      few = let few = i.few in omega (arith, lt, few, within, length-drop n rest);
      small = let small = i.small in omega (arith, least, small, within, more, length-drop n rest);
      fits = after_fits (drop n rest) number after fits gives;
    }
