use Rattle.std.proofs.Common.{arith}
use Rattle.quic_base.proofs.PublicLaws.{length-short}
use Rattle.quic_frame_fields.proofs.Varints.{varint_found, varint_none}
use Rattle.quic_frame_fields.proofs.Encoded.{after_shorter, after_fits, read_more, read_all}
use Rattle.quic_frame_fields.proofs.Putting.{StoredThem, stored_one, room_for_one}
use Rattle.std.proofs.lemmas.Grind.{common_steps}
use Rattle.quic_frame_fields.proofs.frame.write_into.store_each.Goals as goal

pub store_var-at-requires-clause-room : goal.store_var-at-requires-clause-room
store_var-at-requires-clause-room c =
    let i = c.loop-number.invariant in
    let room =
    room_for_one c.args.encoded.now c.loop-number.rest.now c.in-Ok.after.now c.args.dest.now c.loop-number.dest
    c.in-Ok.number c.args.len c.args.at c.loop-number.at i.fits c.requires.shortens i.read
    (varint_found _ _ c.in-Ok.ensures.found) in
    omega (arith, room, c.requires.room, length-short c.in-Ok.number)

pub loop-number-smaller : goal.loop-number-smaller
loop-number-smaller c =
    after_shorter c.loop-number.rest.now c.in-Ok.number c.in-Ok.after.now c.loop-number.invariant.fits (varint_found _ _ c.in-Ok.ensures.found)

pub loop-number-preserved : goal.loop-number-preserved
loop-number-preserved c =
    let e = c.store_var-at.ensures in
    let i = c.loop-number.invariant in
    let n = c.in-Ok.number in
    record {
      read = λ ns s.
          read_more _ _ c.loop-number.rest.now ns n c.in-Ok.after.now i.fits (i.read ns s) (varint_found _ _ c.in-Ok.ensures.found)
          (stored_one n c.args.at c.loop-number.at _ c.args.dest.now c.loop-number.dest c.store_var-at.new.bytes
          (record { count = rw (length-short n) e.end; front = e.front; back = e.back }));
      fits = after_fits c.loop-number.rest.now n c.in-Ok.after.now i.fits (varint_found _ _ c.in-Ok.ensures.found);
    }

pub returns-clause-stores : goal.returns-clause-stores
returns-clause-stores c ns s =
    read_all (StoredThem c.args.at c.args.dest.now c.loop-number.at c.loop-number.dest) c.loop-number.rest.now ns _
    (c.loop-number.invariant.read ns s) (varint_none _ c.in_default.ensures.found)

pub loop-number-init : goal.loop-number-init
loop-number-init c = grind (arith, common_steps)
