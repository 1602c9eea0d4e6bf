use Rattle.std.proofs.Common.{◌≡◌, ◌-◌, length, rules, subst, sym, to_z, of_z, w32}
use Rattle.std.specs.Prelude.{◌≢◌, ℤ, pos}
use borrow.Rule.Slice.PartMut.{put_mid, mid_of}
use Rattle.quic_base.specs.One.{ReturnsOne}
use Rattle.quic_frames.specs.Rules.{IsCheckedOf}
use Rattle.quic_c_words.specs.Shown.{rules_in}
use Rattle.quic_c.specs.Walks.{ShowsRun, StoresFrames}
use Rattle.quic_c.proofs.Walking.{put_behind, walking_first, walking_more, first_stops, more_stops, stores_full}
use Rattle.quic_c.proofs.walks.walk_fill.Goals as goal

pub loop-count-init : goal.loop-count-init
loop-count-init c =
    let s = c.quic_wire_frames_first_-first in
    let begun : s.result ≡ pos 1 = search rules in
    let f = s.ensures.answers.frames begun in
    walking_first c.args.flags c.args.payload.now c.args.out.now s.new.frames s.new.out s.new.count f.2 f.1 (search rules)

pub loop-count-preserved : goal.loop-count-preserved
loop-count-preserved c =
    let here = c.loop-count in
    let s = c.quic_wire_frames_fill_-last in
    let one : s.result ≡ pos 1 = search rules in
    let behind = put_behind here.out here.count s.new.out here.invariant.few (search rules) in
    walking_more c.args.flags c.args.payload.now c.args.out.now here.frames s.new.frames here.out
    (mid_of here.count (length here.out - here.count) here.out) s.new.out
    (put_mid here.count (length here.out - here.count) here.out s.new.out) here.count s.new.count here.invariant behind
    (s.ensures.answers.frames one).1 s.ensures.answers.flags

pub returns-then-first-ne1-clause-one : goal.returns-then-first-ne1-clause-one
returns-then-first-ne1-clause-one c = λ some room.
    let s = c.quic_wire_frames_first_-first in
    let stops : s.result ≢ pos 1 = search rules in
    let count : to_z w32 (of_z w32 s.result) ≡ s.result = search rules in
    subst (λ (z : ℤ). ReturnsOne (IsCheckedOf (rules_in c.args.flags) c.args.payload.now)
    (StoresFrames (ShowsRun (rules_in c.args.flags).short_types c.args.payload.now) c.args.out.now s.new.count z s.new.out))
    (sym count)
    (first_stops c.args.flags c.args.payload.now _ s.new.frames c.args.out.now s.new.out s.new.count s.result
    c.lasting.ensures.frames c.one_reading.ensures.one c.checked_readings.ensures.one c.are_bytes.ensures some room
    s.ensures.answers stops)

pub returns-then-last-ne1-clause-one : goal.returns-then-last-ne1-clause-one
returns-then-last-ne1-clause-one c = λ _ _.
    let here = c.loop-count in
    let s = c.quic_wire_frames_fill_-last in
    let stops : s.result ≢ pos 1 = search rules in
    let count : to_z w32 (of_z w32 s.result) ≡ s.result = search rules in
    let stored = put_mid here.count (length here.out - here.count) here.out s.new.out in
    let behind = put_behind here.out here.count s.new.out here.invariant.few (search rules) in
    subst (λ (z : ℤ). ReturnsOne (IsCheckedOf (rules_in c.args.flags) c.args.payload.now)
    (StoresFrames (ShowsRun (rules_in c.args.flags).short_types c.args.payload.now) c.args.out.now here.count z stored))
    (sym count)
    (more_stops c.args.flags c.args.payload.now c.args.out.now here.frames s.new.frames here.out
    (mid_of here.count (length here.out - here.count) here.out) s.new.out stored here.count s.new.count _ s.result
    c.lasting.ensures.frames c.one_reading.ensures.one c.checked_readings.ensures.one c.are_bytes.ensures here.invariant
    c.loop-count-test.true behind s.ensures.answers stops)

pub returns-clause-one : goal.returns-clause-one
returns-clause-one c = λ _ _.
    let here = c.loop-count in
    stores_full (ShowsRun (rules_in c.args.flags).short_types c.args.payload.now) c.args.flags c.args.payload.now
    c.args.out.now here.frames here.out here.count c.lasting.ensures.frames c.one_reading.ensures.one
    c.checked_readings.ensures.one c.are_bytes.ensures here.invariant (search rules)
