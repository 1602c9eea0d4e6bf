use Rattle.std.proofs.Common.{◌≡◌, ap, rules, set, subst, sym, to_z, of_z, w32}
use Rattle.std.specs.Prelude.{◌≢◌, ℤ, pos}
use Rattle.std.proofs.lemmas.List.{set-get_or}
use Rattle.quic_base.specs.One.{ReturnsOne}
use Rattle.quic_frames.specs.Rules.{IsCheckedOf}
use Rattle.quic_c_words.specs.declared.words.CFrameIter.{CFrameIter}
use Rattle.quic_c_words.specs.Shown.{rules_in}
use Rattle.quic_c.specs.Walks.{ShowsFrame, StoresFrames}
use Rattle.quic_c.proofs.Walking.{walking_begins, walking_next, walking_stops, stores_full}
use Rattle.quic_c.proofs.walks.walk_next.Goals as goal

pub loop-count-init : goal.loop-count-init
loop-count-init c =
    let s = c.quic_wire_frames_init_-begun in
    let begun : s.result ≡ pos 0 = search rules in
    walking_begins (ShowsFrame (rules_in c.args.flags).short_types c.args.payload.now) c.args.flags c.args.payload.now
    c.args.out.now s.new.frames (ap (λ (f : CFrameIter). f.flags) (s.ensures.front begun)) (s.ensures.first begun)

pub loop-count-preserved : goal.loop-count-preserved
loop-count-preserved c =
    let here = c.loop-count in
    let s = c.quic_wire_frames_next_-last in
    let one : s.result ≡ pos 1 = search rules in
    walking_next c.args.flags c.args.payload.now c.args.out.now here.frames s.new.frames here.out here.count s.new.out
    here.invariant c.loop-count-test.true (s.ensures.returns.frame one) s.ensures.returns.flags

pub returns-then-last-ne1-clause-one : goal.returns-then-last-ne1-clause-one
returns-then-last-ne1-clause-one c = λ _.
    let here = c.loop-count in
    let s = c.quic_wire_frames_next_-last in
    let stops : s.result ≢ pos 1 = search rules in
    let count : to_z w32 (of_z w32 s.result) ≡ s.result = search rules in
    subst (λ (z : ℤ). ReturnsOne (IsCheckedOf (rules_in c.args.flags) c.args.payload.now)
    (StoresFrames (ShowsFrame (rules_in c.args.flags).short_types c.args.payload.now) c.args.out.now here.count z (set here.out here.count s.new.out)))
    (sym count)
    (walking_stops (ShowsFrame (rules_in c.args.flags).short_types c.args.payload.now) c.args.flags c.args.payload.now
    c.args.out.now here.frames s.new.frames here.out here.count _ s.new.out s.result c.lasting.ensures.frames
    c.one_reading.ensures.one c.checked_readings.ensures.one c.are_bytes.ensures here.invariant c.loop-count-test.true
    s.ensures.returns stops (set-get_or here.out here.count _))

pub returns-clause-one : goal.returns-clause-one
returns-clause-one c = λ _.
    let here = c.loop-count in
    stores_full (ShowsFrame (rules_in c.args.flags).short_types c.args.payload.now) c.args.flags c.args.payload.now
    c.args.out.now here.frames here.out here.count c.lasting.ensures.frames c.one_reading.ensures.one
    c.checked_readings.ensures.one c.are_bytes.ensures here.invariant (search rules)
