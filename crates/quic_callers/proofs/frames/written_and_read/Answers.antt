use Rattle.std.proofs.Common.{◌≡◌, true, false, refl, sym, ap, ◌∙◌}
use Rattle.quic_frames.specs.Meaning.{meaning_of}
use Rattle.quic_frames.specs.Shortest.{shortest_frame}
use Rattle.quic_frames.specs.Least.{as_written}
use Rattle.quic_callers.proofs.Reread.{not_empty, content_is, one_left, gives_it}
use Rattle.quic_callers.proofs.frames.written_and_read.Goals as goal

pub unreachable-requires : goal.unreachable-requires
unreachable-requires c =
    let m = meaning_of c.args.frame.now in
    let encoded = (c.read_back.ensures.one false true c.args.frame.now c.type_bounds-2.ensures c.requires.stands).0 in
    let content =
    content_is c.encode.result c.in_ok-encode.field-0 _ _ _ (shortest_frame true m) c.deref.ensures.value
    c.encode.ensures.ok c.in_ok-encode.was c.requires.empty in
    not_empty (as_written true m) (shortest_frame true m) encoded (sym content ∙ c.in_default.ensures.empty.0 refl)

pub unreachable-requires-in-None : goal.unreachable-requires-in-None
unreachable-requires-in-None c =
    let m = meaning_of c.args.frame.now in
    let encoded = (c.read_back.ensures.one false true c.args.frame.now c.type_bounds-2.ensures c.requires.stands).0 in
    let content =
    content_is c.encode.result c.in_ok-encode.field-0 _ _ _ (shortest_frame true m) c.deref.ensures.value
    c.encode.ensures.ok c.in_ok-encode.was c.requires.empty in
    let one =
    one_left (as_written true m) (shortest_frame true m) _ c.in-Ok.frames encoded content c.in-Ok.ensures.first in
    let first = gives_it (as_written true m) c.in-Ok.frames c.next.new.self c.next.result one c.next.ensures.steps in
    let given = first.1 in
    cc

pub unreachable-requires-in-Some-Err : goal.unreachable-requires-in-Some-Err
unreachable-requires-in-Some-Err c =
    let m = meaning_of c.args.frame.now in
    let encoded = (c.read_back.ensures.one false true c.args.frame.now c.type_bounds-2.ensures c.requires.stands).0 in
    let content =
    content_is c.encode.result c.in_ok-encode.field-0 _ _ _ (shortest_frame true m) c.deref.ensures.value
    c.encode.ensures.ok c.in_ok-encode.was c.requires.empty in
    let one =
    one_left (as_written true m) (shortest_frame true m) _ c.in-Ok.frames encoded content c.in-Ok.ensures.first in
    let first = gives_it (as_written true m) c.in-Ok.frames c.next.new.self c.next.result one c.next.ensures.steps in
    let given = first.1 in
    cc

pub returns : goal.returns
returns c =
    let m = meaning_of c.args.frame.now in
    let encoded = (c.read_back.ensures.one false true c.args.frame.now c.type_bounds-2.ensures c.requires.stands).0 in
    let content =
    content_is c.encode.result c.in_ok-encode.field-0 _ _ _ (shortest_frame true m) c.deref.ensures.value
    c.encode.ensures.ok c.in_ok-encode.was c.requires.empty in
    let one =
    one_left (as_written true m) (shortest_frame true m) _ c.in-Ok.frames encoded content c.in-Ok.ensures.first in
    let first = gives_it (as_written true m) c.in-Ok.frames c.next.new.self c.next.result one c.next.ensures.steps in
    let given = first.1 in
    let same : c.in-Some-Ok.read ≡ first.0 = cc in
    ap meaning_of same ∙ first.2
