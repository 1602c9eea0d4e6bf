use Rattle.quic_fields.proofs.FrameWalks.{has_spans, lacks_spans}
use Rattle.quic_fields.proofs.frame.frame_spans.Goals as goal

pub returns-clause-ok : goal.returns-clause-ok
returns-clause-ok c = λ none.
    let w = c.walk_frame.ensures in
    has_spans c.args.payload.now c.args.room.now c.walk_frame.new.room c.walk_frame.result.count c.walk_frame.result.end
    c.walk_frame.result.fault none (λ i. (c.type_inv.payload i).fits) w.spans w.count w.end w.ends

pub returns-clause-err : goal.returns-clause-err
returns-clause-err c =
    let w = c.walk_frame.ensures in
    lacks_spans c.args.payload.now c.args.room.now c.walk_frame.new.room c.walk_frame.result.count c.walk_frame.result.end
    c.walk_frame.result.fault (λ i. (c.type_inv.payload i).fits) w.spans w.count w.end w.ends
