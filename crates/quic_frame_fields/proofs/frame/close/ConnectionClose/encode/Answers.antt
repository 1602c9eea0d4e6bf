use Rattle.std.proofs.Common.{◌≡◌, ◌-◌, take, sym, ap, ◌∙◌}
use Rattle.quic_frame_fields.specs.Shortest.{least_room}
use Rattle.quic_frame_fields.specs.declared.frame.close.Close.TheVariants as closes
use Rattle.quic_frame_fields.proofs.frame.close.ConnectionClose.encode.Goals as goal

pub returns-clause-writes : goal.returns-clause-writes
returns-clause-writes g c last =
    let kept : take (c.args.max_len - least_room (closes.Connection c.args.self.now)) c.args.self.now.reason.now ≡ c.cut.result.now =
    sym (c.cut.ensures.value ∙ ap (λ n. take (c.args.max_len - n) c.args.self.now.reason.now) c.min_len.ensures) in
    rw kept (c.encode_with.ensures last)
