use Rattle.quic_base.proofs.Encoders.{wrote_first}
use Rattle.quic_frame_fields.proofs.AckParts.{flushes_held, keeps_held}
use Rattle.quic_frame_fields.proofs.frame.ack_encode.make_room.Goals as goal

pub returns-then-at-clause-flushes : goal.returns-then-at-clause-flushes
returns-then-at-clause-flushes g c = keeps_held c.args.at c.args.chunk.now _ _

pub returns-clause-flushes : goal.returns-clause-flushes
returns-clause-flushes g c =
    flushes_held c.args.at c.args.chunk.now _ _ _ _ (wrote_first c.bytes.result _ _ _ _ _ c.bytes.ensures c.in_ok-bytes.was)
