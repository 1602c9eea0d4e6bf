use Rattle.std.proofs.Common.{arith}
use Rattle.quic_base.proofs.PublicLaws.{size_small}
use Rattle.quic_frame_fields.proofs.frame.ack_encode.store_two.Goals as goal

pub store_var-at-requires-clause-room : goal.store_var-at-requires-clause-room
store_var-at-requires-clause-room c = omega (arith, c.requires.room, size_small c.args.gap)

pub store_var-requires-clause-room : goal.store_var-requires-clause-room
store_var-requires-clause-room c = omega (arith, c.requires.room, size_small c.args.gap, size_small c.args.len)
