use Rattle.std.specs.Prelude.{◌-◌, drop, vec_capacity, vec_len}
use Rattle.quic_packets.specs.Sealing.{payload_of}
use Rattle.quic_wire.proofs.Written.{HasPut}
use Rattle.quic_wire.proofs.calls.write_payload.Given as goal

abbrev pub invariant-loop-i : goal.invariant-loop-i
invariant-loop-i l =
    HasPut (payload_of l.fn.frames) (payload_of (drop l.i l.fn.frames)) l.fn.out.items l.out.items
    (vec_capacity l.fn.out - vec_len l.fn.out) (vec_capacity l.out - vec_len l.out)
