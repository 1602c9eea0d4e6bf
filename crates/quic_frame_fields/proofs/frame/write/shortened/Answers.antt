use Rattle.std.proofs.Common.{◌≡◌, ℕ, List, length, subst, arith}
use Rattle.quic_base.specs.Writing.{Writes}
use Rattle.quic_frame_fields.specs.Numbers.{shortest_varints}
use Rattle.quic_frame_fields.proofs.Encoded.{short_already}
use Rattle.quic_frame_fields.proofs.frame.write.shortened.Goals as goal

pub returns-then-len-encoded : goal.returns-then-len-encoded
returns-then-len-encoded g c ns s =
    let same : length c.args.encoded.now ≡ length (shortest_varints ns) =
    omega (arith, c.if-len-encoded.true, c.requires ns s) in
    subst (λ (bytes : List ℕ). Writes c.bytes.result bytes (g.B.BufMut.written c.args.out.now)
    (g.B.BufMut.spare c.args.out.now) (g.B.BufMut.written c.bytes.new.out) (g.B.BufMut.spare c.bytes.new.out))
    ((short_already ns c.args.encoded.now s).1 same) c.bytes.ensures
