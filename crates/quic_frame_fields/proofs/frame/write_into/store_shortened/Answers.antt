use Rattle.std.proofs.Common.{◌≡◌, ℕ, List, length, subst, arith}
use Rattle.quic_frame_fields.specs.Numbers.{shortest_varints}
use Rattle.quic_frame_fields.specs.Putting.{Stores}
use Rattle.quic_frame_fields.proofs.Encoded.{short_already}
use Rattle.quic_frame_fields.proofs.frame.write_into.store_shortened.Goals as goal

pub returns-then-len-encoded-clause-stores : goal.returns-then-len-encoded-clause-stores
returns-then-len-encoded-clause-stores c ns s =
    let same : length c.args.encoded.now ≡ length (shortest_varints ns) =
    omega (arith, c.if-len-encoded.true, c.requires.shortens.long ns s) in
    let e = c.store_bytes.ensures in
    subst (λ (bytes : List ℕ). Stores bytes c.args.at c.args.dest.now c.store_bytes.result c.store_bytes.new.dest)
    ((short_already ns c.args.encoded.now s).1 same) (record { count = e.end; front = e.front; back = e.back })
