use Rattle.std.proofs.Common.{refl, rules}
use Rattle.quic_base.specs.Number.{bytes_of}
use Rattle.quic_base.proofs.Encoders.{put_writes}
use Rattle.quic_base.proofs.Numbers.{is_number_4}
use Rattle.quic_base.proofs.coding.U32Codec.encode.Goals as goal

pub returns : goal.returns
unfolding bytes_of
returns g c =
    let x =
    put_writes c.put_u32.result c.map_err.result (bytes_of 4 c.args.self.now) _ _ _ _ 4 c.put_u32.ensures.ok
    c.put_u32.ensures.err c.put_u32.ensures.spare c.map_err.ensures.variant refl in
    record { encoded = is_number_4 c.args.self.now (search rules); ok = x.ok; err = x.err; full = x.full; room = x.room }
