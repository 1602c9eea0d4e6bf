use Rattle.quic_frame_fields.proofs.Encoding.{crypto_parts}
use Rattle.quic_frame_fields.proofs.frame.Crypto.encode.Goals as goal

pub returns : goal.returns
returns g c =
    λ last. rw (crypto_parts last c.args.self.now.offset c.args.self.now.bytes.now) c.numbers_and_bytes.ensures
