use Rattle.std.proofs.Common.{rules}
use Rattle.quic_crypto.proofs.toy.ToyPacketKeyPacketKey.decrypt.Goals as goal

pub returns : goal.returns
returns c = search rules
