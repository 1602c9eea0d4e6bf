use Rattle.std.proofs.Common.{sym}
use Rattle.quic_base.specs.Number.{bytes_of}
use Rattle.quic_frames.proofs.frame.body.path_body.Goals as goal

pub returns : goal.returns
unfolding bytes_of
returns c = rw (sym c.to_be_bytes.ensures) c.numbers_and_bytes.ensures
