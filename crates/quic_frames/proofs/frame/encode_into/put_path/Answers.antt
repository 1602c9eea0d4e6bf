use Rattle.std.proofs.Common.{sym}
use Rattle.std.proofs.lemmas.List.{append-nil}
use Rattle.quic_base.specs.Number.{bytes_of}
use Rattle.quic_base.specs.Varint.{shortest_varint}
use Rattle.quic_frames.proofs.frame.encode_into.put_path.Goals as goal

pub returns : goal.returns
unfolding bytes_of
returns c = rw (sym (append-nil (shortest_varint c.args.ty)), sym c.to_be_bytes.ensures) c.numbers_and_bytes.ensures
