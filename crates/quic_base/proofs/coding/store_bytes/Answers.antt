use Rattle.std.proofs.Common.{arith}
use Rattle.std.proofs.lemmas.Slice.{drop-put_mid}
use Rattle.quic_base.proofs.coding.store_bytes.Goals as goal

pub returns-clause-back : goal.returns-clause-back
returns-clause-back c =
    drop-put_mid c.args.at _ c.args.dest.now c.copy_from_slice.new.self _ (omega arith) (omega arith) (omega arith)
