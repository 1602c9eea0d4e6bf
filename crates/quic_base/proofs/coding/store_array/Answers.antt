use Rattle.std.proofs.Common.{◌+◌, arith}
use Rattle.std.proofs.lemmas.Grind.{common_steps}
use Rattle.std.proofs.lemmas.Slice.{drop-put_mid}
use Rattle.quic_base.proofs.coding.store_array.Goals as goal

pub returns-clause-front : goal.returns-clause-front
returns-clause-front g c = grind (arith, common_steps)

pub returns-clause-back : goal.returns-clause-back
returns-clause-back g c =
    drop-put_mid c.args.at _ c.args.bytes.now c.copy_from_slice.new.self (c.args.at + g.row.N) (omega arith) (omega arith) (omega arith)
