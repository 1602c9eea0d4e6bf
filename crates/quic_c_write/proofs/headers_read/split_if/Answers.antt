use Rattle.std.proofs.Common.{◌≡◌, Bool, true, rules}
use Rattle.quic_c_write.proofs.HeaderNumbers.{cut_if}
use Rattle.quic_c_write.proofs.headers_read.split_if.Goals as goal

pub returns-in-Err-clause-cut : goal.returns-in-Err-clause-cut
returns-in-Err-clause-cut c =
    let is : ◌≡◌ {A = Bool} c.args.is_written true = search rules in
    λ e. cut_if c.args.is_written c.args.bytes.now is c.in-Err.ensures.read
