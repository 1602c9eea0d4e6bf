use Rattle.std.proofs.Common.{sym, ◌∙◌}
use Rattle.quic_base.proofs.Codecs.{on_err}
use Rattle.quic_base.proofs.Numbers.{takes_number, no_number, from_be_2}
use Rattle.quic_base.proofs.coding.U16Codec.decode.Goals as goal

pub returns-clause-ok : goal.returns-clause-ok
returns-clause-ok g c =
    let read = c.in_ok-get_array.ensures in
    takes_number 2 _ _ c.in_ok-get_array.field-0 _ read.ok read.width read.bytes
    (sym (from_be_2 _ read.width) ∙ sym c.from_be_bytes.ensures)

pub returns-in_err-get_array-clause-cut : goal.returns-in_err-get_array-clause-cut
returns-in_err-get_array-clause-cut g c = on_err c.from_residual.result (no_number 2 _ c.in_err-get_array.ensures.cut)
