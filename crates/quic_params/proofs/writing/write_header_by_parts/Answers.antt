use Rattle.std.proofs.Common.{refl}
use Rattle.quic_params.proofs.Written.{refused_first, then_last}
use Rattle.quic_params.proofs.writing.write_header_by_parts.Goals as goal

pub returns-in_err-write_var : goal.returns-in_err-write_var
returns-in_err-write_var g c =
    let e = c.write_var.ensures in
    refused_first _ c.write_var.result _ _ _ _ _ _ _ _ _ refl
    (record { ok = e.ok; err = e.err; full = e.full; room = e.room }) c.in_err-write_var.was c.from_residual.ensures.1

pub returns : goal.returns
returns g c =
    let e = c.write_var.ensures in
    let f = c.write_var-2.ensures in
    then_last c.write_var.result c.write_var-2.result _ _ _ _ _ _ _ _ _ refl
    (record { ok = e.ok; err = e.err; full = e.full; room = e.room })
    c.in_ok-write_var.was (record { ok = f.ok; err = f.err; full = f.full; room = f.room })
