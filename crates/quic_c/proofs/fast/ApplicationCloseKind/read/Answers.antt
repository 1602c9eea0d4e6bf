use Rattle.std.proofs.Common.{◌-◌, length, sym, subst}
use Rattle.quic_c.specs.Kinds.{ReadsFrame}
use Rattle.quic_c.proofs.FastCloses.{application_close_reads}
use Rattle.quic_c.proofs.fast.ApplicationCloseKind.read.Goals as goal

pub returns-clause-answers : goal.returns-clause-answers
returns-clause-answers c =
    let h = c.in_ok-ty.ensures.parts in
    subst (ReadsFrame c.args.payload.now c.args.begin (length c.args.payload.now - length c.in_ok-reason.rest.now)) (sym c.put_data.ensures)
    (application_close_reads c.args.payload.now c.args.begin c.in_ok-ty.ty c.in_ok-code.code _ _ c.in_ok-reason.rest.now
    c.in_ok-reason.reason h (c.requires.begins _ _ h.parts) c.in_ok-code.ensures.read c.in_ok-reason.ensures.read)
