use Rattle.std.proofs.Common.{◌-◌, length, sym, subst}
use Rattle.quic_c.specs.Kinds.{ReadsFrame}
use Rattle.quic_c.proofs.FastReads.{reset_reads}
use Rattle.quic_c.proofs.fast.ResetKind.read.Goals as goal

pub returns-clause-answers : goal.returns-clause-answers
returns-clause-answers c =
    let h = c.in_ok-ty.ensures.parts in
    subst (ReadsFrame c.args.payload.now c.args.begin (length c.args.payload.now - length c.in_ok-size.rest.now)) (sym c.put.ensures)
    (reset_reads c.args.payload.now c.args.begin c.in_ok-ty.ty c.in_ok-id.id c.in_ok-code.code c.in_ok-size.size _ _ _ c.in_ok-size.rest.now h
    (c.requires.begins _ _ h.parts) c.in_ok-id.ensures.read c.in_ok-code.ensures.read c.in_ok-size.ensures.read)
