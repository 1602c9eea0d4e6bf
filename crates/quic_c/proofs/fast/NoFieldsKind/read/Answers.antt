use Rattle.std.proofs.Common.{◌-◌, length, sym, subst}
use Rattle.quic_c.specs.Kinds.{ReadsFrame}
use Rattle.quic_c.proofs.FastReads.{no_fields_reads}
use Rattle.quic_c.proofs.fast.NoFieldsKind.read.Goals as goal

pub returns-clause-answers : goal.returns-clause-answers
returns-clause-answers c =
    let h = c.in_ok-ty.ensures.parts in
    subst (ReadsFrame c.args.payload.now c.args.begin (length c.args.payload.now - length c.in_ok-ty.rest.now)) (sym c.put.ensures)
    (no_fields_reads c.args.payload.now c.args.begin c.in_ok-ty.ty c.in_ok-ty.rest.now h (c.requires.begins _ _ h.parts))
