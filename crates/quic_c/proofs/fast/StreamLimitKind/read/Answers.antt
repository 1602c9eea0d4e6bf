use Rattle.std.proofs.Common.{◌-◌, length, sym, subst, arith}
use Rattle.quic_c.specs.Kinds.{ReadsFrame}
use Rattle.quic_c.proofs.FastReads.{stream_limit_reads}
use Rattle.quic_c.proofs.fast.StreamLimitKind.read.Goals as goal

pub returns-clause-answers : goal.returns-clause-answers
returns-clause-answers c =
    let h = c.in_ok-ty.ensures.parts in
    subst (ReadsFrame c.args.payload.now c.args.begin (length c.args.payload.now - length c.in_ok-count.rest.now)) (sym c.put.ensures)
    (stream_limit_reads c.args.payload.now c.args.begin c.in_ok-ty.ty c.in_ok-count.count _ c.in_ok-count.rest.now h (c.requires.begins _ _ h.parts) c.in_ok-count.ensures.read
    (omega arith))
