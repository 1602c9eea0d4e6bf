use Rattle.std.proofs.Common.{◌-◌, length, sym, subst, arith}
use Rattle.quic_c.specs.Kinds.{ReadsFrame}
use Rattle.quic_c.proofs.FastData.{crypto_reads}
use Rattle.quic_c.proofs.fast.CryptoKind.read.Goals as goal

pub returns-clause-answers : goal.returns-clause-answers
returns-clause-answers c =
    let h = c.in_ok-ty.ensures.parts in
    subst (ReadsFrame c.args.payload.now c.args.begin (length c.args.payload.now - length c.in_ok-sent.rest.now)) (sym c.put_data.ensures)
    (crypto_reads c.args.payload.now c.args.begin c.in_ok-ty.ty c.in_ok-offset.offset _ _ c.in_ok-sent.rest.now
    c.in_ok-sent.sent h (c.requires.begins _ _ h.parts) c.in_ok-offset.ensures.read c.in_ok-sent.ensures.read (omega arith))
