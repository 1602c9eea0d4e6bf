use Rattle.std.proofs.Common.{◌-◌, length, sym, subst, rules}
use Rattle.quic_c.specs.Kinds.{ReadsFrame}
use Rattle.quic_c.proofs.FastData.{token_reads}
use Rattle.quic_c.proofs.fast.TokenKind.read.Goals as goal

pub returns-clause-answers : goal.returns-clause-answers
returns-clause-answers c =
    let h = c.in_ok-ty.ensures.parts in
    subst (ReadsFrame c.args.payload.now c.args.begin (length c.args.payload.now - length c.in_ok-sent.rest.now)) (sym c.put_data.ensures)
    (token_reads c.args.payload.now c.args.begin c.in_ok-ty.ty _ c.in_ok-sent.rest.now c.in_ok-sent.sent h
    (c.requires.begins _ _ h.parts) c.in_ok-sent.ensures.read (search rules))
