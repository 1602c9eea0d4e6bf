use Rattle.quic_c_words.specs.declared.words.CFrame.{CFrame}
use Rattle.std.proofs.Common.{◌-◌, length, sym, ap, subst}
use Rattle.quic_c.specs.Kinds.{ReadsFrame}
use Rattle.quic_c.proofs.FastData.{datagram_reads}
use Rattle.quic_c.proofs.fast.DatagramKind.read.Goals as goal

pub returns-clause-answers : goal.returns-clause-answers
returns-clause-answers c =
    let h = c.in_ok-ty.ensures.parts in
    subst (ReadsFrame c.args.payload.now c.args.begin (length c.args.payload.now - length c.in_ok-sent.rest.now))
    (sym (ap (λ (w : CFrame). record w { kind = 0x30 }) c.put_data.ensures))
    (datagram_reads c.args.payload.now c.args.begin c.in_ok-ty.ty _ c.in_ok-sent.rest.now c.in_ok-sent.sent h
    (c.requires.begins _ _ h.parts) c.in_ok-sent.ensures.read)
