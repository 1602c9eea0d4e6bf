use Rattle.std.proofs.Common.{◌-◌, length, sym, ap, subst, arith}
use Rattle.quic_c_words.specs.declared.words.CFrame.{CFrame}
use Rattle.quic_c.specs.Kinds.{ReadsFrame}
use Rattle.quic_c.proofs.FastCloses.{new_id_reads}
use Rattle.quic_c.proofs.fast.NewIdKind.read.Goals as goal

pub returns-clause-answers : goal.returns-clause-answers
returns-clause-answers c =
    let h = c.in_ok-ty.ensures.parts in
    subst (ReadsFrame c.args.payload.now c.args.begin (length c.args.payload.now - length c.in_ok-rest.rest.now)) (sym (ap (λ (w : CFrame). record w { data_offset = length c.args.payload.now - length c.in_ok-rest.rest.now - 16 - length c.in_ok-id.id.now })
    c.put_data.ensures))
    (new_id_reads c.args.payload.now c.args.begin c.in_ok-ty.ty c.in_ok-sequence.sequence c.in_ok-retire.retire _ _ _ _ c.in_ok-rest.rest.now c.in_ok-id.id.now
    _ h (c.requires.begins _ _ h.parts) c.in_ok-sequence.ensures.read c.in_ok-retire.ensures.read
    (omega arith) c.in_ok-id.ensures.read c.in_ok-rest.ensures.read)
