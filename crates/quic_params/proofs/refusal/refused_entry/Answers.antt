use Rattle.std.proofs.Common.{List, ℕ, length, ◌-◌, subst}
use Rattle.std.proofs.lemmas.List.{take_rest}
use Rattle.quic_base.specs.Codec.{NoFront, Takes}
use Rattle.quic_base.specs.Varint.{Encodes}
use Rattle.quic_params.proofs.Refusals.{refused_cut, refused_number}
use Rattle.quic_params.proofs.refusal.refused_entry.Goals as goal

pub returns-in-Ok : goal.returns-in-Ok
returns-in-Ok c =
    refused_number c.args.options c.args.list.now c.get_var.new.self.now c.args.error c.args.left c.in-Ok.number c.requires
    (subst (λ (l : List ℕ). Takes (Encodes c.in-Ok.number) l c.get_var.new.self.now)
    (take_rest c.args.list.now (length c.args.list.now - c.args.left)) c.in-Ok.ensures.ok)

pub returns-in-Err : goal.returns-in-Err
returns-in-Err c =
    refused_cut c.args.options c.args.list.now c.args.error c.args.left c.requires
    (subst (λ (l : List ℕ). (n : ℕ) → NoFront (Encodes n) l)
    (take_rest c.args.list.now (length c.args.list.now - c.args.left)) c.in-Err.ensures.cut)
