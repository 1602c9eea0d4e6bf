use Rattle.std.proofs.Common.{inl, inr, arith}
use Rattle.quic_c_sets.proofs.Writing.{type_none, type_three}
use Rattle.quic_c_sets.proofs.acks.type_of.Goals as goal

pub returns-then-few-eq0 : goal.returns-then-few-eq0
returns-then-few-eq0 c = type_none c.args.counts.now c.if-few-eq0.true

pub returns-else-few-eq0 : goal.returns-else-few-eq0
returns-else-few-eq0 c =
    type_three c.args.counts.now (elim c.requires [ inl e ↦ absurd (omega (arith, e, c.if-few-eq0.false)) | inr e ↦ e ])
