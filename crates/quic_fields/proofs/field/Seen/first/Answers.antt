use Rattle.std.proofs.Common.{sym, ap, ◌∙◌}
use Rattle.quic_fields.proofs.Seeing.{first_in, first_seen}
use Rattle.quic_fields.proofs.field.Seen.first.Goals as goal

pub returns-in-Nothing : goal.returns-in-Nothing
returns-in-Nothing c = λ before e. ap first_in (sym c.in-Nothing.is ∙ e) ∙ first_seen before

pub returns-in-Values : goal.returns-in-Values
returns-in-Values c = λ before e. ap first_in (sym c.in-Values.is ∙ e) ∙ first_seen before
