use Rattle.std.proofs.Common.{sym, ap, ◌∙◌}
use Rattle.quic_fields.proofs.Seeing.{ordered_in, ordered_seen}
use Rattle.quic_fields.proofs.field.Seen.is_ordered.Goals as goal

pub returns-in-Nothing : goal.returns-in-Nothing
returns-in-Nothing c = λ before e. ap ordered_in (sym c.in-Nothing.is ∙ e) ∙ ordered_seen before

pub returns-in-Values : goal.returns-in-Values
returns-in-Values c = λ before e. ap ordered_in (sym c.in-Values.is ∙ e) ∙ ordered_seen before
