use Rattle.std.proofs.Common.{Ok, Err, inl, inr}
use Rattle.quic_params.proofs.Refusals.{placed_once}
use Rattle.quic_params.proofs.record.TransportParameters.read_list.Goals as goal

pub returns-in-Err-clause-only : goal.returns-in-Err-clause-only
returns-in-Err-clause-only c =
    λ answer h. placed_once c.args.options c.args.side _ answer (Err _) h (inl c.refused_entry.ensures)

pub returns-in-Err-check-clause-only : goal.returns-in-Err-check-clause-only
returns-in-Err-check-clause-only c =
    λ answer h. placed_once c.args.options c.args.side _ answer (Err _) h (inr c.refused_record.ensures)

pub returns-in-Ok-check-clause-only : goal.returns-in-Ok-check-clause-only
returns-in-Ok-check-clause-only c =
    λ answer h. placed_once c.args.options c.args.side _ answer (Ok _) h (c.in-Ok.ensures.ok, c.in-Ok-check.ensures)

pub returns-in-Err-check-clause-meant : goal.returns-in-Err-check-clause-meant
returns-in-Err-check-clause-meant c =
    inr (_, c.in-Ok.ensures.ok, c.in-Err-check.ensures.0, c.refused_record.ensures.error_is)
