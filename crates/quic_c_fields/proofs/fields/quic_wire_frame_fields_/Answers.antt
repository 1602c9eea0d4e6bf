use Rattle.std.proofs.Common.{Option, subst}
use Rattle.quic_frames.specs.declared.frame.rules.Rules.{Rules}
use Rattle.quic_fields.specs.declared.rules.Refusal.{Refusal}
use Rattle.quic_fields.specs.Rules.{HasSpansBy, StopsBy}
use Rattle.quic_c_fields.proofs.fields.quic_wire_frame_fields_.Goals as goal

pub returns-in-None-clause-ok : goal.returns-in-None-clause-ok
returns-in-None-clause-ok c = λ one.
    let w = c.frame_spans_by-refusal in (
      subst (λ (r : Rules). HasSpansBy r c.args.payload.now c.args.fields.now w.new.room w.result.1.count w.result.1.end)
          c.of_flags.ensures (w.ensures.ok c.in-None.is),
      subst (λ (r : Option Refusal). StopsBy r c.args.payload.now w.result.1.count w.result.1.end
          (w.result.1.inside, w.result.1.numbers)) c.in-None.is w.ensures.inside,
    )
