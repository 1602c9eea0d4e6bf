use Rattle.std.proofs.Common.{false, length, take, ap, sym, subst, ◌∙◌}
use Rattle.std.proofs.Math.Seq.{take-append_seam}
use Rattle.quic_fields.specs.Spans.{IsFrameAt}
use Rattle.quic_field_callers.proofs.headers.frame_in_fields.Goals as goal

pub returns-in-None : goal.returns-in-None
returns-in-None c =
    let s = c.frame_spans-walked in
    let payload = c.args.payload.now in
    let h = s.ensures.ok c.in-None.is in
    let here : IsFrameAt false h.found h.spans (take s.result.end payload) =
    subst (λ b. IsFrameAt false h.found h.spans b)
    (sym (ap (λ n. take n payload) h.stop ∙ ap (take (length h.front)) h.parts ∙ take-append_seam h.front h.back)) h.frame in
    let row = c.one_list_of_spans.ensures.row false h.found h.spans (take s.result.end payload) here in (
      (h.found, c.one_list_of_spans.ensures.frames false h.found h.spans (take s.result.end payload) here),
      (h.spans, h.room, h.all, row.0, row.1),
    )
