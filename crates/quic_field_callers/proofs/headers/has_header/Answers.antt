use Rattle.std.proofs.Common.{[], length, refl, sym, subst}
use Rattle.std.specs.Prelude.{IfSome}
use Rattle.quic_frame_fields.proofs.Steps.{true_is_not_false}
use Rattle.quic_header_decode.specs.Places.{any_fixed, refusal_in}
use Rattle.quic_header_fields.specs.Walk.{LacksHeader}
use Rattle.quic_field_callers.proofs.headers.has_header.Goals as goal

pub returns-in-None : goal.returns-in-None
returns-in-None c =
    let bytes = c.args.bytes.now in
    let h = c.header_spans.ensures.ok c.in-None.is in (
      λ yes. (
        h.header,
        h.rest,
        c.one_list_of_spans.ensures.headers c.args.id_len c.args.versions.now (length bytes) bytes h.header h.spans h.rest h.here,
      ),
      λ found. refl,
    )

pub returns-in-Some : goal.returns-in-Some
returns-in-Some c =
    let s = c.header_spans in
    let bytes = c.args.bytes.now in
    let options = any_fixed c.args.id_len c.args.versions.now in
    let lacks : LacksHeader options bytes [] s.new.room s.result.count s.result.end (refusal_in bytes c.in-Some.field-0) =
    subst (λ o. IfSome o (λ e. LacksHeader options bytes [] s.new.room s.result.count s.result.end (refusal_in bytes e)))
    c.in-Some.is s.ensures.err in (
      λ no. absurd (true_is_not_false (sym no)),
      λ found. absurd (c.one_field_at_fault.ensures.none c.args.id_len c.args.versions.now bytes (length bytes) found.0 found.1
          lacks.spans s.result.count (refusal_in bytes c.in-Some.field-0) (λ i. (c.type_inv.bytes i).fits) found.2 lacks.no_header),
    )
