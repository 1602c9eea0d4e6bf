-- The spans are stored by what is reported.
use Rattle.std.proofs.Common.{◌≡◌, sym, ◌∙◌}
use Rattle.quic_c_headers.specs.Fields.{part_of}
use Rattle.quic_c_headers.specs.declared.fields.Part.TheVariants as parts
use Rattle.quic_c_headers.proofs.Stored.{spans_there, cut_stored, retry_stored, others_stored}
use Rattle.quic_c_headers.proofs.fields.store.Goals as goal

pub returns-in-Cut : goal.returns-in-Cut
returns-in-Cut c =
    let versions = c.args.versions.now in
    let packet = c.args.packet.now in
    let r = c.requires.reported in
    let part : part_of c.args.outcome ≡ parts.Cut = sym c.part_of.ensures ∙ c.in-Cut.is in
    let t = spans_there r.0 c.args.id_len versions packet r.1 r.2 c.args.outcome c.one_list_of_spans.ensures.exists r.3
    (λ all. let no : parts.Cut ≡ parts.Whole = sym part ∙ all in absurd cc) in
    let w = c.spans_before_last.ensures in
    record {
      stored = cut_stored c.args.id_len versions packet c.args.fields.now c.spans_before_last.new.room
          c.spans_before_last.result c.args.outcome part (record {
            header = t.0;
            spans = t.1;
            rest = t.2;
            here = t.3;
            before = w.stored t.0 t.1 t.2 t.3;
            inside = w.inside;
            numbers = w.numbers;
          });
    }

pub returns-in-Retry : goal.returns-in-Retry
returns-in-Retry c =
    let versions = c.args.versions.now in
    let packet = c.args.packet.now in
    let r = c.requires.reported in
    let part : part_of c.args.outcome ≡ parts.Retry = sym c.part_of.ensures ∙ c.in-Retry.is in
    let t = spans_there r.0 c.args.id_len versions packet r.1 r.2 c.args.outcome c.one_list_of_spans.ensures.exists r.3
    (λ all. let no : parts.Retry ≡ parts.Whole = sym part ∙ all in absurd cc) in
    let w = c.spans_of_partial_retry.ensures in
    record {
      stored = retry_stored c.args.id_len versions packet c.args.fields.now c.spans_of_partial_retry.new.room
          c.spans_of_partial_retry.result c.args.outcome part (record {
            header = t.0;
            spans = t.1;
            rest = t.2;
            here = t.3;
            before = w.stored t.0 t.1 t.2 t.3;
            inside = w.inside;
            numbers = w.numbers;
          });
    }

pub returns-in-Whole : goal.returns-in-Whole
returns-in-Whole c =
    let r = c.requires.reported in
    let part : part_of c.args.outcome ≡ parts.Whole = sym c.part_of.ensures ∙ c.in-Whole.is in
    let w = c.packet_spans-walked.ensures in
    let x = c.packet_spans-walked.result in
    record {
      stored = others_stored r.0 c.args.id_len c.args.versions.now c.args.packet.now r.1 r.2 c.args.fields.now
          c.packet_spans-walked.new.room (record {
            count = x.count;
            end = x.end;
            inside = x.inside;
            numbers = x.numbers;
          }) x.fault c.args.outcome c.one_reading.ensures c.one_list_of_spans.ensures.headers c.one_error.ensures.reported
          c.where_reading_stops.ensures.whole c.are_bytes.ensures r.3 part w.ok w.err w.inside;
    }
