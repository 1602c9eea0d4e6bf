-- What is reported for the packet is returned, and its spans are stored.
use Rattle.std.proofs.Common.{◌≡◌, inr, ap, ◌∙◌, rules, to_z, of_z, w32}
use Rattle.quic_c_headers.specs.Fields.{found_or}
use Rattle.quic_c_headers.specs.Reading.{header_words}
use Rattle.quic_c_headers.proofs.Stored.{one_outcome, reported_of}
use Rattle.quic_c_headers.proofs.fields.quic_wire_packet_fields_.Goals as goal

pub store-requires-clause-reported : goal.store-requires-clause-reported
store-requires-clause-reported c =
    let head = c.show-outcome.new.head in
    let r = c.read_header-read.ensures in (
      c.args.flags,
      head,
      header_words c.args.flags c.args.packet.now c.read_header-read.result head,
      reported_of c.args.flags c.args.id_len c.args.versions.now c.args.packet.now c.read_header-read.result head
          c.show-outcome.result r.answer r.seen r.first c.show-outcome.ensures.outcome,
    )

pub returns-clause-stored : goal.returns-clause-stored
returns-clause-stored c =
    let head = c.show-outcome.new.head in
    let r = c.read_header-read.ensures in
    let number : to_z w32 (of_z w32 c.found_or.result) ≡ c.found_or.result = search rules in
    inr (inr (record {
      outcome = c.show-outcome.result;
      before = head;
      after = header_words c.args.flags c.args.packet.now c.read_header-read.result head;
      reported =
          reported_of c.args.flags c.args.id_len c.args.versions.now c.args.packet.now c.read_header-read.result head
          c.show-outcome.result r.answer r.seen r.first c.show-outcome.ensures.outcome;
      returned = number ∙ c.found_or.ensures;
      fields = c.store.ensures.stored;
    }))

pub returns-clause-same : goal.returns-clause-same
returns-clause-same c =
    let head = c.show-outcome.new.head in
    let r = c.read_header-read.ensures in
    let number : to_z w32 (of_z w32 c.found_or.result) ≡ c.found_or.result = search rules in
    inr (inr (λ outcome before after other.
    let it = reported_of c.args.flags c.args.id_len c.args.versions.now c.args.packet.now c.read_header-read.result head
    c.show-outcome.result r.answer r.seen r.first c.show-outcome.ensures.outcome in
    number ∙ c.found_or.ensures
    ∙ ap found_or (one_outcome c.args.flags c.args.id_len c.args.versions.now c.args.packet.now head
    (header_words c.args.flags c.args.packet.now c.read_header-read.result head) before after c.show-outcome.result
    outcome c.one_reading.ensures c.are_bytes.ensures it other)))
