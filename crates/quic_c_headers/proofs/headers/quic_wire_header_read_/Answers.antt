-- There is one outcome, and a packet that is reported as complete is cut at its end.
use Rattle.std.proofs.Common.{◌≡◌, ◌∙◌, ap, sym, inl, inr, Ok, Err, length, rules, to_z, of_z, w64}
use Rattle.quic_results.specs.Results.{returned}
use Rattle.quic_results.specs.declared.results.Failure.TheVariants as failure
use Rattle.quic_c_headers.proofs.Answered.{one_answer, whole_cut}
use Rattle.quic_c_headers.proofs.Packets.{reported_fixed, returns_fixed, returns_one}
use Rattle.quic_c_headers.proofs.headers.quic_wire_header_read_.Goals as goal

pub returns-clause-fixed : goal.returns-clause-fixed
returns-clause-fixed c =
    let count : to_z w64 (of_z w64 c.read_any.result) ≡ c.read_any.result = search rules in
    (λ is. absurd (c.read_any.ensures.fixed (sym count ∙ is)), λ l. absurd (c.is_clear.ensures c.if-is_clear.false c.args.versions.now l.2))

pub returns-clause-one : goal.returns-clause-one
returns-clause-one c = inr (inr (λ outcome words other.
    let r = c.read_any.ensures.reported in
    let same =
    one_answer c.args.flags c.args.id_len c.args.versions.now c.args.packet.now c.args.head.now c.read_any.new.head words
    r.0 outcome c.one_reading.ensures c.are_bytes.ensures r.2 other in
    let count : to_z w64 (of_z w64 c.read_any.result) ≡ c.read_any.result = search rules in
    (count ∙ r.1 ∙ ap returned same.0, same.1)))

pub returns-clause-whole : goal.returns-clause-whole
returns-clause-whole c = λ end is.
    let r = c.read_any.ensures.reported in
    let count : to_z w64 (of_z w64 c.read_any.result) ≡ c.read_any.result = search rules in
    whole_cut c.args.flags c.args.id_len c.args.versions.now c.args.packet.now c.args.head.now c.read_any.new.head r.0 end
    c.places_cut.ensures.whole r.2 (c.distinct.ensures r.0 (Ok end) (sym r.1 ∙ sym count ∙ is))

pub returns-then-is_clear-clause-one : goal.returns-then-is_clear-clause-one
returns-then-is_clear-clause-one c =
    let count : to_z w64 (of_z w64 c.read_clear.result) ≡ c.read_clear.result = search rules in
    elim c.read_clear.ensures.reported [
      | inl is ↦ inr (inl (count ∙ is))
      | inr r ↦ inr (inr (λ outcome words other.
          let same =
          one_answer c.args.flags c.args.id_len c.args.versions.now c.args.packet.now c.args.head.now c.read_clear.new.head
          words r.0 outcome c.one_reading.ensures c.are_bytes.ensures r.2 other in
          (count ∙ r.1 ∙ ap returned same.0, same.1)))
    ]

pub returns-then-is_clear-clause-whole : goal.returns-then-is_clear-clause-whole
returns-then-is_clear-clause-whole c = λ end is.
    let count : to_z w64 (of_z w64 c.read_clear.result) ≡ c.read_clear.result = search rules in
    elim c.read_clear.ensures.reported [
      | inl f ↦ absurd cc
      | inr r ↦ whole_cut c.args.flags c.args.id_len c.args.versions.now c.args.packet.now c.args.head.now
          c.read_clear.new.head r.0 end c.places_cut.ensures.whole r.2
          (c.distinct.ensures r.0 (Ok end) (sym r.1 ∙ sym count ∙ is))
    ]

pub returns-clause-packet : goal.returns-clause-packet
returns-clause-packet c = λ fits few.
    let r = c.read_any.ensures.reported in
    let count : to_z w64 (of_z w64 c.read_any.result) ≡ c.read_any.result = search rules in
    returns_one c.args.flags c.args.id_len c.args.versions.now c.args.packet.now c.args.head.now c.read_any.new.head _
    c.are_bytes.ensures c.places_cut.ensures.whole c.places_cut.ensures.cut_off
    (λ l. c.is_clear.ensures c.if-is_clear.false c.args.versions.now l) (r.0, count ∙ r.1, r.2)

pub returns-then-is_clear-clause-packet : goal.returns-then-is_clear-clause-packet
returns-then-is_clear-clause-packet c = λ fits few.
    let count : to_z w64 (of_z w64 c.read_clear.result) ≡ c.read_clear.result = search rules in
    elim c.read_clear.ensures.reported [
      | inl is ↦
          returns_fixed c.args.flags c.args.id_len c.args.versions.now c.args.packet.now c.read_clear.new.head _
          c.are_bytes.ensures (c.read_clear.ensures.fixed.0 is) (count ∙ is)
      | inr r ↦
          returns_one c.args.flags c.args.id_len c.args.versions.now c.args.packet.now c.args.head.now c.read_clear.new.head _
          c.are_bytes.ensures c.places_cut.ensures.whole c.places_cut.ensures.cut_off
          (λ l. reported_fixed c.args.flags r.2.read (length c.args.packet.now)
          (sym r.2.outcome_is
          ∙ c.distinct.ensures r.0 (Err failure.PacketFixedBit) (sym r.1 ∙ c.read_clear.ensures.fixed.1 l)))
          (r.0, count ∙ r.1, r.2)
    ]
