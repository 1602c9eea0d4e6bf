use Rattle.std.proofs.Common.{ℕ, List, ◌∙◌, inl, inr, refl, subst, sym, arith}
use Rattle.std.specs.Prelude.{Ok, Err}
use Rattle.quic_frame_fields.specs.Putting.{Puts}
use Rattle.quic_c_write.proofs.AckGaps.{is_of, longest, ack_of_words, whole}
use Rattle.quic_c_write.proofs.StoredAcks.{same_answer}
use Rattle.quic_c_write.proofs.ack_gaps.quic_wire_ack_gaps_write_.Goals as goal

pub store_ack-requires-clause-room : goal.store_ack-requires-clause-room
store_ack-requires-clause-room c = omega (arith, longest c.args.ack.now c.args.gaps.now, c.if-has_room.ensures)

pub returns-then-is_ack-clause-wrote : goal.returns-then-is_ack-clause-wrote
returns-then-is_ack-clause-wrote c = λ _ last low below s.
    subst (λ (b : List ℕ). Puts (Ok c.store_ack.result) b c.args.out.now c.store_ack.new.dest)
    (sym (whole last c.args.ack.now c.args.gaps.now low below s)) c.store_ack.ensures

pub returns-then-is_ack-clause-described : goal.returns-then-is_ack-clause-described
returns-then-is_ack-clause-described c = inr (ack_of_words c.args.ack.now c.args.gaps.now (c.if-is_ack.ensures.0 refl))

pub returns-clause-wrote : goal.returns-clause-wrote
returns-clause-wrote c = λ e last low below s.
    let zero = sym (same_answer c.write_counted.result c.write_counted.ensures.returns) ∙ e in
    subst (λ (b : List ℕ). Puts (Ok c.write_counted.new.written) b c.args.out.now c.write_counted.new.out)
    (sym (whole last c.args.ack.now c.args.gaps.now low below s)) (c.write_counted.ensures.wrote zero)

pub returns-clause-room : goal.returns-clause-room
returns-clause-room c = λ e last low below s.
    let less = sym (same_answer c.write_counted.result c.write_counted.ensures.returns) ∙ e in
    subst (λ (b : List ℕ). Puts (Err c.write_counted.new.written) b c.args.out.now c.write_counted.new.out)
    (sym (whole last c.args.ack.now c.args.gaps.now low below s)) (c.write_counted.ensures.room less)

pub returns-clause-described : goal.returns-clause-described
returns-clause-described c = elim c.write_counted.ensures.described [
  | inl none ↦ inl (same_answer c.write_counted.result c.write_counted.ensures.returns ∙ none)
  | inr is ↦ inr (ack_of_words c.args.ack.now c.args.gaps.now is)
]

pub returns-clause-refused : goal.returns-clause-refused
returns-clause-refused c = λ e low below s.
    let none = sym (same_answer c.write_counted.result c.write_counted.ensures.returns) ∙ e in
    c.write_counted.ensures.refused none (is_of c.args.ack.now c.args.gaps.now low below s)
