use Rattle.std.proofs.Common.{◌≡◌, ◌∙◌, List, ℕ, of_z, rules, subst, sym, to_z, w32, arith}
use Rattle.std.proofs.lemmas.Grind.{common_steps}
use Rattle.std.specs.Prelude.{ℤ}
use Rattle.quic_c_write.specs.Written.{IsAnswer}
use Rattle.quic_c_write.proofs.PlainFrames.{none_broken}
use Rattle.quic_c_write.proofs.write.quic_wire_frame_write_.Goals.{then-out-ge40+in_default, else-out-ge40}
use Rattle.quic_c_write.proofs.write.quic_wire_frame_write_.Goals as goal

pub returns-in-Some-clause-broken : goal.returns-in-Some-clause-broken
returns-in-Some-clause-broken c = λ f b can breaks.
    absurd (none_broken c.args.frame.now c.args.data.now c.args.flags c.args.out.now c.write_numbers.new.out c.in-Some.n f b
    (c.in-Some.ensures.wrote c.args.data.now c.args.flags) can breaks)

pub returns-clause-broken : goal.returns-clause-broken
returns-clause-broken c = λ f b can breaks.
    let count : to_z w32 (of_z w32 c.write_any.result) ≡ c.write_any.result = search rules in
    count ∙ c.write_any.ensures.broken f b can breaks

pub returns-clause-any_data : goal.returns-clause-any_data
returns-clause-any_data c = λ lacks others.
    let count : to_z w32 (of_z w32 c.write_any.result) ≡ c.write_any.result = search rules in
    let same : c.if-out-ge40.out ≡ c.args.out.now = elim c.if-out-ge40.branch [
      | then-out-ge40+in_default w ↦ first_of (search rules, grind (arith, common_steps))
      | else-out-ge40 w ↦ first_of (search rules, grind (arith, common_steps))
    ] in
    subst (λ (r : ℤ). IsAnswer c.args.frame.now others c.args.flags r c.args.out.now c.write_any.new.out c.write_any.new.written)
    (sym count)
    (subst (λ (old : List ℕ). IsAnswer c.args.frame.now others c.args.flags c.write_any.result old c.write_any.new.out c.write_any.new.written)
    same (c.write_any.ensures.any_data lacks others))
