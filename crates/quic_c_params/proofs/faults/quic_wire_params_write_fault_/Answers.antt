use Rattle.std.proofs.Common.{◌≡◌, rules, sym, ap, subst, ◌∙◌, inl, inr, of_z, to_z, w32}
use Rattle.std.specs.Prelude.{pos}
use Rattle.quic_base.specs.declared.ids.Side.{Side}
use Rattle.quic_c_params.specs.Faults.{IsWriteFault}
use Rattle.quic_c_params.proofs.FirstFaults.{can_write, described_in_range, nothing_is, number_is_0, refused_if, same_side}
use Rattle.quic_c_params.proofs.faults.quic_wire_params_write_fault_.Goals as goal

pub returns-clause-found : goal.returns-clause-found
returns-clause-found c = λ reader side.
    let s = c.number_of in
    let count : to_z w32 (of_z w32 s.result) ≡ s.result = search rules in
    let same = same_side c.args.side c.in-Some.reader reader c.in-Some.ensures side in (
      c.found_of-found.result,
      subst (λ (r : Side). IsWriteFault r c.args.words.now c.found_of-found.result) same c.found_of-found.ensures.found,
      count ∙ s.ensures,
      c.store_id.ensures,
    )

pub returns-clause-possible : goal.returns-clause-possible
returns-clause-possible c = λ e.
    let s = c.number_of in
    let count : to_z w32 (of_z w32 s.result) ≡ s.result = search rules in
    let nothing = nothing_is c.found_of-found.result (sym s.ensures ∙ sym count ∙ e) in
    can_write c.args.side c.in-Some.reader c.args.words.now c.described.result c.in-Some.ensures c.described.ensures.some
    c.described.ensures.none
    (described_in_range c.in-Some.reader c.args.words.now c.found_of-found.result nothing c.found_of-found.ensures.found)

pub returns-clause-refused : goal.returns-clause-refused
returns-clause-refused c =
    let s = c.number_of in
    let count : to_z w32 (of_z w32 s.result) ≡ s.result = search rules in
    elim (refused_if c.args.side c.in-Some.reader c.args.words.now c.found_of-found.result c.in-Some.ensures
    c.found_of-found.ensures.nothing) [
      | inl e ↦ inl (count ∙ s.ensures ∙ ap pos (number_is_0 c.found_of-found.result e))
      | inr never ↦ inr never
    ]
