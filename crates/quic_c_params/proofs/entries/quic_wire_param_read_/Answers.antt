-- The entry that was read is reported, with its end.
use Rattle.std.proofs.Common.{◌≡◌, ℕ, List, ◌-◌, length, ap, sym, ◌∙◌, inl, rules, to_z, w64}
use Rattle.std.specs.Prelude.{pos}
use Rattle.quic_c_params.proofs.Places.{entry_end, gives_entry}
use Rattle.quic_c_params.proofs.entries.quic_wire_param_read_.Goals as goal

pub returns : goal.returns
returns c =
    let list : List ℕ = c.args.list.now in
    let value : List ℕ = c.in-Some.value.now in
    let rest : List ℕ = c.in-Some.rest.now in
    let end : ℕ = length list - length rest in
    let count : to_z w64 end ≡ pos end = search rules in
    inl (
      count ∙ ap pos (sym (entry_end list value rest c.in-Some.id c.in-Some.ensures)),
      gives_entry list value rest c.in-Some.id c.in-Some.ensures,
    )
