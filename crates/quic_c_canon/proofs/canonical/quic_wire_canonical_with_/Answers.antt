use Rattle.std.proofs.Common.{◌≡◌, [], None, ap, inl, of_z, rules, subst, sym, to_z, w32, ◌∙◌}
use Rattle.std.specs.Prelude.{◌≢◌, false}
use Rattle.quic_frames.specs.Rules.{IsCheckedOf}
use Rattle.quic_frames.specs.Walk.{reported_of}
use Rattle.quic_frames.specs.declared.frame.rules.Rules.{Rules}
use Rattle.quic_canon.specs.Refusal.{IsAccepted}
use Rattle.quic_c_canon.proofs.ByRules.{Answered, accepted, of_accepted}
use Rattle.quic_c_canon.proofs.canonical.quic_wire_canonical_with_.Goals as goal

pub returns : goal.returns
returns c =
    let found = c.first_error.ensures in
    let some : c.args.payload.now ≢ [] = search rules in
    let none = sym (ap reported_of c.in-None.is) ∙ found.returned in
    let is = subst (λ (r : Rules). IsAccepted r c.args.payload.now) c.of_flags.ensures
    (accepted c.of_flags.result c.args.payload.now found.one.it some found.one.is none) in
    let result : to_z w32 (of_z w32 c.canonical.result) ≡ c.canonical.result = search rules in
    let given =
    of_accepted _ c.args.payload.now c.args.dest.now c.canonical.new.dest c.args.out.now c.canonical.new.out
    (to_z w32 (of_z w32 c.canonical.result)) (c.one_reading.ensures.one false None c.args.payload.now c.are_bytes.ensures)
    c.one_reading.ensures.relaxed is
    (subst (Answered c.args.payload.now c.args.dest.now c.canonical.new.dest c.args.out.now c.canonical.new.out) (sym result)
    c.canonical.ensures) in
    inl given
