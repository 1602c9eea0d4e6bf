use Rattle.std.proofs.Common.{rules, sym, subst, ◌∙◌, inl, inr}
use Rattle.quic_params.specs.Range.{IsRecordInRange}
use Rattle.quic_c_params.specs.Faults.{DescribesPlain}
use Rattle.quic_c_params.specs.Written.{DescribesParams}
use Rattle.quic_c_params.proofs.DescribedParams.{plain_of}
use Rattle.quic_c_params.proofs.FirstFaults.{in_range_nothing, no_parameter, none_large}
use Rattle.quic_c_params.proofs.faults.found_of.Goals as goal

pub returns-in-Some-clause-nothing : goal.returns-in-Some-clause-nothing
returns-in-Some-clause-nothing c = λ p says range.
    absurd (no_parameter c.in-Some.id (sym (none_large c.args.words.now p says) ∙ sym c.in-Some.ensures))

pub returns-clause-found : goal.returns-clause-found
returns-clause-found c =
    let p = c.record_in-params.result in
    let says : DescribesParams c.args.words.now p = search rules in
    let plain : DescribesPlain c.args.words.now p =
    record { described = says; plain = c.record_in-params.ensures.plain } in
    inr (sym c.large_in.ensures ∙ c.in_default.is, inl (p, plain, c.found_in.ensures))

pub returns-clause-nothing : goal.returns-clause-nothing
returns-clause-nothing c = λ p says range.
    let is = c.record_in-params.ensures.described p (plain_of c.args.side c.args.words.now p says range) in
    in_range_nothing c.args.side c.record_in-params.result c.found_in.result
    (subst (IsRecordInRange c.args.side) (sym is) range) c.found_in.ensures
