use Rattle.std.proofs.Common.{◌≡◌, ℕ, get_or, subst, arith}
use Rattle.quic_c_params.specs.Lists.{any_entry}
use Rattle.quic_c_params.proofs.Others.{found, passed_more, there}
use Rattle.quic_c_params.proofs.further.nth.Goals as goal

pub unreachable-requires : goal.unreachable-requires
unreachable-requires c =
    there c.args.list.now c.loop.rest.now c.loop.counter c.requires.0 c.requires.1
    (omega (arith, c.loop-test.true, c.requires.2)) c.loop.invariant c.in-None.ensures

pub loop-preserved : goal.loop-preserved
loop-preserved c =
    passed_more c.args.list.now c.loop.rest.now c.in-Some.behind.now c.loop.counter c.in-Some.field-0-0
    c.in-Some.field-0-1.now c.in-Some.ensures c.loop.invariant

pub unreachable-requires-in-None-split_entry : goal.unreachable-requires-in-None-split_entry
unreachable-requires-in-None-split_entry c =
    there c.args.list.now c.loop.rest.now c.loop.counter c.requires.0 c.requires.1
    (omega (arith, c.loop.auto.counter-end, c.requires.2)) c.loop.invariant c.in-None-split_entry.ensures

pub returns : goal.returns
returns c = λ es h.
    let at : c.loop.counter ≡ c.args.index = omega (arith, c.loop.auto.counter-end, c.loop-test.false) in
    subst (λ (k : ℕ). (c.in-Some-split_entry.number ≡ (get_or es k any_entry).number)
    × (c.in-Some-split_entry.value.now ≡ (get_or es k any_entry).bytes)) at
    (found c.args.list.now c.loop.rest.now c.in-Some-split_entry.field-0-2.now c.loop.counter
    c.in-Some-split_entry.number c.in-Some-split_entry.value.now c.in-Some-split_entry.ensures c.loop.invariant es
    h)
