use Rattle.std.proofs.Common.{refl, subst}
use Rattle.quic_params.proofs.Refusals.{Search, search_end, search_found, search_more, search_never, search_none}
use Rattle.quic_params.proofs.refusal.last_entry.Goals as goal

pub entries-init : goal.entries-init
entries-init c = search_none c.args.number c.args.list.now c.requires

pub entries-preserved-then-other-number : goal.entries-preserved-then-other-number
entries-preserved-then-other-number c =
    search_found c.args.number c.in-Some.other _ c.args.list.now c.entries.rest.now c.in-Some.behind.now c.entries.found
    _ refl c.if-other-number.true c.in-Some.ensures c.entries.invariant

pub entries-preserved : goal.entries-preserved
entries-preserved c =
    search_more c.args.number c.in-Some.other _ c.args.list.now c.entries.rest.now c.in-Some.behind.now c.entries.found
    c.if-other-number.false c.in-Some.ensures c.entries.invariant

pub unreachable-requires : goal.unreachable-requires
unreachable-requires c =
    search_never c.args.number c.args.list.now c.entries.rest.now c.in_default.ensures
    (subst (Search c.args.number c.args.list.now c.entries.rest.now) c.in-None.is c.entries.invariant)

pub returns : goal.returns
returns c =
    search_end c.args.number c.args.list.now c.entries.rest.now c.in-Some-found.offset c.in_default.ensures
    (subst (Search c.args.number c.args.list.now c.entries.rest.now) c.in-Some-found.is c.entries.invariant)
