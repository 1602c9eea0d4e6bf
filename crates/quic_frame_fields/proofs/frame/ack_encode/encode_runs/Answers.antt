use Rattle.std.proofs.Common.{arith}
use Rattle.std.proofs.lemmas.Result.{err_from_is_err_and}
use Rattle.quic_frame_fields.proofs.Sets.{bounded}
use Rattle.quic_base.proofs.Encoders.{wrote_first, writes_begun, writes_last}
use Rattle.quic_frame_fields.proofs.AckParts.{set_parts, writes_in_two}
use Rattle.std.proofs.lemmas.Grind.{common_steps}
use Rattle.quic_frame_fields.proofs.frame.ack_encode.encode_runs.Goals as goal

pub overflow_sub-greatest : goal.overflow_sub-greatest
overflow_sub-greatest g c =
    let b =
    bounded c.next_back.new.self c.args.runs c.in-Some.first c.in-Some.ensures.steps c.requires.maximal c.requires.members in
    omega (arith, b.some)

pub overflow_sub-block : goal.overflow_sub-block
overflow_sub-block g c =
    let b =
    bounded c.next_back.new.self c.args.runs c.in-Some.first c.in-Some.ensures.steps c.requires.maximal c.requires.members in
    omega (arith, b.some)

pub encode_below-requires-clause-bound : goal.encode_below-requires-clause-bound
encode_below-requires-clause-bound g c =
    let b =
    bounded c.next_back.new.self c.args.runs c.in-Some.first c.in-Some.ensures.steps c.requires.maximal c.requires.members in
    omega (arith, b.some, b.greatest)

pub store_numbers-at-requires-clause-numeric : goal.store_numbers-at-requires-clause-numeric
store_numbers-at-requires-clause-numeric g c =
    (set_parts c.args.delay c.args.runs c.next_back.new.self c.in-Some.first c.args.ecn c.type_of.result c.args.count
    c.in-Some.ensures.steps c.type_of.ensures c.requires.count c.requires.delay
    c.requires.maximal c.requires.members).numeric

pub returns-in_err-encode_below : goal.returns-in_err-encode_below
returns-in_err-encode_below g c last =
    let x = set_parts c.args.delay c.args.runs c.next_back.new.self c.in-Some.first c.args.ecn c.type_of.result
    c.args.count c.in-Some.ensures.steps c.type_of.ensures c.requires.count c.requires.delay
    c.requires.maximal c.requires.members in
    let p = err_from_is_err_and c.from_residual.result c.from_residual.ensures.1 in
    writes_in_two c.from_residual.result _ _ _ _ _ _ _ _ _ (x.parts last) c.store_numbers-at.ensures.front
    (writes_begun c.encode_below.result c.from_residual.result p.0 _ _ _ _ _ _ _ c.encode_below.ensures c.in_err-encode_below.was p.1)

pub returns : goal.returns
returns g c last =
    let x = set_parts c.args.delay c.args.runs c.next_back.new.self c.in-Some.first c.args.ecn c.type_of.result
    c.args.count c.in-Some.ensures.steps c.type_of.ensures c.requires.count c.requires.delay
    c.requires.maximal c.requires.members in
    writes_in_two c.encode_counts.result _ _ _ _ _ _ _ _ _ (x.parts last) c.store_numbers-at.ensures.front
    (writes_last c.encode_counts.result _ _ _ _ _ _ _ _ (wrote_first c.encode_below.result _ _ _ _ _
    c.encode_below.ensures c.in_ok-encode_below.was) c.encode_counts.ensures)

pub encode_below-requires-clause-runs : goal.encode_below-requires-clause-runs
encode_below-requires-clause-runs g c = grind (arith, common_steps)
