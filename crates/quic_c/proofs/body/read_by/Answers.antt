use Rattle.std.proofs.Common.{rules, arith, ◌≡◌, ◌∙◌, ◌<◌, ◌^◌, ◌-◌, ℕ, length, subst, pos, to_z, of_z, w64}
use Rattle.quic_frames.specs.Walk.{invalid_of}
use Rattle.quic_c.specs.Front.{ShowsFront}
use Rattle.quic_c.proofs.BodyReads.{type_fits, rest_within, body_keeps, body_refused, body_lacking, gives_body, reports_body}
use Rattle.quic_c.proofs.body.read_by.Goals as goal

pub overflow_sub-end : goal.overflow_sub-end
overflow_sub-end c =
    rest_within c.args.rules.short_types c.args.ty c.args.body.now c.in-Ok.frame c.in-Ok.rest.now
    (c.in-Ok.ensures.frame c.args.rules.short_types)

pub overflow_cast-into_inner : goal.overflow_cast-into_inner
overflow_cast-into_inner c =
    let small =
    type_fits c.args.rules.short_types c.args.ty c.args.body.now c.in-Ok.frame c.in-Ok.rest.now
    (c.in-Ok.ensures.frame c.args.rules.short_types) in
    let fits : c.into_inner.result < 2 ^ 16 = omega (arith, small, c.into_inner.ensures) in
    search rules

pub returns-else-is_broken : goal.returns-else-is_broken
returns-else-is_broken c =
    let reads = c.in-Ok.ensures.frame c.args.rules.short_types in
    let kept =
    body_keeps c.args.rules c.args.ty c.args.body.now c.in-Ok.frame c.in-Ok.rest.now c.breach-breach.result reads
    c.breach-breach.ensures (c.is_broken.ensures.kept c.if-is_broken.false) in
    let within =
    rest_within c.args.rules.short_types c.args.ty c.args.body.now c.in-Ok.frame c.in-Ok.rest.now reads in
    let stop = length c.args.body.now - length c.in-Ok.rest.now in
    let is : to_z w64 stop ≡ pos stop = search rules in
    let shows =
    subst (λ (n : ℕ). ShowsFront stop n c.in-Ok.frame c.args.gaps.now c.show_front.result c.show_front.new.gaps)
    c.into_inner.ensures c.show_front.ensures in
    gives_body c.args.rules c.args.ty c.args.body.now c.args.out.now c.args.gaps.now (to_z w64 stop)
    c.show_front.result c.show_front.new.gaps stop c.requires is (record {
      frame = c.in-Ok.frame;
      rest = c.in-Ok.rest.now;
      reads = reads;
      kept = kept;
      ends = omega (arith, within);
      shows = shows;
    })

pub returns-then-is_broken : goal.returns-then-is_broken
returns-then-is_broken c =
    let reported = invalid_of c.broken.result in
    let reads = c.in-Ok.ensures.frame c.args.rules.short_types in
    let first =
    body_refused c.args.rules c.args.ty c.args.body.now c.in-Ok.frame c.in-Ok.rest.now c.breach-breach.result reported
    reads c.breach-breach.ensures (c.is_broken.ensures.broken c.if-is_broken.true) c.broken.ensures in
    let result = to_z w64 (of_z w64 c.refuse.result) in
    let count : result ≡ c.refuse.result = search rules in
    reports_body c.args.rules c.args.ty c.args.body.now c.args.out.now c.args.gaps.now result c.refuse.new.out reported
    c.requires first (count ∙ c.refuse.ensures.reason) c.refuse.ensures.words

pub returns-in-Err : goal.returns-in-Err
returns-in-Err c =
    let plain = invalid_of c.in-Err.plain in
    let reported = invalid_of c.reported.result in
    let first =
    body_lacking c.args.rules c.args.ty c.args.body.now plain reported
    (c.in-Err.ensures.reason c.args.rules.short_types) c.reported.ensures in
    let result = to_z w64 (of_z w64 c.refuse-in-Err.result) in
    let count : result ≡ c.refuse-in-Err.result = search rules in
    reports_body c.args.rules c.args.ty c.args.body.now c.args.out.now c.args.gaps.now result c.refuse-in-Err.new.out
    reported c.requires first (count ∙ c.refuse-in-Err.ensures.reason) c.refuse-in-Err.ensures.words
