use Rattle.std.proofs.Common.{◌∙◌, inl, inr, refl, sym, pos, to_z, of_z, w64, ◌≡◌, [], Some, subst, rules}
use Rattle.quic_results.proofs.FrameFailures.{not_empty}
use Rattle.quic_frames.proofs.Turns.{spent_is_empty}
use Rattle.quic_frames.specs.Walk.{invalid_of, first_of, Advances, Finds, LacksFrame, IsSpent}
use Rattle.quic_c.specs.Front.{ReportsNone}
use Rattle.quic_c.proofs.Types.{is_lacking, is_refused, keeps, reads_front}
use Rattle.quic_c.proofs.front.read_front.Goals as goal

pub returns-in-None : goal.returns-in-None
returns-in-None g c =
    let over : IsSpent (first_of c.args.rules.short_types c.args.payload.now) =
    subst IsSpent c.in-Some.ensures.state c.in-None.ensures.steps.0 in
    let nothing = spent_is_empty c.args.rules.short_types c.args.payload.now over in
    search rules

pub returns-in-Some-Err : goal.returns-in-Some-Err
returns-in-Some-Err g c =
    let plain = invalid_of c.in-Some-Err.plain in
    let reported = invalid_of c.reported_by.result in
    let s =
    subst (λ f. Advances c.in-Some.iter (Some f) c.next.new.self) c.in-Some-Err.field-0-is c.in-Some-Err.ensures.steps in
    let here : LacksFrame (first_of c.args.rules.short_types c.args.payload.now) plain =
    subst (λ w. LacksFrame w plain) c.in-Some.ensures.state s.lacks in
    let first = is_lacking c.args.rules (first_of c.args.rules.short_types c.args.payload.now) plain reported here
    c.reported_by.ensures in
    let result = to_z w64 (of_z w64 c.refuse-in-Some-Err.result) in
    let count : result ≡ c.refuse-in-Some-Err.result = search rules in
    let reason = count ∙ c.refuse-in-Some-Err.ensures.reason in
    let reports : ReportsNone c.args.rules c.args.payload.now result c.refuse-in-Some-Err.new.out =
    record { reported = reported; first = first; reason = reason; is = c.refuse-in-Some-Err.ensures.words } in
    let some : c.args.payload.now ≡ [] → ⊥ = search rules in
    record {
      returns = inr (inl reports);
      empty = (λ e. absurd (not_empty reported.reason (sym reason ∙ e)), λ e. absurd (some e));
      same = λ e. absurd (not_empty reported.reason (sym reason ∙ e));
      kept = inr refl;
    }

pub returns-else-is_broken : goal.returns-else-is_broken
returns-else-is_broken g c =
    let frame = c.in-Some-Ok.frame in
    let here : c.in-Some.iter ≡ first_of c.args.rules.short_types c.args.payload.now = c.in-Some.ensures.state in
    let steps : Finds c.in-Some.iter frame c.next.new.self =
    subst (λ f. Advances c.in-Some.iter (Some f) c.next.new.self) c.in-Some-Ok.field-0-is c.in-Some-Ok.ensures.steps in
    let finds : Finds (first_of c.args.rules.short_types c.args.payload.now) frame c.next.new.self =
    subst (λ w. Finds w frame c.next.new.self) here steps in
    let kept =
    keeps c.args.rules (first_of c.args.rules.short_types c.args.payload.now) c.next.new.self frame
    c.breach_by-breach.result finds c.breach_by-breach.ensures (c.is_broken.ensures.kept c.if-is_broken.false) in
    let begins = c.type_read-ty.ensures.value (first_of c.args.rules.short_types c.args.payload.now) frame finds in
    let ends = c.pass_run-end.ensures in
    let reads =
    reads_front c.args.rules c.args.payload.now c.args.gaps.now c.pass_run-end.result c.show_front.result
    c.show_front.new.gaps frame c.next.new.self c.pass_run-end.new.iter
    c.type_read-ty.result finds kept ends.run ends.one ends.end begins c.show_front.ensures in
    let is : to_z w64 c.pass_run-end.result ≡ pos c.pass_run-end.result = search rules in
    record {
      returns = inr (inr (c.pass_run-end.result, is, reads));
      empty = search rules;
      same = search rules;
      kept = inl (c.pass_run-end.result, is);
    }

pub returns-then-is_broken : goal.returns-then-is_broken
returns-then-is_broken g c =
    let frame = c.in-Some-Ok.frame in
    let reported = invalid_of c.broken.result in
    let steps : Finds c.in-Some.iter frame c.next.new.self =
    subst (λ f. Advances c.in-Some.iter (Some f) c.next.new.self) c.in-Some-Ok.field-0-is c.in-Some-Ok.ensures.steps in
    let finds : Finds (first_of c.args.rules.short_types c.args.payload.now) frame c.next.new.self =
    subst (λ w. Finds w frame c.next.new.self) c.in-Some.ensures.state steps in
    let first =
    is_refused c.args.rules (first_of c.args.rules.short_types c.args.payload.now) c.next.new.self frame
    c.breach_by-breach.result c.last_type.result reported finds c.breach_by-breach.ensures
    (c.is_broken.ensures.broken c.if-is_broken.true) c.last_type.ensures c.broken.ensures in
    let result = to_z w64 (of_z w64 c.refuse.result) in
    let count : result ≡ c.refuse.result = search rules in
    let reason = count ∙ c.refuse.ensures.reason in
    let reports : ReportsNone c.args.rules c.args.payload.now result c.refuse.new.out =
    record { reported = reported; first = first; reason = reason; is = c.refuse.ensures.words } in
    let some : c.args.payload.now ≡ [] → ⊥ = search rules in
    record {
      returns = inr (inl reports);
      empty = (λ e. absurd (not_empty reported.reason (sym reason ∙ e)), λ e. absurd (some e));
      same = λ e. absurd (not_empty reported.reason (sym reason ∙ e));
      kept = inr refl;
    }
