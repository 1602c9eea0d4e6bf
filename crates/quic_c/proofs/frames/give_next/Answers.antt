use Rattle.std.proofs.Common.{rules, arith, inl, inr, sym, subst, ap, refl, ◌∙◌, ◌≡◌, Some, to_z, of_z, w32}
use Rattle.quic_results.proofs.FrameFailures.{not_count, not_place}
use Rattle.std.proofs.lemmas.Grind.{common_steps}
use Rattle.quic_frames.specs.IterState.{IterState}
use Rattle.quic_frames.specs.Checking.{IsRefusedFrame}
use Rattle.quic_frames.specs.Walk.{invalid_of, Advances, Finds, LacksFrame, IsSpent}
use Rattle.quic_c.specs.Answers.{GivesInvalid}
use Rattle.quic_c_words.specs.declared.words.CFrameIter.{CFrameIter}
use Rattle.quic_c.specs.Filling.{further}
use Rattle.quic_c_words.specs.Shown.{type_in, state_of}
use Rattle.quic_c.proofs.Types.{behind_frame, gives_frame, is_lacking, is_refused, keeps}
use Rattle.quic_c.proofs.frames.give_next.Goals as goal

pub returns-in-None : goal.returns-in-None
returns-in-None g c = record {
  returns = inr (inl refl);
  frame = search rules;
  end = λ _. subst IsSpent (sym c.requires.state) c.in-None.ensures.steps.0;
  outside = grind (arith, common_steps);
  same = inr (inr (refl, refl));
  flags = refl;
}

pub returns-in-Some-Err : goal.returns-in-Some-Err
returns-in-Some-Err g c =
    let plain = invalid_of c.in-Some-Err.plain in
    let reported = invalid_of c.reported_by-invalid.result in
    let s =
    subst (λ f. Advances c.args.iter.now (Some f) c.next.new.self) c.in-Some-Err.field-0-is c.in-Some-Err.ensures.steps in
    let here : LacksFrame (state_of c.args.frames.now c.args.iter.now.payload) plain =
    subst (λ (w : IterState). LacksFrame w plain) (sym c.requires.state) s.lacks in
    let first = is_lacking c.args.rules (state_of c.args.frames.now c.args.iter.now.payload) plain reported here
    c.reported_by-invalid.ensures in
    let result = to_z w32 (of_z w32 c.refuse-in-Some-Err.result) in
    let count : result ≡ c.refuse-in-Some-Err.result = search rules in
    let reason = count ∙ c.refuse-in-Some-Err.ensures.reason in
    let gives : GivesInvalid c.args.rules c.args.frames.now c.args.iter.now.payload result c.refuse-in-Some-Err.new.frames
    c.refuse-in-Some-Err.new.out =
    record {
      reported = reported;
      first = first;
      reason = reason;
      over = c.refuse-in-Some-Err.ensures.over;
      words = c.refuse-in-Some-Err.ensures.words;
    } in
    record {
      returns = inr (inr (inr gives));
      frame = λ e. absurd (not_count reported.reason 1 (sym reason ∙ e));
      end = λ e. absurd (not_count reported.reason 0 (sym reason ∙ e));
      outside = (
        λ e. absurd (not_place reported.reason (sym reason ∙ e)),
        λ beyond. absurd (omega (arith, beyond, c.requires.within)),
      );
      same = inr (inl gives);
      flags = ap (λ (f : CFrameIter). f.flags) gives.over;
    }

pub returns-else-is_broken : goal.returns-else-is_broken
returns-else-is_broken g c =
    let frame = c.in-Some-Ok.frame in
    let type = c.type_read-ty.result in
    let stop = c.offset-end.result in
    let finds : Finds c.args.iter.now frame c.next.new.self =
    subst (λ f. Advances c.args.iter.now (Some f) c.next.new.self) c.in-Some-Ok.field-0-is c.in-Some-Ok.ensures.steps in
    let begins = c.type_read-ty.ensures.value c.args.iter.now frame finds in
    let on =
    behind_frame c.args.iter.now c.next.new.self frame finds stop type c.offset-end.ensures.value begins c.type_read-ty.ensures.fits in
    let kept =
    keeps c.args.rules c.args.iter.now c.next.new.self frame c.breach_by-breach.result finds c.breach_by-breach.ensures
    (c.is_broken.ensures.kept c.if-is_broken.false) in
    record {
      returns = inl refl;
      frame = λ _. gives_frame c.args.rules _ _ _ _ c.args.iter.now c.next.new.self frame type finds kept
          c.requires.state
          (ap (λ (w : IterState). further w stop (type_in type)) c.requires.state ∙ on) begins c.show.ensures;
      end = search rules;
      outside = grind (arith, common_steps);
      same = inl refl;
      flags = refl;
    }

pub returns-then-is_broken : goal.returns-then-is_broken
returns-then-is_broken g c =
    let frame = c.in-Some-Ok.frame in
    let reported = invalid_of c.broken.result in
    let finds : Finds c.args.iter.now frame c.next.new.self =
    subst (λ f. Advances c.args.iter.now (Some f) c.next.new.self) c.in-Some-Ok.field-0-is c.in-Some-Ok.ensures.steps in
    let here : IsRefusedFrame c.args.rules c.args.iter.now reported =
    is_refused c.args.rules c.args.iter.now c.next.new.self frame c.breach_by-breach.result c.last_type.result reported finds
    c.breach_by-breach.ensures (c.is_broken.ensures.broken c.if-is_broken.true) c.last_type.ensures c.broken.ensures in
    let first : IsRefusedFrame c.args.rules (state_of c.args.frames.now c.args.iter.now.payload) reported =
    subst (λ (w : IterState). IsRefusedFrame c.args.rules w reported) (sym c.requires.state) here in
    let result = to_z w32 (of_z w32 c.refuse.result) in
    let count : result ≡ c.refuse.result = search rules in
    let reason = count ∙ c.refuse.ensures.reason in
    let gives : GivesInvalid c.args.rules c.args.frames.now c.args.iter.now.payload result c.refuse.new.frames c.refuse.new.out =
    record { reported = reported; first = first; reason = reason; over = c.refuse.ensures.over; words = c.refuse.ensures.words } in
    record {
      returns = inr (inr (inr gives));
      frame = λ e. absurd (not_count reported.reason 1 (sym reason ∙ e));
      end = λ e. absurd (not_count reported.reason 0 (sym reason ∙ e));
      outside = (
        λ e. absurd (not_place reported.reason (sym reason ∙ e)),
        λ beyond. absurd (omega (arith, beyond, c.requires.within)),
      );
      same = inr (inl gives);
      flags = ap (λ (f : CFrameIter). f.flags) gives.over;
    }
