use Rattle.std.proofs.Common.{◌≡◌, ◌∙◌, inl, inr, refl, rules, subst, sym, to_z, of_z, w32}
use Rattle.std.specs.Prelude.{◌≢◌, ℤ, pos}
use Rattle.quic_c.specs.Answers.{GivesInvalid}
use Rattle.quic_c.specs.Filling.{LeavesEntry}
use Rattle.quic_c_words.specs.Shown.{rules_in}
use Rattle.quic_c.proofs.FillSteps.{next_left, next_refused}
use Rattle.quic_c.proofs.fill.fill_other.Goals as goal

pub returns-then-answer-eq1 : goal.returns-then-answer-eq1
returns-then-answer-eq1 c =
    let a = c.next_other-answer.ensures in
    let one : c.next_other-answer.result ≡ pos 1 = search rules in
    let e = c.end_entry.ensures in
    inl (record {
      taken = refl;
      gives = e.gives (rules_in c.args.frames.now.flags) c.args.frames.now (a.frame one);
      within = e.within;
      going = e.going;
      flags = e.flags ∙ a.flags;
    })

pub returns-then-is_first : goal.returns-then-is_first
returns-then-is_first c =
    let a = c.next_other-answer in
    let other : a.result ≢ pos 1 = search rules in
    let count : to_z w32 (of_z w32 a.result) ≡ a.result = search rules in
    let by = rules_in c.args.frames.now.flags in
    let g = next_refused by c.args.frames.now c.args.payload.now c.args.out.now a.result a.new.frames a.new.out a.ensures
    other c.requires.going c.requires.within in
    inr (inl (
      c.if-is_first.true,
      subst (λ (z : ℤ). GivesInvalid by c.args.frames.now c.args.payload.now z a.new.frames a.new.out) (sym count) g,
    ))

pub returns : goal.returns
returns c =
    let a = c.next_other-answer in
    let other : a.result ≢ pos 1 = search rules in
    let count : to_z w32 (of_z w32 a.result) ≡ a.result = search rules in
    let by = rules_in c.args.frames.now.flags in
    let g = next_refused by c.args.frames.now c.args.payload.now c.args.out.now a.result a.new.frames a.new.out a.ensures
    other c.requires.going c.requires.within in
    let left = next_left by c.args.frames.now c.args.payload.now c.args.out.now a.result a.new.frames
    (record a.new.frames { ended = 0 }) a.new.out g other c.requires.going refl in
    inr (inr (
      c.if-is_first.false,
      subst (λ (z : ℤ). LeavesEntry by c.args.frames.now c.args.payload.now c.args.out.now z
          (record a.new.frames { ended = 0 }) c.args.out.now) (sym count) left,
    ))
