use Rattle.std.proofs.Common.{◌≡◌, ◌<◌, ◌≤◌, ℕ, List, length, set, ap, arith, inl, inr, rules, subst, sym, ◌∙◌, to_z, of_z, w32}
use Rattle.std.specs.Prelude.{◌≢◌, ℤ, pos}
use Rattle.std.proofs.lemmas.Bool.Decides.{nat_tests}
use Rattle.std.proofs.lemmas.List.{set-get_or}
use Rattle.quic_results.proofs.FrameFailures.{not_count}
use Rattle.quic_c_words.specs.declared.words.CFrame.{CFrame}
use Rattle.quic_c_words.specs.declared.words.CFrameIter.{CFrameIter}
use Rattle.quic_c.specs.Answers.{GivesInvalid}
use Rattle.quic_c.specs.Filling.{AnswersFill, HasNoFrame, TakesEntry}
use Rattle.quic_c_words.specs.Shown.{rules_in, state_of}
use Rattle.quic_c.proofs.Filling.{filling_goes_on}
use Rattle.quic_c.proofs.FillSteps.{none_given, nothing_left, some_filled}
use Rattle.quic_c.proofs.fill.fill.Goals as goal

pub returns-then-filled-eq0 : goal.returns-then-filled-eq0
returns-then-filled-eq0 c =
    let here = c.loop-filled in
    let i = here.invariant in
    let by = rules_in c.args.frames.now.flags in
    let same = i.5 c.if-filled-eq0.true in
    let past : length c.args.payload.now ≤ here.frames.offset = search rules in
    let over : c.args.frames.now.offset ≡ length c.args.payload.now =
    omega (arith, past, i.1, ap (λ (f : CFrameIter). f.offset) same.0) in
    subst (λ (n : ℕ). AnswersFill by c.args.frames.now c.args.payload.now c.args.out.now c.args.count.now (pos 0) here.frames
    here.out n) (sym i.4)
    (nothing_left by c.args.frames.now here.frames c.args.payload.now c.args.out.now here.out c.args.count.now same.0 same.1
    over c.requires.room)

pub returns-then-filled-eq0-2 : goal.returns-then-filled-eq0-2
returns-then-filled-eq0-2 c =
    let here = c.loop-filled in
    let i = here.invariant in
    let by = rules_in c.args.frames.now.flags in
    let a = c.fill_one-answer in
    let none : here.filled ≡ 0 = c.if-filled-eq0-2.true in
    let same = i.5 none in
    let count : to_z w32 (of_z w32 a.result) ≡ a.result = search rules in
    let other : a.result ≢ pos 1 = search rules in
    let entries : set here.out here.filled a.new.out ≡ set c.args.out.now 0 a.new.out =
    ap (λ (l : List CFrame). set l here.filled a.new.out) same.1
    ∙ ap (λ (n : ℕ). set c.args.out.now n a.new.out) none in
    let Answers : ℤ → List CFrame → ℕ → Type 0 = λ z l n.
    AnswersFill by c.args.frames.now c.args.payload.now c.args.out.now c.args.count.now z a.new.frames l n in
    elim a.ensures [
      | inl t ↦ absurd (other t.taken)
      | inr (inl w) ↦
          let g : GivesInvalid by c.args.frames.now c.args.payload.now a.result a.new.frames a.new.out =
          subst (λ (f : CFrameIter). GivesInvalid (rules_in f.flags) f c.args.payload.now a.result a.new.frames a.new.out)
          same.0 w.1 in
          let given = none_given by c.args.frames.now c.args.payload.now c.args.out.now c.args.count.now a.result
          a.new.frames a.new.out g c.requires.within c.requires.room in
          subst (λ (z : ℤ). Answers z (set here.out here.filled a.new.out) here.count) (sym count)
          (subst (λ (l : List CFrame). Answers a.result l here.count) (sym entries)
          (subst (λ (n : ℕ). Answers a.result (set c.args.out.now 0 a.new.out) n) (sym i.4) given))
      | inr (inr w) ↦ absurd (grind (arith, nat_tests))
    ]

pub returns-then-answer-ne1 : goal.returns-then-answer-ne1
returns-then-answer-ne1 c =
    let here = c.loop-filled in
    let i = here.invariant in
    let by = rules_in c.args.frames.now.flags in
    let a = c.fill_one-answer in
    let other : a.result ≢ pos 1 = search rules in
    let some : 0 < here.filled = omega (arith, c.if-filled-eq0-2.false) in
    elim a.ensures [
      | inl t ↦ absurd (other t.taken)
      | inr (inl w) ↦ absurd (grind (arith, nat_tests))
      | inr (inr w) ↦
          let left = w.1 in
          let none : HasNoFrame by (state_of here.frames c.args.payload.now) =
          subst (λ (n : ℕ). HasNoFrame (rules_in n) (state_of here.frames c.args.payload.now)) i.3 left.none in
          let entries : set here.out here.filled a.new.out ≡ here.out =
          ap (λ (e : CFrame). set here.out here.filled e) left.kept ∙ set-get_or here.out here.filled _ in
          let Answers : CFrameIter → List CFrame → Type 0 = λ f l.
          AnswersFill by c.args.frames.now c.args.payload.now c.args.out.now c.args.count.now (pos 1) f l here.filled in
          subst (λ (f : CFrameIter). Answers f (set here.out here.filled a.new.out)) (sym left.same)
          (subst (λ (l : List CFrame). Answers here.frames l) (sym entries)
          (some_filled by c.args.frames.now c.args.payload.now c.args.out.now c.args.count.now here.frames here.out
          here.filled i.0 some (inr none) c.requires.within c.requires.room i.3))
    ]

pub loop-filled-preserved : goal.loop-filled-preserved
loop-filled-preserved c =
    let here = c.loop-filled in
    let i = here.invariant in
    let by = rules_in c.args.frames.now.flags in
    let a = c.fill_one-answer in
    let one : a.result ≡ pos 1 = search rules in
    elim a.ensures [
      | inl t ↦
          let taken : TakesEntry by here.frames c.args.payload.now a.result a.new.frames a.new.out =
          subst (λ (n : ℕ). TakesEntry (rules_in n) here.frames c.args.payload.now a.result a.new.frames a.new.out) i.3 t in (
            filling_goes_on by (state_of c.args.frames.now c.args.payload.now) c.args.out.now
                (state_of here.frames c.args.payload.now) here.out here.filled (state_of a.new.frames c.args.payload.now)
                a.new.out i.0 c.loop-filled-test.true taken.gives,
            t.within,
            t.going,
            t.flags ∙ i.3,
            i.4,
            λ none. absurd (omega (arith, none)),
          )
      | inr (inl w) ↦ absurd (not_count w.1.reported.reason 1 (sym w.1.reason ∙ one))
      | inr (inr w) ↦ absurd (w.1.other one)
    ]
