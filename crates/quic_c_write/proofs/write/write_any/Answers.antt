use Rattle.std.proofs.Common.{◌≡◌, ◌∙◌, Bool, List, Some, ap, arith, of_z, rules, subst, sym, to_z, w32, ℕ}
use Rattle.std.proofs.lemmas.Grind.{common_steps}
use Rattle.quic_frames.specs.Rules.{breach_text}
use Rattle.quic_frames.specs.declared.frame.rules.Breach.{Breach}
use Rattle.quic_results.specs.Results.{failed, frame_failure}
use Rattle.quic_c_write.specs.Written.{CanWriteFrame}
use Rattle.quic_c_write.proofs.AnyData.{breaks_anyhow, same_breach}
use Rattle.quic_c_write.proofs.write.write_any.Goals as goal

pub returns-in-Err-clause-room : goal.returns-in-Err-clause-room
returns-in-Err-clause-room c = grind (arith, common_steps)

pub returns-in-Some-breach_of_flags-clause-broken :
    goal.returns-in-Some-breach_of_flags-clause-broken
returns-in-Some-breach_of_flags-clause-broken c = λ f b can breaks.
    let s = c.number-in-Some-breach_of_flags in
    let count : to_z w32 (of_z w32 s.result) ≡ s.result = search rules in
    let here = subst (λ (last : Bool). CanWriteFrame c.args.frame.now c.args.data.now last c.in-Some.frame)
    c.is_last-last.ensures c.in-Some.ensures.some in
    let found : c.breach_of_flags.result ≡ Some b =
    same_breach c.args.frame.now c.args.data.now c.args.flags c.in-Some.frame f c.breach_of_flags.result b here can
    c.breach_of_flags.ensures breaks in
    let is : c.in-Some-breach_of_flags.breach ≡ b = cc (found, c.in-Some-breach_of_flags.is) in
    count ∙ s.ensures ∙ ap failed c.frame_failure.ensures
    ∙ ap (λ (r : List ℕ). failed (frame_failure r)) c.reason.ensures
    ∙ ap (λ (x : Breach). failed (frame_failure (breach_text x))) is

pub returns-in-Some-breach_of_flags-clause-any_data :
    goal.returns-in-Some-breach_of_flags-clause-any_data
returns-in-Some-breach_of_flags-clause-any_data c = λ lacks others.
    let s = c.number-in-Some-breach_of_flags in
    let count : to_z w32 (of_z w32 s.result) ≡ s.result = search rules in
    let here = subst (λ (last : Bool). CanWriteFrame c.args.frame.now c.args.data.now last c.in-Some.frame)
    c.is_last-last.ensures c.in-Some.ensures.some in
    breaks_anyhow c.args.frame.now c.args.data.now others c.args.flags c.in-Some.frame c.in-Some-breach_of_flags.breach _
    c.args.out.now c.args.out.now c.args.written.now here lacks
    (sym c.breach_of_flags.ensures ∙ c.in-Some-breach_of_flags.is)
    (count ∙ s.ensures ∙ ap failed c.frame_failure.ensures
    ∙ ap (λ (r : List ℕ). failed (frame_failure r)) c.reason.ensures)
