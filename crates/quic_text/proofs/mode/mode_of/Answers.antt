-- The argument after `datagram` is the only one.
use Rattle.std.proofs.Common.{◌≡◌, ◌≤◌, ◌<◌, ℕ, List, [], ◌∷◌, Bor, codes, map, length, get_or, ap, sym, subst, ◌∙◌, arith}
use Rattle.quic_text.specs.IdLens.{IsIdLen}
use Rattle.std.proofs.lemmas.Grind.{common_steps}
use Rattle.quic_text.proofs.mode.mode_of.Goals as goal

two_words : (words : List (Bor (List ℕ))) (other : Bor (List ℕ)) (first : List ℕ) → 2 ≤ length words → length words < 3
    → (get_or words 0 other).now ≡ first
    → map (λ word. word.now) words ≡ first ∷ (get_or words 1 other).now ∷ []
two_words [] other first some few e = absurd (omega (arith, some))
two_words (a ∷ []) other first some few e = absurd (omega (arith, some))
two_words (a ∷ b ∷ []) other first some few e = ap (λ (w : List ℕ). w ∷ b.now ∷ []) e
two_words (a ∷ b ∷ d ∷ ws) other first some few e = absurd (omega (arith, few))

second : (first word other : List ℕ) → first ∷ word ∷ [] ≡ first ∷ other ∷ [] → other ≡ word
second first word other e = cc

pub returns-in-datagram-clause-datagram : goal.returns-in-datagram-clause-datagram
returns-in-datagram-clause-datagram c =
    let texts = two_words c.args.words.now _ (codes "datagram") c.in-datagram.len_at_least c.in-datagram.len_below c.in-datagram.is-datagram in
    λ len. (
      λ asked. (_, texts, (c.datagram_mode.ensures.len len).0 asked),
      λ found. (c.datagram_mode.ensures.len len).1 (subst (IsIdLen len) (second (codes "datagram") _ found.0 (sym texts ∙ found.1)) found.2),
    )

pub returns-in-canon-clause-canon : goal.returns-in-canon-clause-canon
returns-in-canon-clause-canon c = grind (arith, common_steps)

pub returns-in-canon-clause-client : goal.returns-in-canon-clause-client
returns-in-canon-clause-client c = grind (arith, common_steps)

pub returns-in-canon-clause-datagram : goal.returns-in-canon-clause-datagram
returns-in-canon-clause-datagram c = grind (arith, common_steps)

pub returns-in-canon-clause-frames : goal.returns-in-canon-clause-frames
returns-in-canon-clause-frames c = grind (arith, common_steps)

pub returns-in-canon-clause-server : goal.returns-in-canon-clause-server
returns-in-canon-clause-server c = grind (arith, common_steps)

pub returns-in-canon-clause-strict : goal.returns-in-canon-clause-strict
returns-in-canon-clause-strict c = grind (arith, common_steps)

pub returns-in-datagram-clause-canon : goal.returns-in-datagram-clause-canon
returns-in-datagram-clause-canon c = grind (arith, common_steps)

pub returns-in-datagram-clause-client : goal.returns-in-datagram-clause-client
returns-in-datagram-clause-client c = grind (arith, common_steps)

pub returns-in-datagram-clause-frames : goal.returns-in-datagram-clause-frames
returns-in-datagram-clause-frames c = grind (arith, common_steps)

pub returns-in-datagram-clause-server : goal.returns-in-datagram-clause-server
returns-in-datagram-clause-server c = grind (arith, common_steps)

pub returns-in-datagram-clause-strict : goal.returns-in-datagram-clause-strict
returns-in-datagram-clause-strict c = grind (arith, common_steps)

pub returns-in-params-2-clause-canon : goal.returns-in-params-2-clause-canon
returns-in-params-2-clause-canon c = grind (arith, common_steps)

pub returns-in-params-2-clause-client : goal.returns-in-params-2-clause-client
returns-in-params-2-clause-client c = grind (arith, common_steps)

pub returns-in-params-2-clause-datagram : goal.returns-in-params-2-clause-datagram
returns-in-params-2-clause-datagram c = grind (arith, common_steps)

pub returns-in-params-2-clause-frames : goal.returns-in-params-2-clause-frames
returns-in-params-2-clause-frames c = grind (arith, common_steps)

pub returns-in-params-2-clause-server : goal.returns-in-params-2-clause-server
returns-in-params-2-clause-server c = grind (arith, common_steps)

pub returns-in-params-2-clause-strict : goal.returns-in-params-2-clause-strict
returns-in-params-2-clause-strict c = grind (arith, common_steps)

pub returns-in-params-clause-canon : goal.returns-in-params-clause-canon
returns-in-params-clause-canon c = grind (arith, common_steps)

pub returns-in-params-clause-client : goal.returns-in-params-clause-client
returns-in-params-clause-client c = grind (arith, common_steps)

pub returns-in-params-clause-datagram : goal.returns-in-params-clause-datagram
returns-in-params-clause-datagram c = grind (arith, common_steps)

pub returns-in-params-clause-frames : goal.returns-in-params-clause-frames
returns-in-params-clause-frames c = grind (arith, common_steps)

pub returns-in-params-clause-server : goal.returns-in-params-clause-server
returns-in-params-clause-server c = grind (arith, common_steps)

pub returns-in-params-clause-strict : goal.returns-in-params-clause-strict
returns-in-params-clause-strict c = grind (arith, common_steps)

pub returns-in-strict-clause-canon : goal.returns-in-strict-clause-canon
returns-in-strict-clause-canon c = grind (arith, common_steps)

pub returns-in-strict-clause-client : goal.returns-in-strict-clause-client
returns-in-strict-clause-client c = grind (arith, common_steps)

pub returns-in-strict-clause-datagram : goal.returns-in-strict-clause-datagram
returns-in-strict-clause-datagram c = grind (arith, common_steps)

pub returns-in-strict-clause-frames : goal.returns-in-strict-clause-frames
returns-in-strict-clause-frames c = grind (arith, common_steps)

pub returns-in-strict-clause-server : goal.returns-in-strict-clause-server
returns-in-strict-clause-server c = grind (arith, common_steps)

pub returns-in-strict-clause-strict : goal.returns-in-strict-clause-strict
returns-in-strict-clause-strict c = grind (arith, common_steps)

pub returns-in_default-2-clause-canon : goal.returns-in_default-2-clause-canon
returns-in_default-2-clause-canon c = grind (arith, common_steps)

pub returns-in_default-2-clause-client : goal.returns-in_default-2-clause-client
returns-in_default-2-clause-client c = grind (arith, common_steps)

pub returns-in_default-2-clause-datagram : goal.returns-in_default-2-clause-datagram
returns-in_default-2-clause-datagram c = grind (arith, common_steps)

pub returns-in_default-2-clause-frames : goal.returns-in_default-2-clause-frames
returns-in_default-2-clause-frames c = grind (arith, common_steps)

pub returns-in_default-2-clause-server : goal.returns-in_default-2-clause-server
returns-in_default-2-clause-server c = grind (arith, common_steps)

pub returns-in_default-2-clause-strict : goal.returns-in_default-2-clause-strict
returns-in_default-2-clause-strict c = grind (arith, common_steps)

pub returns-in_default-3-clause-canon : goal.returns-in_default-3-clause-canon
returns-in_default-3-clause-canon c = grind (arith, common_steps)

pub returns-in_default-3-clause-client : goal.returns-in_default-3-clause-client
returns-in_default-3-clause-client c = grind (arith, common_steps)

pub returns-in_default-3-clause-datagram : goal.returns-in_default-3-clause-datagram
returns-in_default-3-clause-datagram c = grind (arith, common_steps)

pub returns-in_default-3-clause-frames : goal.returns-in_default-3-clause-frames
returns-in_default-3-clause-frames c = grind (arith, common_steps)

pub returns-in_default-3-clause-server : goal.returns-in_default-3-clause-server
returns-in_default-3-clause-server c = grind (arith, common_steps)

pub returns-in_default-3-clause-strict : goal.returns-in_default-3-clause-strict
returns-in_default-3-clause-strict c = grind (arith, common_steps)

pub returns-in_default-4-clause-canon : goal.returns-in_default-4-clause-canon
returns-in_default-4-clause-canon c = grind (arith, common_steps)

pub returns-in_default-4-clause-client : goal.returns-in_default-4-clause-client
returns-in_default-4-clause-client c = grind (arith, common_steps)

pub returns-in_default-4-clause-datagram : goal.returns-in_default-4-clause-datagram
returns-in_default-4-clause-datagram c = grind (arith, common_steps)

pub returns-in_default-4-clause-frames : goal.returns-in_default-4-clause-frames
returns-in_default-4-clause-frames c = grind (arith, common_steps)

pub returns-in_default-4-clause-server : goal.returns-in_default-4-clause-server
returns-in_default-4-clause-server c = grind (arith, common_steps)

pub returns-in_default-4-clause-strict : goal.returns-in_default-4-clause-strict
returns-in_default-4-clause-strict c = grind (arith, common_steps)

pub returns-in_default-5-clause-canon : goal.returns-in_default-5-clause-canon
returns-in_default-5-clause-canon c = grind (arith, common_steps)

pub returns-in_default-5-clause-client : goal.returns-in_default-5-clause-client
returns-in_default-5-clause-client c = grind (arith, common_steps)

pub returns-in_default-5-clause-frames : goal.returns-in_default-5-clause-frames
returns-in_default-5-clause-frames c = grind (arith, common_steps)

pub returns-in_default-5-clause-server : goal.returns-in_default-5-clause-server
returns-in_default-5-clause-server c = grind (arith, common_steps)

pub returns-in_default-5-clause-strict : goal.returns-in_default-5-clause-strict
returns-in_default-5-clause-strict c = grind (arith, common_steps)

pub returns-in_default-clause-canon : goal.returns-in_default-clause-canon
returns-in_default-clause-canon c = grind (arith, common_steps)

pub returns-in_default-clause-client : goal.returns-in_default-clause-client
returns-in_default-clause-client c = grind (arith, common_steps)

pub returns-in_default-clause-frames : goal.returns-in_default-clause-frames
returns-in_default-clause-frames c = grind (arith, common_steps)

pub returns-in_default-clause-server : goal.returns-in_default-clause-server
returns-in_default-clause-server c = grind (arith, common_steps)

pub returns-in_default-clause-strict : goal.returns-in_default-clause-strict
returns-in_default-clause-strict c = grind (arith, common_steps)
