-- Entries that are filled one after the other.
use Rattle.std.proofs.Common.{◌≡◌, ℕ, ◌+◌, ◌<◌, ◌≤◌, List, [], ◌∷◌, ◌++◌, length, take, drop, set, refl, sym, ap, subst, ◌∙◌, inl, inr, arith}
use Rattle.std.specs.Prelude.{◌⊎◌, zero, suc}
use Rattle.std.proofs.lemmas.List.{take_more_set, drop-set-lt}
use Rattle.std.proofs.Math.ListN.{length-set}
use Rattle.std.proofs.lemmas.Grind.{drop_more_same}
use Rattle.quic_frames.specs.IterState.{IterState}
use Rattle.quic_frames.specs.declared.frame.rules.Rules.{Rules}
use Rattle.quic_frames.specs.Padding.{PassesPadding, behind}
use Rattle.quic_c_words.specs.declared.words.CFrame.{CFrame}
use Rattle.quic_c.specs.Filling.{GivesEntry, Shows, HasNoFrame, Fills, further}

-- one entry more
pub shows-append : {P E : Type 0} (step : P → E → P → Type 0) (old : P) (entries : List E) (here : P) (entry : E) (new : P)
    → Shows step old entries here → step here entry new → Shows step old (entries ++ entry ∷ []) new
shows-append step old [] here entry new s gives = (new, subst (λ w. step w entry new) (sym s) gives, refl)
shows-append step old (first ∷ entries) here entry new s gives =
    (s.0, s.1, shows-append step s.0 entries here entry new s.2 gives)

-- ---- places over one payload

abbrev IsFurther : IterState → IterState → Type 0
IsFurther old new = new ≡ further old new.offset new.last

behind_further : (n : ℕ) (state : IterState) → IsFurther state (behind n state)
behind_further zero state = refl
behind_further (suc n) state = refl

passed_further : (old new : IterState) (count : ℕ) → PassesPadding old count new → IsFurther old new
passed_further old new count p = subst (λ (w : IterState). IsFurther old w) (sym p.comes) (behind_further count old)

pub passed_payload : (old new : IterState) (count : ℕ) → PassesPadding old count new → new.payload ≡ old.payload
passed_payload old new count p = ap (λ (w : IterState). w.payload) (passed_further old new count p)

-- ---- the loop

-- So many entries are filled, from a place up to another one.
pub record Filling (rules : Rules) (old : IterState) (before : List CFrame) (here : IterState) (after : List CFrame)
    (count : ℕ) : Type 0 where
  pub few : count ≤ length after
  pub all : length after ≡ length before
  pub shows : Shows (GivesEntry rules) old (take count after) here
  pub kept : drop count after ≡ drop count before

pub kinds : (n : ℕ) → (n ≡ 0) ⊎ (0 < n)
kinds zero = inl refl
kinds (suc n) = inr (omega arith)

pub filling_goes_on : (rules : Rules) (old : IterState) (before : List CFrame) (here : IterState) (after : List CFrame) (count : ℕ)
    (new : IterState) (entry : CFrame) → Filling rules old before here after count → count < length after
    → GivesEntry rules here entry new → Filling rules old before new (set after count entry) (count + 1)
filling_goes_on rules old before here after count new entry s room gives =
    let front : take (count + 1) (set after count entry) ≡ take count after ++ entry ∷ [] =
    take_more_set after count entry room in
    record {
      few = simp length-set (omega arith);
      all = simp length-set s.all;
      shows = rw front (shows-append (GivesEntry rules) old (take count after) here entry new s.shows gives);
      kept = drop-set-lt (count + 1) after count entry (omega arith) ∙ drop_more_same after before count s.kept;
    }

-- where it ends
pub filling_ends : (rules : Rules) (old : IterState) (before : List CFrame) (here : IterState) (after : List CFrame)
    (count : ℕ) → Filling rules old before here after count → (count ≡ length before) ⊎ HasNoFrame rules here
    → Fills rules old before here after count
filling_ends rules old before here after count s why =
    record { few = rw (← s.all) s.few; shows = s.shows; kept = s.kept; full = why }
