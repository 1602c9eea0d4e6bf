-- Whether entries are runs.
use Rattle.std.proofs.Common.{◌≡◌, ℕ, suc, ◌+◌, ◌<◌, ◌≤◌, ◌⊎◌, inl, inr, List, ◌∷◌, length, drop, get_or, sym, ap, subst, arith}
use Rattle.std.proofs.Math.Seq.{drop-cons}
use Rattle.std.proofs.lemmas.List.{drop_all}
use Rattle.quic_ranges.specs.Runs.{RunsFrom, IsMaximalRuns}
use Rattle.quic_c_entries.specs.declared.words.CRange.{CRange}
use Rattle.quic_c_entries.specs.Entries.{range_of, runs_of}
use Rattle.quic_c_entries.proofs.Placing.{nowhere}

-- the entries are maximal runs exactly when those from an index on are, after a run with this end
pub record LooksOn (words : List CRange) (end at : ℕ) : Type 0 where
  pub further : IsMaximalRuns (runs_of words) → RunsFrom (end + 1) (runs_of (drop at words))
  pub back : RunsFrom (end + 1) (runs_of (drop at words)) → IsMaximalRuns (runs_of words)

at_place : (words : List CRange) (least at : ℕ) → at < length words → RunsFrom least (runs_of (drop at words))
    ≡ RunsFrom least (range_of (get_or words at nowhere) ∷ runs_of (drop (suc at) words))
at_place words least at lt = ap (λ (l : List CRange). RunsFrom least (runs_of l)) (drop-cons words at nowhere lt)

pub not_at : (words : List CRange) (end at : ℕ) → at < length words → LooksOn words end at
    → ((get_or words at nowhere).start ≤ end) ⊎ ((get_or words at nowhere).end ≤ (get_or words at nowhere).start)
    → IsMaximalRuns (runs_of words) → ⊥
not_at words end at lt l bad h =
    let here : RunsFrom (end + 1) (range_of (get_or words at nowhere) ∷ runs_of (drop (suc at) words)) =
    subst (λ (l : List CRange). RunsFrom (end + 1) (runs_of l)) (drop-cons words at nowhere lt) (l.further h) in
    elim bad [ inl touches ↦ omega (arith, here.0, touches) | inr none ↦ omega (arith, here.1, none) ]

pub all_runs : (words : List CRange) (end at : ℕ) → length words ≤ at → LooksOn words end at
    → IsMaximalRuns (runs_of words)
all_runs words end at le l =
    l.back (subst (λ (l : List CRange). RunsFrom (end + 1) (runs_of l)) (sym (drop_all at words le)) tt)
