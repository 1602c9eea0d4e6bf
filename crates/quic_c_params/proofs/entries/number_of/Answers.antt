-- An entry whose value is no number.
use Rattle.std.proofs.Common.{◌≡◌, ℕ, ◌+◌, ◌-◌, take, drop, arith, inr, subst}
use Rattle.quic_base.specs.Varint.{Encodes}
use Rattle.quic_c_params.proofs.entries.number_of.Goals as goal

pub returns-in-None : goal.returns-in-None
returns-in-None c =
    let value : ℕ = c.args.read.now.value in
    let len : ℕ = c.args.read.now.value_len in
    let same : (value + len) - value ≡ len = omega arith in
    let none : (n : ℕ) → ¬ (Encodes n (take len (drop value c.args.list.now))) =
    subst (λ (k : ℕ). (n : ℕ) → ¬ (Encodes n (take k (drop value c.args.list.now)))) same c.in-None.ensures.value in
    inr (c.args.read.now, c.requires, none)
