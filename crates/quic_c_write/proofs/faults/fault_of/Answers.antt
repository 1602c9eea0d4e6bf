use Rattle.std.proofs.Common.{◌≡◌, ℕ, [], ◌∷◌, Bool, true, refl, sym, ap, subst, ◌∙◌}
use Rattle.quic_c_write.specs.Faults.{fault_by, fits_by}
use Rattle.quic_results.specs.Faults.{first_false}
use Rattle.quic_c_write.proofs.FirstFaults.{stream_found, stream_fits}
use Rattle.quic_c_write.proofs.faults.fault_of.Goals as goal

pub returns-in-8-clause-found : goal.returns-in-8-clause-found
returns-in-8-clause-found c = λ content behind w t.
    subst (λ (k : ℕ). c.first_false-in-8.result
    ≡ fault_by k c.args.flags c.args.numbers c.args.whole content behind c.args.last) (sym c.in-8.is)
    (c.first_false-in-8.ensures.found
    ∙ stream_found c.args.flags c.args.numbers c.args.whole content behind _ _ _ c.args.last c.is_varint-in-8.ensures
    c.is_varint-in-8-2.ensures (c.is_open-has_data.ensures.test content w))

pub returns-in-8-clause-fits : goal.returns-in-8-clause-fits
returns-in-8-clause-fits c = λ content behind.
    subst (λ (k : ℕ). fits_by k c.args.flags c.args.numbers content behind c.args.last ≡ true) (sym c.in-8.is)
    (stream_fits c.args.flags c.args.numbers content behind c.args.last)

pub returns-in-18-clause-found : goal.returns-in-18-clause-found
returns-in-18-clause-found c = λ content behind w t.
    subst (λ (k : ℕ). c.first_false-in-18.result
    ≡ fault_by k c.args.flags c.args.numbers c.args.whole content behind c.args.last) (sym c.in-18.is)
    (c.first_false-in-18.ensures.found
    ∙ ap (λ (q : Bool). first_false 1 (true ∷ q ∷ [])) c.is_varint-in-18.ensures)

pub returns-in-18-clause-fits : goal.returns-in-18-clause-fits
returns-in-18-clause-fits c = λ content behind.
    subst (λ (k : ℕ). fits_by k c.args.flags c.args.numbers content behind c.args.last ≡ true) (sym c.in-18.is) refl

pub returns-in-19-clause-found : goal.returns-in-19-clause-found
returns-in-19-clause-found c = λ content behind w t.
    subst (λ (k : ℕ). c.first_false-in-19.result
    ≡ fault_by k c.args.flags c.args.numbers c.args.whole content behind c.args.last) (sym c.in-19.is)
    (c.first_false-in-19.ensures.found
    ∙ ap (λ (q : Bool). first_false 1 (true ∷ q ∷ [])) c.is_varint-in-19.ensures)

pub returns-in-19-clause-fits : goal.returns-in-19-clause-fits
returns-in-19-clause-fits c = λ content behind.
    subst (λ (k : ℕ). fits_by k c.args.flags c.args.numbers content behind c.args.last ≡ true) (sym c.in-19.is) refl

pub returns-in-22-clause-found : goal.returns-in-22-clause-found
returns-in-22-clause-found c = λ content behind w t.
    subst (λ (k : ℕ). c.first_false-in-22.result
    ≡ fault_by k c.args.flags c.args.numbers c.args.whole content behind c.args.last) (sym c.in-22.is)
    (c.first_false-in-22.ensures.found
    ∙ ap (λ (q : Bool). first_false 1 (true ∷ q ∷ [])) c.is_varint-in-22.ensures)

pub returns-in-22-clause-fits : goal.returns-in-22-clause-fits
returns-in-22-clause-fits c = λ content behind.
    subst (λ (k : ℕ). fits_by k c.args.flags c.args.numbers content behind c.args.last ≡ true) (sym c.in-22.is) refl

pub returns-in-23-clause-found : goal.returns-in-23-clause-found
returns-in-23-clause-found c = λ content behind w t.
    subst (λ (k : ℕ). c.first_false-in-23.result
    ≡ fault_by k c.args.flags c.args.numbers c.args.whole content behind c.args.last) (sym c.in-23.is)
    (c.first_false-in-23.ensures.found
    ∙ ap (λ (q : Bool). first_false 1 (true ∷ q ∷ [])) c.is_varint-in-23.ensures)

pub returns-in-23-clause-fits : goal.returns-in-23-clause-fits
returns-in-23-clause-fits c = λ content behind.
    subst (λ (k : ℕ). fits_by k c.args.flags c.args.numbers content behind c.args.last ≡ true) (sym c.in-23.is) refl
