-- What is left of bytes of which more and more is passed on.
use Rattle.std.proofs.Common.{◌≡◌, ◌++◌, ℕ, List, [], Result, Ok, Err, OnErr, refl, sym, ap, ◌∙◌, append_assoc, append-nil}
use Rattle.quic_text.specs.Whole.{AppendsAllBut, AppendsBeginning}

pub nothing_passed : (old bytes : List ℕ) → AppendsAllBut old old bytes bytes
nothing_passed old bytes = record { front = []; appended = sym (append-nil old); whole = refl }

pub all_waits : (old waits bytes : List ℕ) → waits ≡ bytes → AppendsAllBut old old waits bytes
all_waits old waits bytes e = record { front = []; appended = sym (append-nil old); whole = sym e }

-- some of what is held back is passed on, and more follows it
pub passed_on : (old mid new held held' more waits bytes : List ℕ) → held ++ more ≡ waits
    → AppendsAllBut old mid waits bytes
    → AppendsAllBut mid new held' held → AppendsAllBut old new (held' ++ more) bytes
passed_on old mid new held held' more waits bytes e h k = record {
  front = h.front ++ k.front;
  appended = k.appended ∙ ap (λ (xs : List ℕ). xs ++ k.front) h.appended ∙ append_assoc old h.front k.front;
  whole = h.whole ∙ ap (λ (xs : List ℕ). h.front ++ xs) (sym e) ∙ ap (λ (xs : List ℕ). h.front ++ (xs ++ more)) k.whole ∙ simp append_assoc;
}

pub a_beginning : (old new rest bytes : List ℕ) → AppendsAllBut old new rest bytes → AppendsBeginning old new bytes
a_beginning old new rest bytes h = record { front = h.front; rest = rest; appended = h.appended; whole = h.whole }

pub beginning_passed : (old mid new held more waits bytes : List ℕ) → held ++ more ≡ waits
    → AppendsAllBut old mid waits bytes
    → AppendsBeginning mid new held → AppendsBeginning old new bytes
beginning_passed old mid new held more waits bytes e h k = record {
  front = h.front ++ k.front;
  rest = k.rest ++ more;
  appended = k.appended ∙ ap (λ (xs : List ℕ). xs ++ k.front) h.appended ∙ append_assoc old h.front k.front;
  whole = h.whole ∙ ap (λ (xs : List ℕ). h.front ++ xs) (sym e) ∙ ap (λ (xs : List ℕ). h.front ++ (xs ++ more)) k.whole ∙ simp append_assoc;
}

pub nothing_begun : (old bytes : List ℕ) → AppendsBeginning old old bytes
nothing_begun old bytes = record { front = []; rest = bytes; appended = sym (append-nil old); whole = refl }

pub on_err : {T E P : Type 0} (r : Result T E) → P → OnErr r P
on_err (Ok x) h = tt
on_err (Err e) h = h
