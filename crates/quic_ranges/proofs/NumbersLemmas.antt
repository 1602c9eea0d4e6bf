-- Lemmas on the numbers of ranges.
use Rattle.std.proofs.Common.{◌≡◌, ℕ, ◌+◌, ◌-◌, ◌<◌, ◌≤◌, suc, zero, List, [], ◌∷◌, ◌++◌, refl, ap, sym, ◌∙◌, subst, arith, append_assoc, add-one}
use Rattle.std.proofs.lemmas.List.{append-nil}
use Rattle.std.specs.declared.ops.Range.{Range}
use Rattle.quic_ranges.specs.Runs.{RunsFrom}
use Rattle.quic_ranges.specs.Numbers.{count_from, numbers, numbers_of, AreNonempty}
use Rattle.quic_ranges.proofs.RunsLemmas.{range}

pub numbers-none : (a b : ℕ) → b ≤ a → numbers (range a b) ≡ []
unfolding numbers
numbers-none a b le = let e : b - a ≡ 0 = omega arith in rw e refl

pub numbers-first : (a b : ℕ) → a < b → numbers (range a b) ≡ a ∷ numbers (range (a + 1) b)
unfolding numbers
numbers-first a b lt =
    let e : b - a ≡ suc (b - (a + 1)) = omega arith in
    let e2 : a + 1 ≡ suc a = add-one a in
    rw (e, e2) refl

count_from-last : (a n : ℕ) → count_from a (suc n) ≡ count_from a n ++ (a + n) ∷ []
count_from-last a zero = ap (λ m. m ∷ []) (omega arith)
count_from-last a (suc n) =
    ap (λ l. a ∷ l) (count_from-last (suc a) n ∙ ap (λ m. count_from (suc a) n ++ m ∷ []) (omega arith))

pub numbers-last : (a b : ℕ) → a < b → numbers (range a b) ≡ numbers (range a (b - 1)) ++ (b - 1) ∷ []
unfolding numbers
numbers-last a b lt =
    let e : b - a ≡ suc (b - 1 - a) = omega arith in
    let e2 : a + (b - 1 - a) ≡ b - 1 = omega arith in
    ap (count_from a) e ∙ count_from-last a (b - 1 - a) ∙ ap (λ m. count_from a (b - 1 - a) ++ m ∷ []) e2

pub numbers_of-push : (rs : List (Range ℕ)) (r : Range ℕ) → numbers_of (rs ++ r ∷ []) ≡ numbers_of rs ++ numbers r
numbers_of-push [] r = append-nil (numbers r)
numbers_of-push (s ∷ rs) r =
    ap (λ l. numbers s ++ l) (numbers_of-push rs r) ∙ sym (append_assoc (numbers s) (numbers_of rs) (numbers r))

pub AreNonempty-runs : (n : ℕ) (rs : List (Range ℕ)) → RunsFrom n rs → AreNonempty rs
AreNonempty-runs n [] h = tt
AreNonempty-runs n (r ∷ rs) h = (h.1, AreNonempty-runs (r.end + 1) rs h.2)

pub AreNonempty-push : (rs : List (Range ℕ)) (r : Range ℕ) → AreNonempty (rs ++ r ∷ [])
    → AreNonempty rs × (r.start < r.end)
AreNonempty-push [] r h = (tt, h.0)
AreNonempty-push (s ∷ rs) r h = let ih = AreNonempty-push rs r h.1 in ((h.0, ih.0), ih.1)

-- the view of an iterator over members: what is left of a front range, the runs between, and a back range
pub elts-front : (f b : Range ℕ) (rs : List (Range ℕ)) (v : List ℕ) → f.start < f.end
    → numbers f ++ (numbers_of rs ++ numbers b) ≡ v
    → v ≡ f.start ∷ (numbers (range (f.start + 1) f.end) ++ (numbers_of rs ++ numbers b))
elts-front f b rs v lt view = sym view ∙ ap (λ l. l ++ (numbers_of rs ++ numbers b)) (numbers-first f.start f.end lt)

pub elts-run : (f b r : Range ℕ) (rs ss : List (Range ℕ)) (v : List ℕ) → f.end ≤ f.start → ss ≡ r ∷ rs → AreNonempty ss
    → numbers f ++ (numbers_of ss ++ numbers b) ≡ v
    → v ≡ r.start ∷ (numbers (range (r.start + 1) r.end) ++ (numbers_of rs ++ numbers b))
elts-run f b r rs ss v le step nonempty view =
    let all : AreNonempty (r ∷ rs) = subst AreNonempty step nonempty in
    sym view ∙ ap (λ l. l ++ (numbers_of ss ++ numbers b)) (numbers-none f.start f.end le)
    ∙ ap (λ l. numbers_of l ++ numbers b) step
    ∙ append_assoc (numbers r) (numbers_of rs) (numbers b)
    ∙ ap (λ l. l ++ (numbers_of rs ++ numbers b)) (numbers-first r.start r.end all.0)

pub elts-back : (f b : Range ℕ) (rs ss : List (Range ℕ)) (v : List ℕ) → f.end ≤ f.start → b.start < b.end → ss ≡ []
    → rs ≡ [] → numbers f ++ (numbers_of ss ++ numbers b) ≡ v
    → v ≡ b.start ∷ (numbers f ++ (numbers_of rs ++ numbers (range (b.start + 1) b.end)))
elts-back f b rs ss v le lt none none' view =
    sym view ∙ ap (λ l. l ++ (numbers_of ss ++ numbers b)) (numbers-none f.start f.end le)
    ∙ ap (λ l. numbers_of l ++ numbers b) none ∙ numbers-first b.start b.end lt
    ∙ ap (λ l. b.start ∷ l) (sym (ap (λ l. l ++ (numbers_of rs ++ numbers (range (b.start + 1) b.end)))
    (numbers-none f.start f.end le) ∙ ap (λ l. numbers_of l ++ numbers (range (b.start + 1) b.end)) none'))

pub elts-none : (f b : Range ℕ) (rs : List (Range ℕ)) → f.end ≤ f.start → b.end ≤ b.start → rs ≡ []
    → numbers f ++ (numbers_of rs ++ numbers b) ≡ []
elts-none f b rs le le' none =
    ap (λ l. l ++ (numbers_of rs ++ numbers b)) (numbers-none f.start f.end le)
    ∙ ap (λ l. numbers_of l ++ numbers b) none ∙ numbers-none b.start b.end le'

pub elts-all : (rs : List (Range ℕ)) → numbers (range 0 0) ++ (numbers_of rs ++ numbers (range 0 0)) ≡ numbers_of rs
elts-all rs =
    ap (λ l. l ++ (numbers_of rs ++ numbers (range 0 0))) (numbers-none 0 0 (omega arith))
    ∙ ap (λ l. numbers_of rs ++ l) (numbers-none 0 0 (omega arith)) ∙ append-nil (numbers_of rs)

-- the same from the back
push-last : (xs ys zs : List ℕ) (z : ℕ) → xs ++ (ys ++ (zs ++ z ∷ [])) ≡ (xs ++ (ys ++ zs)) ++ z ∷ []
push-last xs ys zs z = ap (λ l. xs ++ l) (sym (append_assoc ys zs (z ∷ []))) ∙ sym (append_assoc xs (ys ++ zs) (z ∷ []))

empty-tail : (l : List ℕ) (b : Range ℕ) (rs : List (Range ℕ)) → b.end ≤ b.start → rs ≡ []
    → l ++ (numbers_of rs ++ numbers b) ≡ l
empty-tail l b rs le none =
    ap (λ r. l ++ (numbers_of r ++ numbers b)) none ∙ ap (λ m. l ++ m) (numbers-none b.start b.end le) ∙ append-nil l

pub elts-back-last : (f b : Range ℕ) (rs : List (Range ℕ)) (v : List ℕ) → b.start < b.end
    → numbers f ++ (numbers_of rs ++ numbers b) ≡ v
    → v ≡ (numbers f ++ (numbers_of rs ++ numbers (range b.start (b.end - 1)))) ++ (b.end - 1) ∷ []
elts-back-last f b rs v lt view =
    sym view ∙ ap (λ l. numbers f ++ (numbers_of rs ++ l)) (numbers-last b.start b.end lt)
    ∙ push-last (numbers f) (numbers_of rs) (numbers (range b.start (b.end - 1))) (b.end - 1)

pub elts-run-last : (f b r : Range ℕ) (rs ss : List (Range ℕ)) (v : List ℕ) → b.end ≤ b.start → ss ≡ rs ++ r ∷ []
    → AreNonempty ss → numbers f ++ (numbers_of ss ++ numbers b) ≡ v
    → v ≡ (numbers f ++ (numbers_of rs ++ numbers (range r.start (r.end - 1)))) ++ (r.end - 1) ∷ []
elts-run-last f b r rs ss v le step nonempty view =
    let all : AreNonempty rs × (r.start < r.end) = AreNonempty-push rs r (subst AreNonempty step nonempty) in
    sym view ∙ ap (λ l. numbers f ++ (numbers_of ss ++ l)) (numbers-none b.start b.end le)
    ∙ ap (λ l. numbers f ++ l) (append-nil (numbers_of ss) ∙ ap numbers_of step ∙ numbers_of-push rs r)
    ∙ ap (λ l. numbers f ++ (numbers_of rs ++ l)) (numbers-last r.start r.end all.1)
    ∙ push-last (numbers f) (numbers_of rs) (numbers (range r.start (r.end - 1))) (r.end - 1)

pub elts-front-last : (f b : Range ℕ) (rs ss : List (Range ℕ)) (v : List ℕ) → b.end ≤ b.start → f.start < f.end
    → ss ≡ [] → rs ≡ [] → numbers f ++ (numbers_of ss ++ numbers b) ≡ v
    → v ≡ (numbers (range f.start (f.end - 1)) ++ (numbers_of rs ++ numbers b)) ++ (f.end - 1) ∷ []
elts-front-last f b rs ss v le lt none none' view =
    sym view ∙ empty-tail (numbers f) b ss le none ∙ numbers-last f.start f.end lt
    ∙ ap (λ l. l ++ (f.end - 1) ∷ []) (sym (empty-tail (numbers (range f.start (f.end - 1))) b rs le none'))
