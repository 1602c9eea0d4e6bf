-- The least payload of one whose front is in its shortest encoding.
use Rattle.std.proofs.Common.{◌≡◌, ◌≢◌, ℕ, ◌<◌, ◌≤◌, eqb, true, false, List, [], ◌∷◌, ◌++◌, length, map, take, drop, Option, None, refl, sym, ap, subst, ◌∙◌, append_assoc, inl, inr, arith}
use Rattle.std.specs.Prelude.{◌⊎◌}
use Rattle.std.proofs.lemmas.Bool.Decides.{nat_tests}
use Rattle.std.proofs.lemmas.List.{append-nil, length-append, length-take, length-drop, take-append-drop}
use Rattle.quic_base.specs.Number.{AreBytes}
use Rattle.quic_frame_fields.specs.declared.frame.fault.Fault.{Fault}
use Rattle.quic_frame_fields.specs.Payload.{TypedFrame, AreFrames, IsBroken}
use Rattle.quic_frames.specs.Least.{frame_in, shortest_frames}
use Rattle.quic_canon.specs.Front.{IsFront}
use Rattle.quic_canon.specs.Least.{IsLeast}
use Rattle.quic_canon.specs.Refusal.{IsWrong, AppendsLeast}
use Rattle.quic_canon.specs.declared.canonical.CanonError.{CanonError}
use Rattle.quic_canon.specs.declared.canonical.CanonError.TheVariants.{Empty, Invalid, OutOfMemory}
use Rattle.quic_canon.proofs.LeastPayloads.{no_frame, one_least, other_some}
use Rattle.quic_canon.proofs.Cuts.{cases_bool}
use Rattle.quic_canon.proofs.Steps.{from_test}

-- ---- the least payload of one whose front is known

abbrev pub HasLeast : Type 0
HasLeast =
    (found : List TypedFrame) (payload : List ℕ) → payload ≢ [] → AreFrames false found payload
    → IsLeast (shortest_frames (map frame_in found)) payload

pub front_least : (payload : List ℕ) (n : ℕ) → HasLeast → (f : IsFront payload n)
    → IsLeast (take n payload ++ shortest_frames (map frame_in f.others)) payload
front_least payload n has f =
    subst (λ (l : List ℕ). IsLeast l payload) f.cut.parts (has f.found payload f.some f.encoded)

drop_end : (payload : List ℕ) (n : ℕ) → length payload ≤ n → drop n payload ≡ []
drop_end payload n le = nothing (drop n payload) (omega (arith, length-drop n payload, le))
  where
    nothing : (l : List ℕ) → length l ≤ 0 → l ≡ []
    nothing [] le = refl
    nothing (x ∷ l) le = absurd (omega (arith, le))

no_others : (others : List TypedFrame) (bytes : List ℕ) → bytes ≡ [] → AreFrames false others bytes → others ≡ []
no_others [] bytes e s = refl
no_others (f ∷ others) bytes e s = absurd (no_frame f s.0 s.3 (front_nil s.0 s.1 (sym s.2 ∙ e)))
  where
    front_nil : (front back : List ℕ) → front ++ back ≡ [] → front ≡ []
    front_nil [] back e = refl
    front_nil (b ∷ front) back e = absurd cc

pub front_whole : (payload : List ℕ) (n : ℕ) → HasLeast → IsFront payload n → drop n payload ≡ []
    → IsLeast (take n payload) payload
front_whole payload n has f e =
    let none = no_others f.others (drop n payload) e f.cut.back in
    subst (λ (l : List ℕ). IsLeast l payload) (ap (λ (l : List TypedFrame). take n payload
    ++ shortest_frames (map frame_in l)) none ∙ append-nil (take n payload)) (front_least payload n has f)

pub itself_least : (payload : List ℕ) (n : ℕ) → HasLeast → IsFront payload n → n ≡ length payload
    → IsLeast payload payload
itself_least payload n has f e =
    let none = drop_end payload n (omega (arith, e)) in
    let all : take n payload ≡ payload =
    sym (append-nil (take n payload)) ∙ ap (λ (l : List ℕ). take n payload ++ l) (sym none)
    ∙ take-append-drop n payload in
    subst (λ (l : List ℕ). IsLeast l payload) all (front_whole payload n has f none)

-- If the front isn't the whole payload, the least payload is shorter.
pub is_shorter : (payload least : List ℕ) (n : ℕ) → HasLeast → IsFront payload n → n ≢ length payload
    → IsLeast least payload → length least < length payload
is_shorter payload least n has f differs l =
    let within = f.cut.within in
    let lt : n < length payload = less (cases_bool (eqb n (length payload))) in
    let shorter = f.shorter lt in
    let same =
    one_least least (take n payload ++ shortest_frames (map frame_in f.others)) payload l (front_least payload n has f) in
    omega (
      arith,
      ap length same,
      length-append (take n payload) (shortest_frames (map frame_in f.others)),
      length-take n payload,
      shorter,
      within,
    )
  where
    less : ((eqb n (length payload) ≡ true) ⊎ (eqb n (length payload) ≡ false)) → n < length payload
    less (inl e) = absurd (differs (from_test n (length payload) e))
    less (inr e) = let within = f.cut.within in grind (arith, nat_tests)

pub is_not_itself : (payload : List ℕ) (n : ℕ) → HasLeast → IsFront payload n → n ≢ length payload
    → IsLeast payload payload → ⊥
is_not_itself payload n has f differs l = let lt = is_shorter payload payload n has f differs l in omega (arith, lt)

-- ---- what is rejected has none

pub wrong_has_none : (payload least : List ℕ) (e : CanonError) → AreBytes payload
    → ((found : List TypedFrame) (least payload : List ℕ) (type : Option ℕ) (reason : Fault) → AreBytes payload
    → IsBroken false None found payload type reason → IsLeast least payload → ⊥)
    → IsWrong payload e → IsLeast least payload → ⊥
wrong_has_none payload least Empty fits none w l = other_some least payload l.same w.0
wrong_has_none payload least (Invalid i) fits none w l = let b = w.0 in none b.0 least payload b.1 b.2 fits b.3 l
wrong_has_none payload least OutOfMemory fits none w l = absurd (w.1 refl)

pub no_bytes : (l : List ℕ) → eqb (length l) 0 ≡ true → l ≡ []
no_bytes l e = none l (from_test (length l) 0 e)
  where
    none : (l : List ℕ) → length l ≡ 0 → l ≡ []
    none [] e = refl
    none (x ∷ l) e = absurd (omega (arith, e))

-- what was written in two parts, and in one
pub appends_two : (old mid new payload front back : List ℕ) (n : ℕ) → HasLeast → IsFront payload n
    → front ≡ take n payload → back ≡ drop n payload
    → mid ≡ old ++ front
    → ((found : List TypedFrame) → AreFrames false found back → new ≡ mid ++ shortest_frames (map frame_in found))
    → AppendsLeast old new payload
appends_two old mid new payload front back n has f is is_back copied written =
    let others = shortest_frames (map frame_in f.others) in
    let wrote = written f.others (subst (AreFrames false f.others) (sym is_back) f.cut.back) in
    record {
      least = take n payload ++ others;
      is_least = front_least payload n has f;
      appended = wrote ∙ ap (λ (l : List ℕ). l ++ others) (copied ∙ ap (λ (l : List ℕ). old ++ l) is)
          ∙ append_assoc old (take n payload) others;
    }

pub appends_one : (old new payload front back : List ℕ) (n : ℕ) → HasLeast → IsFront payload n → front ≡ take n payload
    → back ≡ drop n payload
    → new ≡ old ++ front → back ≡ [] → AppendsLeast old new payload
appends_one old new payload front back n has f is is_back copied none = record {
  least = take n payload;
  is_least = front_whole payload n has f (sym is_back ∙ none);
  appended = copied ∙ ap (λ (l : List ℕ). old ++ l) is;
}
