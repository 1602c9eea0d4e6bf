-- Frames at their offsets are the items that an iterator returns.
use Rattle.std.proofs.Common.{◌≡◌, ℕ, zero, suc, ◌+◌, ◌<◌, ◌≤◌, Bool, List, [], ◌∷◌, ◌++◌, length, map, Option, Some, None, Ok, refl, sym, ap, subst, ◌∙◌, append_assoc, arith}
use Rattle.std.proofs.lemmas.List.{length-append}
use Rattle.quic_base.specs.Number.{AreBytes}
use Rattle.quic_base.proofs.PublicLaws.{back_bytes}
use Rattle.quic_frame_fields.specs.declared.frame.fault.Fault.{Fault}
use Rattle.quic_frame_fields.specs.Payload.{AreClosed, IsNoFrame, last_type}
use Rattle.quic_frame_fields.specs.Reading.{Item, Whole, Broken, invalid, found_at, items_from, items_of}
use Rattle.quic_frames.specs.Placed.{Placed, ArePlaced, IsPlacedBroken, found_in, whole}
use Rattle.quic_frame_fields.proofs.Steps.{true_is_not_false}
use Rattle.quic_frames.proofs.Frames.{found_again, no_frame_again}
use Rattle.quic_frames.proofs.Items.{end_of, frame_some, is_some_bytes, items_ok, items_none, no_frame_some, stops_at}

-- the first of the items, at its offset
placed_first : (strict : Bool) (p : Placed) (n start : ℕ) (before : Option ℕ) (bytes front back : List ℕ)
    → bytes ≡ front ++ back → 0 < length front → found_at strict before bytes ≡ Ok (p.found, back) → p.start ≡ start
    → p.stop ≡ start + length front
    → (rest : List Item) → items_from strict n p.stop (Some p.found.type) back ≡ rest
    → items_from strict (suc n) start before bytes ≡ whole p ∷ rest
placed_first strict p n start before bytes front back parts some here at stop rest others =
    let sizes : length bytes ≡ length front + length back = ap length parts ∙ length-append front back in
    let end : end_of start bytes back ≡ p.stop = omega (arith, sizes, stop) in
    items_ok strict n start before bytes (p.found, back) (is_some_bytes bytes (omega (arith, sizes, some))) here
    ∙ ap (λ (m : ℕ). Whole start m p.found ∷ items_from strict n m (Some p.found.type) back) end
    ∙ ap (λ (m : ℕ). Whole m p.stop p.found ∷ items_from strict n p.stop (Some p.found.type) back) (sym at)
    ∙ ap (λ (l : List Item). Whole p.start p.stop p.found ∷ l) others

placed_in : (strict : Bool) (ps : List Placed) (n start : ℕ) (before : Option ℕ) (bytes : List ℕ) → length bytes ≤ n
    → ArePlaced strict start ps bytes → items_from strict n start before bytes ≡ map whole ps
placed_in strict [] n start before bytes le s = rw (s, items_none strict n start before) refl
placed_in strict (p ∷ ps) zero start before bytes le s =
    let some = frame_some strict p.found s.0 s.3 in
    absurd (omega (arith, le, some, ap length s.2, length-append s.0 s.1))
placed_in strict (p ∷ ps) (suc n) start before bytes le s =
    let some = frame_some strict p.found s.0 s.3 in
    let here = ap (found_at strict before) s.2 ∙ found_again strict before p.found s.0 s.1 s.3 s.4 in
    placed_first strict p n start before bytes s.0 s.1 s.2 some here s.5 s.6 (map whole ps)
    (placed_in strict ps n p.stop (Some p.found.type) s.1 (omega (arith, le, some, ap length s.2, length-append s.0 s.1)) s.7)

broken_in : (strict : Bool) (ps : List Placed) (n start : ℕ) (before : Option ℕ) (bytes front back : List ℕ)
    (type : Option ℕ) (reason : Fault)
    → AreBytes bytes → length bytes ≤ n → bytes ≡ front ++ back → ArePlaced strict start ps front
    → AreClosed (map found_in ps) → IsNoFrame strict (last_type before (map found_in ps)) back type reason
    → items_from strict n start before bytes ≡ map whole ps ++ Broken (invalid type reason) ∷ []
broken_in strict [] n start before bytes front back type reason fits le parts s closed no_frame =
    let all : bytes ≡ back = parts ∙ ap (λ (l : List ℕ). l ++ back) s in
    let none : IsNoFrame strict before bytes type reason =
    subst (λ (l : List ℕ). IsNoFrame strict before l type reason) (sym all) no_frame in
    stops_at strict n start before bytes (invalid type reason) le (no_frame_some strict before bytes type reason none)
    (no_frame_again strict before bytes type reason fits none)
broken_in strict (p ∷ ps) zero start before bytes front back type reason fits le parts s closed no_frame =
    let some = frame_some strict p.found s.0 s.3 in
    absurd (omega (arith, le, some, ap length parts, length-append front back, ap length s.2, length-append s.0 s.1))
broken_in strict (p ∷ ps) (suc n) start before bytes front back type reason fits le parts s closed no_frame =
    let left = s.1 ++ back in
    let some = frame_some strict p.found s.0 s.3 in
    let regrouped : bytes ≡ s.0 ++ left = parts ∙ ap (λ (l : List ℕ). l ++ back) s.2 ∙ append_assoc s.0 s.1 back in
    let here =
    ap (found_at strict before) regrouped
    ∙ found_again strict before p.found s.0 left s.3 (λ opens. absurd (true_is_not_false (sym opens ∙ closed.0))) in
    placed_first strict p n start before bytes s.0 left regrouped some here s.5 s.6 (map whole ps ++ Broken (invalid type reason) ∷ [])
    (broken_in strict ps n p.stop (Some p.found.type) left s.1 back type reason
    (back_bytes s.0 left (subst AreBytes regrouped fits))
    (omega (arith, le, some, ap length regrouped, length-append s.0 left)) refl s.7 closed.1 no_frame)

pub placed_items : (strict : Bool) (ps : List Placed) (bytes : List ℕ) → ArePlaced strict 0 ps bytes
    → items_of strict 0 None bytes ≡ map whole ps
unfolding items_of
placed_items strict ps bytes s = placed_in strict ps (length bytes) 0 None bytes (omega arith) s

pub broken_items : (strict : Bool) (ps : List Placed) (bytes : List ℕ) (type : Option ℕ) (reason : Fault)
    → AreBytes bytes → IsPlacedBroken strict ps bytes type reason
    → items_of strict 0 None bytes ≡ map whole ps ++ Broken (invalid type reason) ∷ []
unfolding items_of
broken_items strict ps bytes type reason fits s =
    broken_in strict ps (length bytes) 0 None bytes s.front s.back type reason fits (omega arith) s.parts s.frames s.closed s.no_frame
