-- The lines of the first parameters, and of one more.
use Rattle.std.proofs.Common.{◌≡◌, ℕ, zero, suc, ◌+◌, ◌<◌, ◌≤◌, arith, refl, List, [], ◌∷◌, ◌++◌, length, take, get_or, sym, ap, ◌∙◌, append_assoc}
use Rattle.std.proofs.lemmas.Grind.{flat_map-append}
use Rattle.std.proofs.lemmas.List.{append-nil, take_more}
use Rattle.std.specs.List.{flat_map, list_all}
use Rattle.std.specs.Prelude.{codes, true, Option, Some, None, Ok}
use Rattle.quic_params.specs.Table.{ids}
use Rattle.quic_params.specs.Writing.{value_written}
use Rattle.quic_params.specs.declared.parameter.TransportParameterId.{TransportParameterId}
use Rattle.quic_params.specs.declared.record.TransportParameters.{TransportParameters}
use Rattle.quic_params.specs.declared.value.Value.{Value}
use Rattle.quic_text.specs.Printed.{Printed, Plain, line_bytes, is_plain}
use Rattle.quic_text.specs.ParameterText.{value_lines, answer_lines}

pub one_more : {X : Type 0} (f : X → List Printed) (xs : List X) (k : ℕ) (d x : X) (old mid new : List ℕ)
    → k < length xs → x ≡ get_or xs k d
    → mid ≡ old ++ flat_map line_bytes (flat_map f (take k xs)) → new ≡ mid ++ flat_map line_bytes (f x)
    → new ≡ old ++ flat_map line_bytes (flat_map f (take (k + 1) xs))
one_more {X = X} f xs k d x old mid new lt same so_far more =
    let lines : flat_map f (take (k + 1) xs) ≡ flat_map f (take k xs) ++ f x =
    ap (flat_map f) (take_more xs k d lt) ∙ flat_map-append f (take k xs) (get_or xs k d ∷ [])
    ∙ ap (λ (l : List Printed). flat_map f (take k xs) ++ l) (append-nil (f (get_or xs k d)) ∙ ap f (sym same)) in
    more ∙ ap (λ (l : List ℕ). l ++ flat_map line_bytes (f x)) so_far
    ∙ append_assoc old (flat_map line_bytes (flat_map f (take k xs))) (flat_map line_bytes (f x))
    ∙ ap (λ (l : List ℕ). old ++ l) (sym (ap (flat_map line_bytes) lines ∙ flat_map-append line_bytes (flat_map f (take k xs)) (f x)))

pub all_of : {X : Type 0} (f : X → List Printed) (xs : List X) (k : ℕ) (old new : List ℕ) → length xs ≤ k
    → new ≡ old ++ flat_map line_bytes (flat_map f (take k xs)) → new ≡ old ++ flat_map line_bytes (flat_map f xs)
all_of {X = X} f xs k old new le so_far =
    so_far ∙ ap (λ (l : List X). old ++ flat_map line_bytes (flat_map f l)) (take_all k xs le)
  where
    take_all : {Y : Type 0} (k : ℕ) (ys : List Y) → length ys ≤ k → take k ys ≡ ys
    take_all zero [] le = refl
    take_all (suc k) [] le = refl
    take_all zero (y ∷ ys) le = absurd (omega (arith, le))
    take_all {Y = Y} (suc k) (y ∷ ys) le = ap (λ (l : List Y). y ∷ l) (take_all k ys (omega (arith, le)))

-- no line of a record is an `error` line
plain_value : (id : TransportParameterId) (o : Option Value) (others rest : List Printed)
    → list_all is_plain ((value_lines id o ++ others) ++ rest) ≡ list_all is_plain (others ++ rest)
plain_value id None others rest = refl
plain_value id (Some v) others rest = refl

plain_lines : (p : TransportParameters) (xs : List TransportParameterId) (rest : List Printed)
    → list_all is_plain rest ≡ true
    → list_all is_plain (flat_map (λ id. value_lines id (value_written p id)) xs ++ rest) ≡ true
plain_lines p [] rest h = h
plain_lines p (x ∷ xs) rest h =
    plain_value x (value_written p x) (flat_map (λ id. value_lines id (value_written p id)) xs) rest
    ∙ plain_lines p xs rest h

pub plain_record : (p : TransportParameters) → list_all is_plain (answer_lines (Ok p)) ≡ true
plain_record p = plain_lines p ids (Plain (codes "ok") ∷ []) refl
